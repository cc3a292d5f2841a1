-- The kind of a value, from the kinds of its parts.
use Rattle.std.proofs.Common.{◌≡◌, ◌≢◌, ℕ, zero, suc, ◌<◌, false, List, [], ◌∷◌, ◌++◌, take, length, get_or, Option, Some, None, String, Global, string_bytes, string_cmp, nat_cmp, Ordering, Less, Equal, Greater, IsTrue, IfSome, refl, sym, ap, ◌∙◌, subst, arith}
use Rattle.std.proofs.lemmas.Bool.{true≢false}
use Rattle.std.specs.Bool.{⊤}
use Rattle.std.specs.Cmp.Lexicographic.{slice_cmp}
use Rattle.std.specs.List.{AllByRecursion}
use Rattle.std.specs.List.Sorted.{IsStrictlySortedBy}
use Rattle.std.specs.Map.{keys_of}
use Rattle.std.specs.Ordering.{match_ordering}
use Rattle.vrl_value.specs.Look.{Step, field, place, raw_at, found_if, found_behind, tag_found, item_at}
use Rattle.vrl_value.specs.Tag.{tag_of}
use Rattle.vrl_value.specs.Tree.{Tree, string, integer, boolean, null, timestamp, regex, array, object, find}
use Rattle.vrl_value.specs.View.{tree_of, items_view, members_view}
use Rattle.vrl_value.specs.declared.value.Value.{Value}
use Rattle.vrl_value.specs.declared.value.Tag.{Tag}
use Rattle.vrl_value.specs.declared.value.Tag.TheVariants as tag
use Rattle.vrl_kind.specs.KindTree.{KindTree, kind, ListTree, list_part, ObjectTree, object_part, nothing}
use Rattle.vrl_kind.specs.declared.kind.KindField.{KindField}
use Rattle.vrl_kind.specs.declared.scalars.Scalars.{Scalars}
use Rattle.vrl_kind.specs.Canonical.{IsBeforeFields, PlacesAreCanonical, FieldsAreCanonical, LastIsNot, NoFieldIs, rest_kind, place_or, field_or}
use Rattle.vrl_kind.specs.Inference.{IsKindOf, IsListOfValue, IsObjectOfValue}
use Rattle.vrl_kind.specs.Kinds.{tags_at, has_list, has_object, found_at, option_tags, Inhabits}
use Rattle.vrl_kind.specs.Scalars.{scalars_only}
use Rattle.vrl_kind.specs.Tags.{Tags, same_tag, only}
use Rattle.vrl_kind.specs.View.{places_view, fields_view}
use Rattle.vrl_kind.proofs.Known.{list_place, object_field, one_set, rest_tags}
use Rattle.vrl_kind.proofs.Shapes.{only_tags}

-- the tag of a part, or that it isn't there
abbrev pub part_tags : Option Tree → List Step → Tags
part_tags o p = option_tags (tag_found (found_behind (found_if o) p (λ u. raw_at u p)))

-- the rest of a value's kind says that nothing is there
lacking : (p : List Step) → tags_at (rest_kind nothing) p ≡ part_tags None p
lacking [] = rest_tags nothing []
lacking (s ∷ p) = rest_tags nothing (s ∷ p)

root_at : (s : Scalars) (l : ListTree) (o : ObjectTree) (u : Tag) → s ≡ scalars_only u → has_list l ≡ same_tag u tag.List → has_object o ≡ same_tag u tag.Object → (t : Tag) → tags_at (kind s l o) [] t ≡ only u t
root_at s l o u e f g tag.Text = ap (λ z. z.string) e ∙ ap (λ T. T tag.Text) (only_tags u [])
root_at s l o u e f g tag.Int = ap (λ z. z.integer) e ∙ ap (λ T. T tag.Int) (only_tags u [])
root_at s l o u e f g tag.Bool = ap (λ z. z.boolean) e ∙ ap (λ T. T tag.Bool) (only_tags u [])
root_at s l o u e f g tag.Null = ap (λ z. z.null) e ∙ ap (λ T. T tag.Null) (only_tags u [])
root_at s l o u e f g tag.Time = ap (λ z. z.timestamp) e ∙ ap (λ T. T tag.Time) (only_tags u [])
root_at s l o u e f g tag.Pattern = ap (λ z. z.regex) e ∙ ap (λ T. T tag.Pattern) (only_tags u [])
root_at s l o u e f g tag.List = f
root_at s l o u e f g tag.Object = g
root_at s l o u e f g tag.Absent = ap (λ z. z.absent) e ∙ ap (λ T. T tag.Absent) (only_tags u [])

found_tags : (s : Scalars) (l : ListTree) (o : ObjectTree) (v : Tree) → s ≡ scalars_only (tag_of v) → IsListOfValue l v → IsObjectOfValue o v → (p : List Step) → tags_at (kind s l o) p ≡ found_at v p
found_tags s l o v e list fields [] = one_set _ _ (root_at s l o (tag_of v) e list.root fields.root)
found_tags s l o v e list fields (place i ∷ p) = list.tags i p
found_tags s l o v e list fields (field n ∷ p) = fields.tags n p

tag_itself : (t : Tag) → IsTrue (only t t)
tag_itself tag.Text = refl
tag_itself tag.Int = refl
tag_itself tag.Bool = refl
tag_itself tag.Null = refl
tag_itself tag.Time = refl
tag_itself tag.Pattern = refl
tag_itself tag.List = refl
tag_itself tag.Object = refl
tag_itself tag.Absent = refl

allowed : (o : Option Tag) (T : Tags) → T ≡ option_tags o → IfSome o (λ t. IsTrue (T t))
allowed None T e = tt
allowed (Some t) T e = ap (λ U. U t) e ∙ tag_itself t

-- a value is of its kind
pub found_inhabits : (k : KindTree) (v : Tree) → IsKindOf k v → Inhabits v k
found_inhabits k v is p = allowed (tag_found (raw_at v p)) (tags_at k p) (is.tags p)

pub there_at : (v : Tree) → only (tag_of v) tag.Absent ≡ false
there_at (string s) = refl
there_at (integer n) = refl
there_at (boolean b) = refl
there_at null = refl
there_at (timestamp nanos) = refl
there_at (regex n) = refl
there_at (array ts) = refl
there_at (object ms) = refl

-- the kind of a value isn't that of nothing
not_lacking : (k : KindTree) (v : Tree) → IsKindOf k v → k ≢ rest_kind nothing
not_lacking k v is e = true≢false (sym (ap (λ l. tags_at l [] tag.Absent) e) ∙ ap (λ T. T tag.Absent) (is.tags []) ∙ there_at v)

-- kinds of values, one by one
abbrev pub AreKindsOf : List KindTree → List Value → Type 0
AreKindsOf [] [] = ⊤
AreKindsOf [] (v ∷ vs) = ⊥
AreKindsOf (k ∷ ks) [] = ⊥
AreKindsOf (k ∷ ks) (v ∷ vs) = IsKindOf k (tree_of v) × AreKindsOf ks vs

pub kinds_pushed : (ks : List KindTree) (vs : List Value) (i next : ℕ) (k : KindTree) (v : Value) → next ≡ suc i → i < length vs → v ≡ get_or vs i v → AreKindsOf ks (take i vs) → IsKindOf k (tree_of v) → AreKindsOf (ks ++ k ∷ []) (take next vs)
kinds_pushed ks [] i next k v e below is all new = absurd (omega arith)
kinds_pushed [] (x ∷ vs) zero next k v e below is all new = rw e (subst (λ u. IsKindOf k (tree_of u)) is new, tt)
kinds_pushed (l ∷ ks) (x ∷ vs) zero next k v e below is all new = absurd all
kinds_pushed [] (x ∷ vs) (suc i) next k v e below is all new = absurd all
kinds_pushed (l ∷ ks) (x ∷ vs) (suc i) next k v e below is all new = rw e (all.0, kinds_pushed ks vs i (suc i) k v refl (omega arith) is all.1 new)

place_found : (ks : List KindTree) (vs : List Value) (i : ℕ) (p : List Step) → AreKindsOf ks vs → tags_at (place_or (places_view ks) (rest_kind nothing) i) p ≡ part_tags (item_at i (items_view vs)) p
place_found [] [] i p all = lacking p
place_found [] (v ∷ vs) i p all = absurd all
place_found (k ∷ ks) [] i p all = absurd all
place_found (k ∷ ks) (v ∷ vs) zero p all = all.0.tags p
place_found (k ∷ ks) (v ∷ vs) (suc i) p all = place_found ks vs i p all.1

places_canonical : (ks : List KindTree) (vs : List Value) → AreKindsOf ks vs → PlacesAreCanonical (places_view ks)
places_canonical [] vs all = tt
places_canonical (k ∷ ks) [] all = absurd all
places_canonical (k ∷ ks) (v ∷ vs) all = (all.0.canonical, places_canonical ks vs all.1)

last_found : (ks : List KindTree) (vs : List Value) → AreKindsOf ks vs → LastIsNot (rest_kind nothing) (places_view ks)
last_found [] vs all = tt
last_found (k ∷ ks) [] all = absurd all
last_found (k ∷ []) (v ∷ vs) all = not_lacking k (tree_of v) all.0
last_found (k ∷ l ∷ ks) (v ∷ vs) all = last_found (l ∷ ks) vs all.1

-- the arrays of an array's kind
pub list_found : (ks : List KindTree) (vs : List Value) → AreKindsOf ks vs → IsListOfValue (list_part (places_view ks) nothing) (array (items_view vs))
list_found ks vs all = record {
  root = refl;
  tags = λ i p. list_place (places_view ks) nothing i p ∙ place_found ks vs i p all;
  canonical = (places_canonical ks vs all, tt, last_found ks vs all);
}

-- fields with the names and the kinds of entries, one by one
abbrev pub AreFieldsOf : List KindField → List (String Global × Value) → Type 0
AreFieldsOf [] [] = ⊤
AreFieldsOf [] (e ∷ es) = ⊥
AreFieldsOf (f ∷ fs) [] = ⊥
AreFieldsOf (f ∷ fs) (e ∷ es) = (f.name ≡ string_bytes e.0) × IsKindOf f.kind (tree_of e.1) × AreFieldsOf fs es

pub fields_pushed : (fs : List KindField) (es : List (String Global × Value)) (f : KindField) (e : String Global × Value) → AreFieldsOf fs es → f.name ≡ string_bytes e.0 → IsKindOf f.kind (tree_of e.1) → AreFieldsOf (fs ++ f ∷ []) (es ++ e ∷ [])
fields_pushed [] [] f e all named new = (named, new, tt)
fields_pushed [] (d ∷ es) f e all named new = absurd all
fields_pushed (g ∷ fs) [] f e all named new = absurd all
fields_pushed (g ∷ fs) (d ∷ es) f e all named new = (all.0, all.1, fields_pushed fs es f e all.2 named new)

field_found_at : (o : Ordering) (k l : KindTree) (t : Tree) (rest : Option Tree) (p : List Step) → IsKindOf k t → tags_at l p ≡ part_tags rest p → tags_at (match_ordering o l k l) p ≡ part_tags (match_ordering o rest (Some t) rest) p
field_found_at Less k l t rest p is others = others
field_found_at Equal k l t rest p is others = is.tags p
field_found_at Greater k l t rest p is others = others

field_found : (fs : List KindField) (es : List (String Global × Value)) (n : List ℕ) (p : List Step) → AreFieldsOf fs es → tags_at (field_or (fields_view fs) (rest_kind nothing) n) p ≡ part_tags (find n (members_view es)) p
field_found [] [] n p all = lacking p
field_found [] (e ∷ es) n p all = absurd all
field_found (f ∷ fs) [] n p all = absurd all
field_found (f ∷ fs) (e ∷ es) n p all =
    ap (λ m. tags_at (match_ordering (slice_cmp nat_cmp n m) (field_or (fields_view fs) (rest_kind nothing) n) f.kind (field_or (fields_view fs) (rest_kind nothing) n)) p) all.0
    ∙ field_found_at (slice_cmp nat_cmp n (string_bytes e.0)) f.kind _ (tree_of e.1) _ p all.1 (field_found fs es n p all.2)

before_found : (key : String Global) (n : List ℕ) (fs : List KindField) (es : List (String Global × Value)) → n ≡ string_bytes key → AllByRecursion (λ k. string_cmp key k ≡ Less) (keys_of es) → AreFieldsOf fs es → IsBeforeFields n (fields_view fs)
before_found key n [] es e below all = tt
before_found key n (f ∷ fs) [] e below all = absurd all
before_found key n (f ∷ fs) (d ∷ es) e below all = (rw (e, all.0) below.0, before_found key n fs es e below.1 all.2)

fields_canonical : (fs : List KindField) (es : List (String Global × Value)) → IsStrictlySortedBy string_cmp (keys_of es) → AreFieldsOf fs es → FieldsAreCanonical (fields_view fs)
unfolding IsStrictlySortedBy
fields_canonical [] es sorted all = tt
fields_canonical (f ∷ fs) [] sorted all = absurd all
fields_canonical (f ∷ fs) (e ∷ es) sorted all = (before_found e.0 f.name fs es all.0 sorted.0 all.2, all.1.canonical, fields_canonical fs es sorted.1 all.2)

no_field_found : (fs : List KindField) (es : List (String Global × Value)) → AreFieldsOf fs es → NoFieldIs (rest_kind nothing) (fields_view fs)
no_field_found [] es all = tt
no_field_found (f ∷ fs) [] all = absurd all
no_field_found (f ∷ fs) (e ∷ es) all = (not_lacking f.kind (tree_of e.1) all.1, no_field_found fs es all.2)

-- the objects of an object's kind
pub object_found : (fs : List KindField) (es : List (String Global × Value)) → IsStrictlySortedBy string_cmp (keys_of es) → AreFieldsOf fs es → IsObjectOfValue (object_part (fields_view fs) nothing) (object (members_view es))
object_found fs es sorted all = record {
  root = refl;
  tags = λ n p. object_field (fields_view fs) nothing n p ∙ field_found fs es n p all;
  canonical = (fields_canonical fs es sorted all, tt, no_field_found fs es all);
}
