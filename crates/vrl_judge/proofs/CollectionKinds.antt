-- The kinds of keys and parts of a collection, and of the value of a call with a closure.
use Rattle.std.proofs.Common.{◌≡◌, Bool, true, false, ◌||◌, ◌&&◌, ℕ, zero, suc, List, [], ◌∷◌, ◌++◌, length, Some, Ordering, Less, Equal, Greater, if◌then◌else◌, refl, sym, ap, ap₂, ◌∙◌, arith}
use Rattle.std.proofs.Math.Bool.{and-false}
use Rattle.std.proofs.Math.Path.{fun_ext}
use Rattle.std.proofs.lemmas.Bool.{true≢false}
use Rattle.std.specs.Cmp.Lexicographic.{slice_cmp}
use Rattle.std.specs.List.{list_any}
use Rattle.std.specs.Ordering.{nat_cmp, match_ordering}
use Rattle.vrl_value.specs.Look.{Step, field, place}
use Rattle.vrl_value.specs.declared.value.Tag.{Tag}
use Rattle.vrl_kind.specs.Canonical.{list_tree, object_tree}
use Rattle.vrl_kind.specs.Change.{with_list, with_object}
use Rattle.vrl_kind.specs.KindTree.{KindTree, kind, ListTree, no_list, list_part, ObjectTree, no_object, object_part, RestTree, nothing, json_rest, any_rest, exact, Places, no_places, KnownFields}
use Rattle.vrl_kind.specs.Kinds.{any_at, fields_at, has_list, has_object, is_absence, json_at, list_at, never_at, object_at, only_at, or_absent, places_at, rest_at, root_tags, tags_at, IsParts, SameTags}
use Rattle.vrl_kind.specs.Make.{named_view}
use Rattle.vrl_kind.specs.PartSets.{parts_at}
use Rattle.vrl_kind.specs.Sets.{Sets, SameSets}
use Rattle.vrl_kind.specs.Tags.{Tags, all_tags, never, same_tag}
use Rattle.vrl_kind.specs.View.{fields_view, places_view}
use Rattle.vrl_kind.specs.declared.kind.KindField.{KindField}
use Rattle.vrl_kind.specs.declared.scalars.Scalars.{Scalars}
use Rattle.vrl_kind.proofs.SomePart.{parts_are_computed}
use Rattle.vrl_place.specs.Sets.{is_alone}
use Rattle.vrl_place.proofs.Looked.{named_end}
use Rattle.vrl_place.proofs.Orders.{tags_cases}
use Rattle.vrl_place.proofs.Same.{or_false, or_true}
use Rattle.vrl_place.proofs.Views.{object_over}
use Rattle.vrl_state.specs.States.{IsCutOf, IsEither, IsPresent}
use Rattle.vrl_syntax.specs.declared.call_form.CallForm.{CallForm}
use Rattle.vrl_syntax.specs.declared.call_form.CallForm.TheVariants as form
use Rattle.vrl_builtin.specs.PartKinds.{array_parts_at, arrays_alone}
use Rattle.vrl_builtin.proofs.Containers.{absent_so}
use Rattle.vrl_judge.specs.ChangedParts.{fields_made, kept_field, kept_place, put_part, put_place, with_places, AreFieldsMade, ArePlacesMade}
use Rattle.vrl_judge.specs.Closures.{call_at, filtered_at, key_tags, mapped_at, mapped_part}
use Rattle.vrl_judge.specs.Partners.{only_where}
use Rattle.vrl_judge.specs.Rules.{scalars_at, some_tag}
use Rattle.vrl_judge.proofs.Containers.{same_turned}
use Rattle.vrl_value.specs.declared.value.Tag.TheVariants as tag

-- ---- some tag

and_true : (b : Bool) → b ≡ (b && true)
and_true true = refl
and_true false = refl

pub possible : (K : KindTree) → list_any (λ t. root_tags K t) all_tags ≡ some_tag (λ t. true) K
unfolding some_tag
possible K = ap (λ f. list_any f all_tags) (fun_ext (λ t. and_true (root_tags K t)))

-- ---- keys and parts

keys_at : (C : KindTree) (text integer : Bool) → text ≡ root_tags C tag.Object → integer ≡ root_tags C tag.List → (t : Tag) → (only_where text tag.Text t || only_where integer tag.Int t) ≡ key_tags C t
keys_at C text integer is also t =
    ap₂ (λ a b. (a && same_tag tag.Text t) || (b && same_tag tag.Int t)) is also
    ∙ ap₂ (λ a b. (root_tags C tag.Object && a) || (root_tags C tag.List && b)) (same_turned tag.Text t) (same_turned tag.Int t)

keys_sets : (C : KindTree) (text integer : Bool) → text ≡ root_tags C tag.Object → integer ≡ root_tags C tag.List
    → SameSets (λ p t. scalars_at (only_where text tag.Text) p t || scalars_at (only_where integer tag.Int) p t) (scalars_at (key_tags C))
keys_sets C text integer is also [] t = keys_at C text integer is also t
keys_sets C text integer is also (s ∷ p) t = refl

pub keys_cut : (C T I M : KindTree) (text integer : Bool) → text ≡ root_tags C tag.Object → integer ≡ root_tags C tag.List → SameSets (tags_at T) (scalars_at (only_where text tag.Text)) → SameSets (tags_at I) (scalars_at (only_where integer tag.Int))
    → IsEither T I M → IsCutOf (scalars_at (key_tags C)) M
keys_cut C T I M text integer is also texts integers either = record {
  whole = either.whole;
  canonical = either.canonical;
  tags = λ p t. either.tags p t ∙ ap₂ (λ a b. a || b) (texts p t) (integers p t) ∙ keys_sets C text integer is also p t;
  cut = either.cut;
}

never_both : (a b : Bool) → ((a && false) || (b && false)) ≡ false
never_both a b = rw (and-false a, and-false b) refl

pub keys_present : (C : KindTree) → key_tags C tag.Absent ≡ false
keys_present C = never_both (root_tags C tag.Object) (root_tags C tag.List)

pub parts_present : (C : KindTree) → parts_at C [] tag.Absent ≡ false
parts_present (kind s l o) = and-false _

pub parts_told : (C M : KindTree) → IsParts C M → SameSets (tags_at M) (parts_at C)
parts_told C M is = (parts_are_computed C M).0 is

-- the value of a call is never absent
pub call_present : (f : CallForm) (C K : KindTree) → IsPresent C → call_at f C K [] tag.Absent ≡ false
call_present form.Del C K present = refl
call_present form.Exists C K present = refl
call_present form.ForEach C K present = refl
call_present form.Filter C K present = present
call_present form.MapValues C K present = present
call_present form.MapKeys C K present = refl

pub never_sets : (p : List Step) (t : Tag) → never_at p t ≡ scalars_at never p t
never_sets [] t = refl
never_sets (s ∷ p) t = refl

-- ---- one part

absence_alone : (p : List Step) (t : Tag) → only_at tag.Absent p t ≡ is_absence p t
absence_alone [] t = same_turned tag.Absent t
absence_alone (field n ∷ p) t = refl
absence_alone (place i ∷ p) t = refl

-- nothing is put where nothing ever is
pub part_gone : (T : Tags) (K : KindTree) → is_alone T tag.Absent ≡ true → SameSets (only_at tag.Absent) (mapped_part T K)
part_gone T K alone p t = absence_alone p t ∙ sym (ap (λ b. if b then is_absence p t else (tags_at K p t || (T tag.Absent && is_absence p t))) alone)

put_or_gone : (K : KindTree) (p : List Step) (t : Tag) → or_absent p (tags_at K p) t ≡ (tags_at K p t || is_absence p t)
put_or_gone K [] t = ap (λ b. tags_at K [] t || b) (same_turned tag.Absent t)
put_or_gone K (s ∷ p) t = sym (or_false (tags_at K (s ∷ p) t))

-- a value is put, or nothing is there
pub part_put : (T : Tags) (K : KindTree) → is_alone T tag.Absent ≡ false → T tag.Absent ≡ true → SameSets (λ p. or_absent p (tags_at K p)) (mapped_part T K)
part_put T K other absent p t =
    put_or_gone K p t ∙ ap (λ b. tags_at K p t || (b && is_absence p t)) (sym absent) ∙ sym (ap (λ b. if b then is_absence p t else (tags_at K p t || (T tag.Absent && is_absence p t))) other)

-- a value is put
pub part_stays : (T : Tags) (K : KindTree) → is_alone T tag.Absent ≡ false → T tag.Absent ≡ false → SameSets (tags_at K) (mapped_part T K)
part_stays T K other present p t =
    sym (or_false (tags_at K p t)) ∙ ap (λ b. tags_at K p t || (b && is_absence p t)) (sym present) ∙ sym (ap (λ b. if b then is_absence p t else (tags_at K p t || (T tag.Absent && is_absence p t))) other)

-- ---- what stands where nothing is known by itself

absent_in : (alone x a s : Bool) → a ≡ true → ((if alone then s else (x || (a && s))) || s) ≡ (if alone then s else (x || (a && s)))
absent_in true x a true is = refl
absent_in true x a false is = refl
absent_in false true a s is = refl
absent_in false false true true is = refl
absent_in false false true false is = refl
absent_in false false false s is = absurd (true≢false (sym is))

-- where a part may be absent, so may what is put there
absent_still : (T : Tags) (K : KindTree) → T tag.Absent ≡ true → (p : List Step) (t : Tag) → or_absent p (mapped_part T K p) t ≡ mapped_part T K p t
absent_still T K absent [] t =
    ap (λ b. mapped_part T K [] t || b) (same_turned tag.Absent t) ∙ absent_in (is_alone T tag.Absent) (tags_at K [] t) (T tag.Absent) (same_tag t tag.Absent) absent
absent_still T K absent (s ∷ p) t = refl

rest_absent : (r : RestTree) → rest_at r [] tag.Absent ≡ true
rest_absent nothing = refl
rest_absent json_rest = refl
rest_absent any_rest = refl
rest_absent (exact K) = or_true (tags_at K [] tag.Absent)

pub rest_put : (r s : RestTree) (own put K : KindTree) → ((p : List Step) → tags_at own p ≡ rest_at r p) → SameSets (tags_at put) (mapped_part (root_tags own) K) → s ≡ exact put → SameSets (rest_at s) (mapped_part (rest_at r []) K)
rest_put r s own put K whole made is p t =
    ap (λ x. rest_at x p t) is
    ∙ absent_so p (tags_at put p) (mapped_part (rest_at r []) K p) t (made p t ∙ ap (λ T. mapped_part T K p t) (whole []))
    ∙ absent_still (rest_at r []) K (rest_absent r) p t

or_twice : (a b : Bool) → (a || b) ≡ ((a || b) || b)
or_twice true b = refl
or_twice false true = refl
or_twice false false = refl

-- it may be absent anyhow
absent_twice : (r : RestTree) (p : List Step) (t : Tag) → rest_at r p t ≡ or_absent p (rest_at r p) t
absent_twice nothing [] t = or_twice (never_at [] t) (same_tag tag.Absent t)
absent_twice json_rest [] t = or_twice (json_at [] t) (same_tag tag.Absent t)
absent_twice any_rest [] t = or_twice (any_at [] t) (same_tag tag.Absent t)
absent_twice (exact K) [] t = or_twice (tags_at K [] t) (same_tag tag.Absent t)
absent_twice nothing (s ∷ p) t = refl
absent_twice json_rest (s ∷ p) t = refl
absent_twice any_rest (s ∷ p) t = refl
absent_twice (exact K) (s ∷ p) t = refl

-- ---- known fields, the last of them first

made_so : (f : KindTree → Sets) (fs : List KindField) (n : List ℕ) (p : List Step) (T U : Tags) (t : Tag) → T t ≡ U t → fields_made f fs n p T t ≡ fields_made f fs n p U t
made_so f [] n p T U t same = same
made_so f (g ∷ fs) n p T U t same = tags_cases (slice_cmp nat_cmp n g.name) _ _ _ _ _ _ t (made_so f fs n p T U t same) refl (made_so f fs n p T U t same)

made_back : (f : KindTree → Sets) (fs : List KindField) (g : KindField) (n : List ℕ) (p : List Step) (T : Tags) (t : Tag) → fields_made f (fs ++ g ∷ []) n p T t ≡ fields_made f fs n p (fields_made f (g ∷ []) n p T) t
made_back f [] g n p T t = refl
made_back f (h ∷ fs) g n p T t = tags_cases (slice_cmp nat_cmp n h.name) _ _ _ _ _ _ t (made_back f fs g n p T t) refl (made_back f fs g n p T t)

-- the fields that are left, and behind them those that were made, say what all of them say
pub record AreLeft (f : KindTree → Sets) (fs ls : List KindField) (named : List (List ℕ × KindTree)) : Type 0 where
  pub same : (n : List ℕ) (p : List Step) (T : Tags) (t : Tag) → fields_made f ls n p (fields_at (named_view named) n p T) t ≡ fields_made f fs n p T t

pub one_made : (f : KindTree → Sets) (g : KindField) (fs ls rs : List KindField) (named news : List (List ℕ × KindTree)) (K : KindTree) → ls ≡ rs ++ g ∷ [] → news ≡ named ++ (g.name, K) ∷ [] → SameSets (tags_at K) (f g.kind) → AreLeft f fs ls named → AreLeft f fs rs news
one_made f g fs ls rs named news K e more made left = record {
  same = λ n p T t.
      made_so f rs n p _ (fields_made f (g ∷ []) n p (fields_at (named_view named) n p T)) t
      (ap (λ xs. fields_at (named_view xs) n p T t) more ∙ ap (λ x. fields_at x n p T t) (named_end named g.name K)
      ∙ tags_cases (slice_cmp nat_cmp n g.name) (fields_at (named_view named) n p T) (tags_at K p) (fields_at (named_view named) n p T) (fields_at (named_view named) n p T) (f g.kind p) (fields_at (named_view named) n p T) t refl (made p t) refl)
      ∙ sym (made_back f rs g n p (fields_at (named_view named) n p T) t)
      ∙ ap (λ xs. fields_made f xs n p (fields_at (named_view named) n p T) t) (sym e)
      ∙ left.same n p T t;
}

pub all_made : (f : KindTree → Sets) (fs ls : List KindField) (named : List (List ℕ × KindTree)) → length ls ≡ 0 → AreLeft f fs ls named → AreFieldsMade f fs named
all_made f fs [] named none left = record { at = λ n p T t. left.same n p T t }
all_made f fs (g ∷ ls) named none left = absurd (omega arith)

turned_at : (o : Ordering) (G : Tags → Tags) (X A Y B : Tags) (t : Tag) → X t ≡ G Y t → A t ≡ G B t → match_ordering o X A X t ≡ G (match_ordering o Y B Y) t
turned_at Less G X A Y B t others here = others
turned_at Equal G X A Y B t others here = here
turned_at Greater G X A Y B t others here = others

-- what is made of each field's kind is made of what the fields allow at a name
fields_turned : (G : Tags → Tags) (f : KindTree → Sets) (q p : List Step) (t : Tag) → ((K : KindTree) → f K p t ≡ G (tags_at K q) t) → (fs : List KindField) (n : List ℕ) (T U : Tags) → U t ≡ G T t
    → fields_made f fs n p U t ≡ G (fields_at (fields_view fs) n q T) t
fields_turned G f q p t each [] n T U rest = rest
fields_turned G f q p t each (g ∷ fs) n T U rest =
    turned_at (slice_cmp nat_cmp n g.name) G (fields_made f fs n p U) (f g.kind p) (fields_at (fields_view fs) n q T) (tags_at g.kind q) t (fields_turned G f q p t each fs n T U rest) (each g.kind)

-- ---- known places

places_turned : (K : KindTree) (Ks Ls : List KindTree) (r s : RestTree) → ArePlacesMade (put_part K) Ks Ls → SameSets (rest_at s) (mapped_part (rest_at r []) K)
    → (i : ℕ) (p : List Step) (t : Tag) → places_at (places_view Ls) i p (rest_at s p) t ≡ mapped_part (places_at (places_view Ks) i [] (rest_at r [])) K p t
places_turned K [] [] r s made rest i p t = rest p t
places_turned K [] (L ∷ Ls) r s made rest i p t = absurd made
places_turned K (M ∷ Ks) [] r s made rest i p t = absurd made
places_turned K (M ∷ Ks) (L ∷ Ls) r s made rest zero p t = made.0 p t
places_turned K (M ∷ Ks) (L ∷ Ls) r s made rest (suc i) p t = places_turned K Ks Ls r s made.1 rest i p t

-- ---- the arrays of a collection

at_place : (C : KindTree) (i : ℕ) (p : List Step) → tags_at C (place i ∷ p) ≡ list_at (list_tree C) i p
at_place (kind s l o) i p = refl

arrays_in : (C : KindTree) → root_tags C tag.List ≡ has_list (list_tree C)
arrays_in (kind s l o) = refl

none_at : (l : ListTree) → has_list l ≡ false → (i : ℕ) (p : List Step) (t : Tag) → list_at l i p t ≡ false
none_at no_list none i p t = refl
none_at (list_part ps r) none i p t = absurd (true≢false none)

lists_stay : (C : KindTree) (S : ℕ → Sets) → root_tags C tag.List ≡ false → SameSets (tags_at C) (with_places C S)
lists_stay C S none [] t = refl
lists_stay (kind s l o) S none (place i ∷ p) t = none_at l none i p t ∙ ap (λ b. b && S i p t) (sym none)
lists_stay (kind s l o) S none (field n ∷ p) t = refl

-- without arrays nothing is changed
pub no_lists : (C M : KindTree) (S : ℕ → Sets) → root_tags C tag.List ≡ false → M ≡ C → SameSets (tags_at M) (with_places C S)
no_lists C M S none same p t = ap (λ K. tags_at K p t) same ∙ lists_stay C S none p t

pub no_list_part : (C M : KindTree) (S : ℕ → Sets) → list_tree C ≡ no_list → M ≡ C → SameSets (tags_at M) (with_places C S)
no_list_part C M S none same = no_lists C M S (arrays_in C ∙ ap has_list none) same

list_root : (s : Scalars) (l : ListTree) (o : ObjectTree) (ps : Places) (r : RestTree) → has_list l ≡ true → (t : Tag) → root_tags (kind s (list_part ps r) o) t ≡ root_tags (kind s l o) t
list_root s l o ps r some tag.Text = refl
list_root s l o ps r some tag.Int = refl
list_root s l o ps r some tag.Bool = refl
list_root s l o ps r some tag.Null = refl
list_root s l o ps r some tag.Time = refl
list_root s l o ps r some tag.Pattern = refl
list_root s l o ps r some tag.List = sym some
list_root s l o ps r some tag.Object = refl
list_root s l o ps r some tag.Absent = refl

lists_changed : (C M : KindTree) (S : ℕ → Sets) (ps : Places) (r : RestTree) → root_tags C tag.List ≡ true → SameTags M (with_list C ps r) → ((i : ℕ) (p : List Step) (t : Tag) → places_at ps i p (rest_at r p) t ≡ S i p t)
    → SameSets (tags_at M) (with_places C S)
lists_changed (kind s l o) M S ps r some made at [] t = made [] t ∙ list_root s l o ps r some t
lists_changed (kind s l o) M S ps r some made at (place i ∷ p) t = made (place i ∷ p) t ∙ at i p t ∙ ap (λ b. b && S i p t) (sym some)
lists_changed (kind s l o) M S ps r some made at (field n ∷ p) t = made (field n ∷ p) t

-- behind a filter any part of the arrays may stand at each place
pub lists_filtered : (C M P : KindTree) (ps : Places) (r : RestTree) → root_tags C tag.List ≡ true → ps ≡ no_places → r ≡ exact P → SameSets (tags_at P) (array_parts_at (Some C)) → SameTags M (with_list C ps r) → SameSets (tags_at M) (with_places C (kept_place C))
lists_filtered C M P ps r some none is parts made =
    lists_changed C M (kept_place C) ps r some made (λ i p t.
    ap (λ qs. places_at qs i p (rest_at r p) t) none ∙ ap (λ x. rest_at x p t) is ∙ absent_so p (tags_at P p) (parts_at (arrays_alone C) p) t (parts p t))

-- a value is put in each place
pub lists_mapped : (C M K : KindTree) (Ks Ls : List KindTree) (ps : Places) (r s : RestTree) → list_tree C ≡ list_part ps r → places_view Ks ≡ ps → ArePlacesMade (put_part K) Ks Ls → SameSets (rest_at s) (mapped_part (rest_at r []) K)
    → SameTags M (with_list C (places_view Ls) s) → SameSets (tags_at M) (with_places C (put_place C K))
lists_mapped C M K Ks Ls ps r s is known made rest whole =
    lists_changed C M (put_place C K) (places_view Ls) s (arrays_in C ∙ ap has_list is) whole (λ i p t.
    places_turned K Ks Ls r s made rest i p t
    ∙ ap (λ T. mapped_part T K p t) (ap (λ qs. places_at qs i [] (rest_at r [])) known ∙ sym (at_place C i [] ∙ ap (λ l. list_at l i []) is)))

-- ---- and its objects

-- C with these sets in place of what stands at its places and at its fields
abbrev pub with_parts : KindTree → (ℕ → Sets) → (List ℕ → Sets) → Sets
with_parts C S R [] t = root_tags C t
with_parts C S R (place i ∷ p) t = root_tags C tag.List && S i p t
with_parts C S R (field n ∷ p) t = root_tags C tag.Object && R n p t

at_field : (C : KindTree) (n : List ℕ) (p : List Step) → tags_at C (field n ∷ p) ≡ object_at (object_tree C) n p
at_field (kind s l o) n p = refl

objects_in : (C : KindTree) → root_tags C tag.Object ≡ has_object (object_tree C)
objects_in (kind s l o) = refl

no_fields_at : (C : KindTree) → object_tree C ≡ no_object → (R : Bool) (n : List ℕ) (p : List Step) (t : Tag) → tags_at C (field n ∷ p) t ≡ (root_tags C tag.Object && R)
no_fields_at C none R n p t = ap (λ T. T t) (at_field C n p) ∙ ap (λ o. object_at o n p t) none ∙ ap (λ b. b && R) (sym (objects_in C ∙ ap has_object none))

no_objects : (C L : KindTree) (S : ℕ → Sets) (R : List ℕ → Sets) → object_tree C ≡ no_object → SameSets (tags_at L) (with_places C S) → SameSets (tags_at L) (with_parts C S R)
no_objects C L S R none lists [] t = lists [] t
no_objects C L S R none lists (place i ∷ p) t = lists (place i ∷ p) t
no_objects C L S R none lists (field n ∷ p) t = lists (field n ∷ p) t ∙ no_fields_at C none (R n p t) n p t

object_there : (C : KindTree) → root_tags C tag.Object ≡ true → (t : Tag) → (root_tags C t || same_tag t tag.Object) ≡ root_tags C t
object_there C some tag.Text = or_false _
object_there C some tag.Int = or_false _
object_there C some tag.Bool = or_false _
object_there C some tag.Null = or_false _
object_there C some tag.Time = or_false _
object_there C some tag.Pattern = or_false _
object_there C some tag.List = or_false _
object_there C some tag.Object = or_true _ ∙ sym some
object_there C some tag.Absent = or_false _

objects_changed : (C L M : KindTree) (S : ℕ → Sets) (R : List ℕ → Sets) (fs : KnownFields) (r : RestTree) → root_tags C tag.Object ≡ true → SameSets (tags_at L) (with_places C S) → SameTags M (with_object L fs r)
    → ((n : List ℕ) (p : List Step) (t : Tag) → fields_at fs n p (rest_at r p) t ≡ R n p t) → SameSets (tags_at M) (with_parts C S R)
objects_changed C L M S R fs r some lists made at [] t = object_over L M (with_places C S) fs r lists made [] t ∙ object_there C some t
objects_changed C L M S R fs r some lists made at (place i ∷ p) t = object_over L M (with_places C S) fs r lists made (place i ∷ p) t
objects_changed C L M S R fs r some lists made at (field n ∷ p) t = object_over L M (with_places C S) fs r lists made (field n ∷ p) t ∙ at n p t ∙ ap (λ b. b && R n p t) (sym some)

-- ---- behind a filter

abbrev kept_name : KindTree → List ℕ → Sets
kept_name C n p = or_absent p (tags_at C (field n ∷ p))

as_filtered : (C M : KindTree) → SameSets (tags_at M) (with_parts C (kept_place C) (kept_name C)) → SameSets (tags_at M) (filtered_at C)
as_filtered C M same [] t = same [] t
as_filtered C M same (place i ∷ p) t = same (place i ∷ p) t
as_filtered C M same (field n ∷ p) t = same (field n ∷ p) t

pub lists_alone_filtered : (C L : KindTree) → object_tree C ≡ no_object → SameSets (tags_at L) (with_places C (kept_place C)) → SameSets (tags_at L) (filtered_at C)
lists_alone_filtered C L none lists = as_filtered C L (no_objects C L (kept_place C) (kept_name C) none lists)

pub objects_filtered : (C L M : KindTree) (gs : List KindField) (named : List (List ℕ × KindTree)) (fs : KnownFields) (r s : RestTree) → object_tree C ≡ object_part fs r → fields_view gs ≡ fs → s ≡ r → AreFieldsMade kept_field gs named
    → SameSets (tags_at L) (with_places C (kept_place C)) → SameTags M (with_object L (named_view named) s) → SameSets (tags_at M) (filtered_at C)
objects_filtered C L M gs named fs r s is known same made lists whole =
    as_filtered C M (objects_changed C L M (kept_place C) (kept_name C) (named_view named) s (objects_in C ∙ ap has_object is) lists whole (λ n p t.
    made.at n p (rest_at s p) t
    ∙ fields_turned (or_absent p) kept_field p p t (λ K. refl) gs n (rest_at r p) (rest_at s p) (ap (λ x. rest_at x p t) same ∙ absent_twice r p t)
    ∙ ap (λ T. or_absent p T t) (ap (λ x. fields_at x n p (rest_at r p)) known ∙ sym (at_field C n p ∙ ap (λ o. object_at o n p) is))))

-- ---- where values are put

abbrev put_name : KindTree → KindTree → List ℕ → Sets
put_name C K n = mapped_part (tags_at C (field n ∷ [])) K

as_mapped : (C K M : KindTree) → SameSets (tags_at M) (with_parts C (put_place C K) (put_name C K)) → SameSets (tags_at M) (mapped_at C K)
as_mapped C K M same [] t = same [] t
as_mapped C K M same (place i ∷ p) t = same (place i ∷ p) t
as_mapped C K M same (field n ∷ p) t = same (field n ∷ p) t

pub lists_alone_mapped : (C K L : KindTree) → object_tree C ≡ no_object → SameSets (tags_at L) (with_places C (put_place C K)) → SameSets (tags_at L) (mapped_at C K)
lists_alone_mapped C K L none lists = as_mapped C K L (no_objects C L (put_place C K) (put_name C K) none lists)

pub objects_mapped : (C K L M : KindTree) (gs : List KindField) (named : List (List ℕ × KindTree)) (fs : KnownFields) (r s : RestTree) → object_tree C ≡ object_part fs r → fields_view gs ≡ fs → AreFieldsMade (put_part K) gs named → SameSets (rest_at s) (mapped_part (rest_at r []) K)
    → SameSets (tags_at L) (with_places C (put_place C K)) → SameTags M (with_object L (named_view named) s) → SameSets (tags_at M) (mapped_at C K)
objects_mapped C K L M gs named fs r s is known made rest lists whole =
    as_mapped C K M (objects_changed C L M (put_place C K) (put_name C K) (named_view named) s (objects_in C ∙ ap has_object is) lists whole (λ n p t.
    made.at n p (rest_at s p) t
    ∙ fields_turned (λ T. mapped_part T K p) (put_part K) [] p t (λ F. refl) gs n (rest_at r []) (rest_at s p) (rest p t)
    ∙ ap (λ T. mapped_part T K p t) (ap (λ x. fields_at x n [] (rest_at r [])) known ∙ sym (at_field C n [] ∙ ap (λ o. object_at o n []) is))))
