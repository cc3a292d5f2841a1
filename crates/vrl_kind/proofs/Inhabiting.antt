-- When a value is of a kind, part by part.
use Rattle.std.proofs.Common.{◌≡◌, ℕ, ℤ, zero, suc, ◌≤◌, Bool, true, false, List, [], ◌∷◌, Option, Some, None, unwrap_or, nat_cmp, Ordering, Less, Equal, Greater, is_eq, IsTrue, IfSome, ◌<◌, length, get_or, ltb, String, Global, string_bytes, string_cmp, refl, sym, ap, ◌∙◌, subst, arith}
use Rattle.std.proofs.lemmas.Bool.{ltb-true, true≢false, and_parts}
use Rattle.std.proofs.lemmas.Bool.Decides.{nat_tests}
use Rattle.std.proofs.lemmas.Cmp.{nat_list_cmp_total, tied_itself}
use Rattle.std.specs.Cmp.Lexicographic.{slice_cmp}
use Rattle.std.specs.List.{list_all, AllByRecursion}
use Rattle.std.specs.List.Sorted.{IsStrictlySortedBy}
use Rattle.std.specs.Map.{keys_of}
use Rattle.std.specs.Ordering.{match_ordering, ordering_reverse}
use Rattle.vrl_value.specs.Look.{Step, field, place, raw_at, part_at, no_place, found_if, found_behind, tag_found, item_at}
use Rattle.vrl_value.specs.Tag.{tag_of}
use Rattle.vrl_value.specs.Tree.{Tree, string, integer, boolean, null, timestamp, regex, array, object, Items, Members, no_members, member, find, IsBefore}
use Rattle.vrl_value.specs.View.{tree_of, items_view, members_view}
use Rattle.vrl_value.specs.declared.value.Value.{Value}
use Rattle.vrl_value.specs.declared.value.Tag.{Tag}
use Rattle.vrl_value.specs.declared.value.Tag.TheVariants as tag
use Rattle.vrl_kind.specs.KindTree.{KindTree, kind, ListTree, no_list, list_part, ObjectTree, no_object, object_part, RestTree, Places, KnownFields, no_fields, known_field}
use Rattle.vrl_kind.specs.declared.kind.KindField.{KindField}
use Rattle.vrl_kind.specs.declared.scalars.Scalars.{Scalars}
use Rattle.vrl_kind.specs.Canonical.{allows_absent, with_absent, any_kind, rest_kind, bare_rest, place_or, field_or, scalars_of, list_tree, object_tree, IsBeforeFields}
use Rattle.vrl_kind.specs.Kinds.{tags_at, root_tags, has_list, has_object, Inhabits, any_at, or_absent}
use Rattle.vrl_kind.specs.Membership.{PartInhabits, ItemsInhabit, MembersInhabit, IsFound, IsLacking}
use Rattle.vrl_kind.specs.Merge.{FieldsAreSorted, with_field}
use Rattle.vrl_kind.specs.View.{places_view, fields_view}
use Rattle.vrl_kind.proofs.Ahead.{here, not_here}
use Rattle.vrl_kind.proofs.Inclusion.{any_full}
use Rattle.vrl_kind.proofs.Known.{list_place, object_field}
use Rattle.vrl_kind.proofs.Slices.{place_beyond}
use Rattle.vrl_kind.proofs.Merging.{one_name, before_through}

-- a value without parts
leaf_at : (b : Bool) (v : Tree) (K : KindTree) → b ≡ root_tags K (tag_of v) → ((s : Step) → part_at v s ≡ no_place) → IsTrue b → (p : List Step) → IfSome (tag_found (raw_at v p)) (λ t. IsTrue (tags_at K p t))
leaf_at b v K e none is [] = sym e ∙ is
leaf_at b v K e none is (s ∷ p) = rw (none s) tt

leaf : (b : Bool) (v : Tree) (K : KindTree) → b ≡ root_tags K (tag_of v) → ((s : Step) → part_at v s ≡ no_place) → (IsTrue b → Inhabits v K) × (Inhabits v K → IsTrue b)
leaf b v K e none = (leaf_at b v K e none, λ inhabits. e ∙ inhabits [])

pub string_inhabits : (x : List ℕ) (K : KindTree) (s : Scalars) → s ≡ scalars_of K → (IsTrue s.string → Inhabits (string x) K) × (Inhabits (string x) K → IsTrue s.string)
string_inhabits x (kind u l o) s e = leaf s.string (string x) (kind u l o) (ap (λ z. z.string) e) (λ st. refl)

pub integer_inhabits : (x : ℤ) (K : KindTree) (s : Scalars) → s ≡ scalars_of K → (IsTrue s.integer → Inhabits (integer x) K) × (Inhabits (integer x) K → IsTrue s.integer)
integer_inhabits x (kind u l o) s e = leaf s.integer (integer x) (kind u l o) (ap (λ z. z.integer) e) (λ st. refl)

pub boolean_inhabits : (x : Bool) (K : KindTree) (s : Scalars) → s ≡ scalars_of K → (IsTrue s.boolean → Inhabits (boolean x) K) × (Inhabits (boolean x) K → IsTrue s.boolean)
boolean_inhabits x (kind u l o) s e = leaf s.boolean (boolean x) (kind u l o) (ap (λ z. z.boolean) e) (λ st. refl)

pub null_inhabits : (K : KindTree) (s : Scalars) → s ≡ scalars_of K → (IsTrue s.null → Inhabits null K) × (Inhabits null K → IsTrue s.null)
null_inhabits (kind u l o) s e = leaf s.null null (kind u l o) (ap (λ z. z.null) e) (λ st. refl)

pub timestamp_inhabits : (x : ℤ) (K : KindTree) (s : Scalars) → s ≡ scalars_of K → (IsTrue s.timestamp → Inhabits (timestamp x) K) × (Inhabits (timestamp x) K → IsTrue s.timestamp)
timestamp_inhabits x (kind u l o) s e = leaf s.timestamp (timestamp x) (kind u l o) (ap (λ z. z.timestamp) e) (λ st. refl)

pub regex_inhabits : (x : ℕ) (K : KindTree) (s : Scalars) → s ≡ scalars_of K → (IsTrue s.regex → Inhabits (regex x) K) × (Inhabits (regex x) K → IsTrue s.regex)
regex_inhabits x (kind u l o) s e = leaf s.regex (regex x) (kind u l o) (ap (λ z. z.regex) e) (λ st. refl)

any_root : (b : Bool) (v : Tree) → IsTrue (tags_at (with_absent b any_kind) [] (tag_of v))
any_root b (string x) = refl
any_root b (integer x) = refl
any_root b (boolean x) = refl
any_root b null = refl
any_root b (timestamp x) = refl
any_root b (regex x) = refl
any_root b (array ts) = refl
any_root b (object ms) = refl

any_below : (o : Option Tag) (p : List Step) → IfSome o (λ t. IsTrue (or_absent p (any_at p) t))
any_below None p = tt
any_below (Some t) p = any_full p t

-- every value is of the kind of all
pub any_inhabits : (b : Bool) (v : Tree) → Inhabits v (with_absent b any_kind)
any_inhabits b v [] = any_root b v
any_inhabits b v (field n ∷ p) = any_below (tag_found (raw_at v (field n ∷ p))) p
any_inhabits b v (place i ∷ p) = any_below (tag_found (raw_at v (place i ∷ p))) p

-- whether a kind may be absent is a tag of its root
pub absent_is : (K : KindTree) → allows_absent K ≡ tags_at K [] tag.Absent
absent_is (kind s l o) = refl

part_to : (o : Option Tree) (K : KindTree) → PartInhabits o K → (p : List Step) → IfSome (tag_found (found_behind (found_if o) p (λ u. raw_at u p))) (λ t. IsTrue (tags_at K p t))
part_to None K h [] = sym (absent_is K) ∙ h
part_to None K h (s ∷ p) = tt
part_to (Some t) K h p = h p

part_from : (o : Option Tree) (K : KindTree) → ((p : List Step) → IfSome (tag_found (found_behind (found_if o) p (λ u. raw_at u p))) (λ t. IsTrue (tags_at K p t))) → PartInhabits o K
part_from None K h = absent_is K ∙ h []
part_from (Some t) K h = h

array_to : (ts : Items) (s : Scalars) (ps : Places) (r : RestTree) (o : ObjectTree) → ItemsInhabit ts ps r → (p : List Step) → IfSome (tag_found (raw_at (array ts) p)) (λ t. IsTrue (tags_at (kind s (list_part ps r) o) p t))
array_to ts s ps r o h [] = refl
array_to ts s ps r o h (field n ∷ p) = tt
array_to ts s ps r o h (place i ∷ p) = rw (list_place ps r i p) (part_to (item_at i ts) (place_or ps (rest_kind r) i) (h i) p)

array_from : (ts : Items) (s : Scalars) (ps : Places) (r : RestTree) (o : ObjectTree) → Inhabits (array ts) (kind s (list_part ps r) o) → ItemsInhabit ts ps r
array_from ts s ps r o h i = part_from (item_at i ts) (place_or ps (rest_kind r) i) (λ p. rw (list_place ps r i p) at (h (place i ∷ p)))

array_is : (ts : Items) (s : Scalars) (l : ListTree) (o : ObjectTree) (ps : Places) (r : RestTree) → list_part ps r ≡ l → (ItemsInhabit ts ps r → Inhabits (array ts) (kind s l o)) × (Inhabits (array ts) (kind s l o) → ItemsInhabit ts ps r)
array_is ts s l o ps r e = subst (λ m. (ItemsInhabit ts ps r → Inhabits (array ts) (kind s m o)) × (Inhabits (array ts) (kind s m o) → ItemsInhabit ts ps r)) e (array_to ts s ps r o, array_from ts s ps r o)

-- an array is of a kind where its items are
pub array_inhabits : (ts : Items) (K : KindTree) (ps : Places) (r : RestTree) → list_part ps r ≡ list_tree K → (ItemsInhabit ts ps r → Inhabits (array ts) K) × (Inhabits (array ts) K → ItemsInhabit ts ps r)
array_inhabits ts (kind s l o) ps r e = array_is ts s l o ps r e

pub no_array_inhabits : (ts : Items) (K : KindTree) → no_list ≡ list_tree K → Inhabits (array ts) K → ⊥
no_array_inhabits ts (kind s l o) e h = true≢false (sym (h []) ∙ ap has_list (sym e))

object_to : (ms : Members) (s : Scalars) (fs : KnownFields) (r : RestTree) (l : ListTree) → MembersInhabit ms fs r → (p : List Step) → IfSome (tag_found (raw_at (object ms) p)) (λ t. IsTrue (tags_at (kind s l (object_part fs r)) p t))
object_to ms s fs r l h [] = refl
object_to ms s fs r l h (place i ∷ p) = tt
object_to ms s fs r l h (field n ∷ p) = rw (object_field fs r n p) (part_to (find n ms) (field_or fs (rest_kind r) n) (h n) p)

object_from : (ms : Members) (s : Scalars) (fs : KnownFields) (r : RestTree) (l : ListTree) → Inhabits (object ms) (kind s l (object_part fs r)) → MembersInhabit ms fs r
object_from ms s fs r l h n = part_from (find n ms) (field_or fs (rest_kind r) n) (λ p. rw (object_field fs r n p) at (h (field n ∷ p)))

object_is : (ms : Members) (s : Scalars) (l : ListTree) (o : ObjectTree) (fs : KnownFields) (r : RestTree) → object_part fs r ≡ o → (MembersInhabit ms fs r → Inhabits (object ms) (kind s l o)) × (Inhabits (object ms) (kind s l o) → MembersInhabit ms fs r)
object_is ms s l o fs r e = subst (λ q. (MembersInhabit ms fs r → Inhabits (object ms) (kind s l q)) × (Inhabits (object ms) (kind s l q) → MembersInhabit ms fs r)) e (object_to ms s fs r l, object_from ms s fs r l)

-- an object is of a kind where its members are
pub object_inhabits : (ms : Members) (K : KindTree) (fs : KnownFields) (r : RestTree) → object_part fs r ≡ object_tree K → (MembersInhabit ms fs r → Inhabits (object ms) K) × (Inhabits (object ms) K → MembersInhabit ms fs r)
object_inhabits ms (kind s l o) fs r e = object_is ms s l o fs r e

pub no_object_inhabits : (ms : Members) (K : KindTree) → no_object ≡ object_tree K → Inhabits (object ms) K → ⊥
no_object_inhabits ms (kind s l o) e h = true≢false (sym (h []) ∙ ap has_object (sym e))

absent_with : (b : Bool) (K : KindTree) → allows_absent (with_absent b K) ≡ b
absent_with b (kind s l o) = refl

-- what a rest says may be absent
pub rest_absent : (r : RestTree) → IsTrue (allows_absent (rest_kind r))
rest_absent r = absent_with true (bare_rest r)

-- a part of this kind is one of another that is the same
pub part_moved : (o q : Option Tree) (K L : KindTree) → o ≡ q → K ≡ L → PartInhabits o K → PartInhabits q L
part_moved o q K L e f h = subst (λ M. PartInhabits q M) f (subst (λ z. PartInhabits z K) e h)

-- the members with this one in front, if there is one
abbrev pub with_member : List ℕ → Option Tree → Members → Members
with_member n None ms = ms
with_member n (Some t) ms = member n t ms

unfound : (n : List ℕ) (ms : Members) → IsBefore n ms → find n ms ≡ None
unfound n no_members before = refl
unfound n (member m t ms) before = rw (before.0) (unfound n ms before.1)

found_here : (n : List ℕ) (o : Option Tree) (ms : Members) → IsBefore n ms → find n (with_member n o ms) ≡ o
found_here n None ms before = unfound n ms before
found_here n (Some t) ms before = rw (tied_itself nat_list_cmp_total n) refl

passed : (o : Ordering) (a b : Option Tree) → is_eq o ≡ false → match_ordering o a b a ≡ a
passed Less a b e = refl
passed Equal a b e = absurd (true≢false e)
passed Greater a b e = refl

pub found_elsewhere : (n m : List ℕ) (o : Option Tree) (ms : Members) → is_eq (slice_cmp nat_cmp m n) ≡ false → find m (with_member n o ms) ≡ find m ms
found_elsewhere n m None ms e = refl
found_elsewhere n m (Some t) ms e = passed (slice_cmp nat_cmp m n) (find m ms) (Some t) e

pub equal_order : (o : Ordering) → is_eq o ≡ true → o ≡ Equal
equal_order Less e = absurd (true≢false (sym e))
equal_order Equal e = refl
equal_order Greater e = absurd (true≢false (sym e))

-- the parts of one name, and those that come behind it
turn_to : (n m : List ℕ) (o : Option Tree) (k : Option KindTree) (ms : Members) (fs : KnownFields) (r : RestTree) (b : Bool) → is_eq (slice_cmp nat_cmp m n) ≡ b → IsBefore n ms → IsBeforeFields n fs
    → PartInhabits o (unwrap_or k (rest_kind r)) → MembersInhabit ms fs r → PartInhabits (find m (with_member n o ms)) (field_or (with_field n k fs) (rest_kind r) m)
turn_to n m o k ms fs r true e before also h all =
    subst (λ l. PartInhabits (find l (with_member n o ms)) (field_or (with_field n k fs) (rest_kind r) l)) (sym (one_name m n (equal_order _ e)))
    (part_moved _ _ _ _ (sym (found_here n o ms before)) (sym (here (rest_kind r) n k fs also)) h)
turn_to n m o k ms fs r false e before also h all = part_moved _ _ _ _ (sym (found_elsewhere n m o ms e)) (sym (not_here (rest_kind r) n m k fs e)) (all m)

turn_from : (n m : List ℕ) (o : Option Tree) (k : Option KindTree) (ms : Members) (fs : KnownFields) (r : RestTree) (b : Bool) → is_eq (slice_cmp nat_cmp m n) ≡ b → IsBefore n ms → IsBeforeFields n fs
    → MembersInhabit (with_member n o ms) (with_field n k fs) r → PartInhabits (find m ms) (field_or fs (rest_kind r) m)
turn_from n m o k ms fs r true e before also all =
    subst (λ l. PartInhabits (find l ms) (field_or fs (rest_kind r) l)) (sym (one_name m n (equal_order _ e)))
    (part_moved _ _ _ _ (sym (found_here n None ms before)) (sym (here (rest_kind r) n None fs also)) (rest_absent r))
turn_from n m o k ms fs r false e before also all = part_moved _ _ _ _ (found_elsewhere n m o ms e) (not_here (rest_kind r) n m k fs e) (all m)

pub turn : (n : List ℕ) (o : Option Tree) (k : Option KindTree) (ms : Members) (fs : KnownFields) (r : RestTree) → IsBefore n ms → IsBeforeFields n fs
    → (MembersInhabit (with_member n o ms) (with_field n k fs) r → PartInhabits o (unwrap_or k (rest_kind r)) × MembersInhabit ms fs r)
    × (PartInhabits o (unwrap_or k (rest_kind r)) × MembersInhabit ms fs r → MembersInhabit (with_member n o ms) (with_field n k fs) r)
turn n o k ms fs r before also = (
  λ all. (part_moved _ _ _ _ (found_here n o ms before) (here (rest_kind r) n k fs also) (all n), λ m. turn_from n m o k ms fs r _ refl before also all),
  λ both m. turn_to n m o k ms fs r _ refl before also both.0 both.1,
)

before_members : (n m : List ℕ) (ms : Members) → slice_cmp nat_cmp n m ≡ Less → IsBefore m ms → IsBefore n ms
before_members n m no_members less before = tt
before_members n m (member l t ms) less before = (nat_list_cmp_total.trans n m l less before.0, before_members n m ms less before.1)

-- what a walk over the fields up to a name has before it: the members of that name say the same of these fields
pub record IsSkipped (n : List ℕ) (fs gs : KnownFields) : Type 0 where
  pub sorted : FieldsAreSorted gs
  pub same : (t : Tree) (ms : Members) (r : RestTree) → IsBefore n ms → (MembersInhabit (member n t ms) fs r → MembersInhabit (member n t ms) gs r) × (MembersInhabit (member n t ms) gs r → MembersInhabit (member n t ms) fs r)

-- a field before the name, which may be absent
pub skipped_next : (n m : List ℕ) (k : KindTree) (fs gs hs : KnownFields) → IsSkipped n fs gs → gs ≡ known_field m k hs → slice_cmp nat_cmp m n ≡ Less → IsTrue (allows_absent k) → IsSkipped n fs hs
skipped_next n m k fs gs hs skipped is less absent =
    let sorted = subst FieldsAreSorted is skipped.sorted in record {
      sorted = sorted.1;
      same = λ t ms r before.
          let step = turn m None (Some k) (member n t ms) hs r (less, before_members m n ms less before) sorted.0 in
          let both = skipped.same t ms r before in (
            λ all. (step.0 (subst (λ z. MembersInhabit (member n t ms) z r) is (both.0 all))).1,
            λ all. both.1 (subst (λ z. MembersInhabit (member n t ms) z r) (sym is) (step.1 (absent, all))),
          );
    }

-- and one that may not
pub skipped_lacking : (n m : List ℕ) (k : KindTree) (fs gs hs : KnownFields) → IsSkipped n fs gs → gs ≡ known_field m k hs → slice_cmp nat_cmp m n ≡ Less → allows_absent k ≡ false → IsLacking n fs
skipped_lacking n m k fs gs hs skipped is less absent t ms r before all =
    let sorted = subst FieldsAreSorted is skipped.sorted in
    let step = turn m None (Some k) (member n t ms) hs r (less, before_members m n ms less before) sorted.0 in
    true≢false (sym (step.0 (subst (λ z. MembersInhabit (member n t ms) z r) is ((skipped.same t ms r before).0 all))).0 ∙ absent)

-- at the name, or past it
skipped_found : (n : List ℕ) (k : Option KindTree) (fs gs hs : KnownFields) → IsSkipped n fs gs → gs ≡ with_field n k hs → FieldsAreSorted hs → IsBeforeFields n hs → IsFound n fs k hs
skipped_found n k fs gs hs skipped is sorted also = record {
  sorted = sorted;
  same = λ t ms r before.
      let step = turn n (Some t) k ms hs r before also in
      let both = skipped.same t ms r before in (
        λ all. step.0 (subst (λ z. MembersInhabit (member n t ms) z r) is (both.0 all)),
        λ parts. both.1 (subst (λ z. MembersInhabit (member n t ms) z r) (sym is) (step.1 parts)),
      );
}

pub skipped_here : (n m : List ℕ) (k : KindTree) (fs gs hs : KnownFields) → IsSkipped n fs gs → gs ≡ known_field m k hs → slice_cmp nat_cmp m n ≡ Equal → IsFound n fs (Some k) hs
skipped_here n m k fs gs hs skipped is equal =
    let sorted = subst FieldsAreSorted is skipped.sorted in
    let name = one_name m n equal in
    skipped_found n (Some k) fs gs hs skipped (is ∙ ap (λ l. known_field l k hs) name) sorted.1 (subst (λ l. IsBeforeFields l hs) name sorted.0)

pub skipped_past : (n m : List ℕ) (k : KindTree) (fs gs hs : KnownFields) → IsSkipped n fs gs → gs ≡ known_field m k hs → slice_cmp nat_cmp m n ≡ Greater → IsFound n fs None gs
skipped_past n m k fs gs hs skipped is greater =
    let less : slice_cmp nat_cmp n m ≡ Less = nat_list_cmp_total.antisymm n m ∙ ap ordering_reverse greater in
    let sorted = subst FieldsAreSorted is skipped.sorted in
    skipped_found n None fs gs gs skipped refl skipped.sorted (subst (IsBeforeFields n) (sym is) (less, before_through n m hs less sorted.0))

pub skipped_all : (n : List ℕ) (fs gs : KnownFields) → IsSkipped n fs gs → gs ≡ no_fields → IsFound n fs None gs
skipped_all n fs gs skipped is = skipped_found n None fs gs gs skipped refl skipped.sorted (subst (IsBeforeFields n) (sym is) tt)

left_out_to : (fs : List KindField) (r : RestTree) → FieldsAreSorted (fields_view fs) → list_all (λ f. allows_absent f.kind) fs ≡ true → MembersInhabit no_members (fields_view fs) r
left_out_to [] r sorted all = λ n. rest_absent r
left_out_to (f ∷ fs) r sorted all =
    let parts = and_parts (allows_absent f.kind) (list_all (λ g. allows_absent g.kind) fs) all in
    (turn f.name None (Some f.kind) no_members (fields_view fs) r tt sorted.0).1 (parts.0, left_out_to fs r sorted.1 parts.1)

left_out_from : (fs : List KindField) (r : RestTree) → FieldsAreSorted (fields_view fs) → MembersInhabit no_members (fields_view fs) r → list_all (λ f. allows_absent f.kind) fs ≡ true
left_out_from [] r sorted all = refl
left_out_from (f ∷ fs) r sorted all =
    let parts = (turn f.name None (Some f.kind) no_members (fields_view fs) r tt sorted.0).0 all in
    rw (parts.0) (left_out_from fs r sorted.1 parts.1)

-- no members at all are of the kinds of the fields where each of these may be absent
pub left_out : (b : Bool) (fs : List KindField) (r : RestTree) → b ≡ list_all (λ f. allows_absent f.kind) fs → FieldsAreSorted (fields_view fs)
    → (IsTrue b → MembersInhabit no_members (fields_view fs) r) × (MembersInhabit no_members (fields_view fs) r → IsTrue b)
left_out b fs r e sorted = (λ is. left_out_to fs r sorted (sym e ∙ is), λ all. e ∙ left_out_from fs r sorted all)

-- one equivalence for another
pub both_moved : (b : Bool) (o q : Option Tree) (K L : KindTree) → o ≡ q → K ≡ L → (IsTrue b → PartInhabits o K) × (PartInhabits o K → IsTrue b) → (IsTrue b → PartInhabits q L) × (PartInhabits q L → IsTrue b)
both_moved b o q K L e f both = (λ is. part_moved o q K L e f (both.0 is), λ h. both.1 (part_moved q o L K (sym e) (sym f) h))

pub value_moved : (b : Bool) (v w : Tree) (K : KindTree) → v ≡ w → (IsTrue b → Inhabits w K) × (Inhabits w K → IsTrue b) → (IsTrue b → Inhabits v K) × (Inhabits v K → IsTrue b)
value_moved b v w K e both = both_moved b (Some w) (Some v) K K (ap Some (sym e)) refl both

pub lacking_inhabits : (b : Bool) (K : KindTree) → (IsTrue b → PartInhabits None (with_absent b K)) × (PartInhabits None (with_absent b K) → IsTrue b)
lacking_inhabits b K = (λ is. absent_with b K ∙ is, λ is. sym (absent_with b K) ∙ is)

pub item_there : (vs : List Value) (i : ℕ) (v : Value) → i < length vs → v ≡ get_or vs i v → Some (tree_of v) ≡ item_at i (items_view vs)
item_there [] i v below is = absurd (omega arith)
item_there (x ∷ vs) zero v below is = ap (λ u. Some (tree_of u)) is
item_there (x ∷ vs) (suc i) v below is = item_there vs i v (omega arith) is

pub item_beyond : (vs : List Value) (i : ℕ) → length vs ≤ i → None ≡ item_at i (items_view vs)
item_beyond [] i above = refl
item_beyond (x ∷ vs) zero above = absurd (omega arith)
item_beyond (x ∷ vs) (suc i) above = item_beyond vs i (omega arith)

item_well : (vs : List Value) (ks : List KindTree) (r : RestTree) (n i : ℕ) → length vs ≤ n → length ks ≤ n → ((j : ℕ) → j < n → PartInhabits (item_at j (items_view vs)) (place_or (places_view ks) (rest_kind r) j)) → (b : Bool) → ltb i n ≡ b
    → PartInhabits (item_at i (items_view vs)) (place_or (places_view ks) (rest_kind r) i)
item_well vs ks r n i a c all true e = all i (ltb-true i n e)
item_well vs ks r n i a c all false e =
    let beyond : n ≤ i = grind (arith, nat_tests) in
    part_moved _ _ _ _ (item_beyond vs i (omega arith)) (sym (place_beyond ks (rest_kind r) i (omega arith))) (rest_absent r)

-- where the known places and the items end, the others are well
pub items_well : (vs : List Value) (ks : List KindTree) (r : RestTree) (n : ℕ) → length vs ≤ n → length ks ≤ n → ((j : ℕ) → j < n → PartInhabits (item_at j (items_view vs)) (place_or (places_view ks) (rest_kind r) j)) → ItemsInhabit (items_view vs) (places_view ks) r
items_well vs ks r n a c all i = item_well vs ks r n i a c all (ltb i n) refl

first_before_at : (key : String Global) (es : List (String Global × Value)) → AllByRecursion (λ k. string_cmp key k ≡ Less) (keys_of es) → IsBefore (string_bytes key) (members_view es)
first_before_at key [] below = tt
first_before_at key (e ∷ es) below = (below.0, first_before_at key es below.1)

-- the first entry's name is before those of the others, which are in order again
pub first_before : (e : String Global × Value) (es : List (String Global × Value)) → IsStrictlySortedBy string_cmp (keys_of (e ∷ es)) → IsBefore (string_bytes e.0) (members_view es)
unfolding IsStrictlySortedBy
first_before e es sorted = first_before_at e.0 es sorted.0

pub sorted_behind : (e : String Global × Value) (es : List (String Global × Value)) → IsStrictlySortedBy string_cmp (keys_of (e ∷ es)) → IsStrictlySortedBy string_cmp (keys_of es)
unfolding IsStrictlySortedBy
sorted_behind e es sorted = sorted.1
