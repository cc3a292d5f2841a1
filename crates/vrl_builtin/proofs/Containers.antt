-- Answers that are arrays and objects, built of parts.
use Rattle.std.specs.Prelude.{◌≡◌, ℕ, zero, suc, Bool, ◌||◌, List, [], ◌∷◌, map, Option, Some, None, IsTrue, IfSome, IsSomeAnd, ⊤, refl}
use Rattle.std.proofs.Common.{sym, ap, ◌∙◌}
use Rattle.std.proofs.lemmas.Bool.{or_left}
use Rattle.std.proofs.lemmas.Cmp.{nat_list_cmp_total, tied_itself}
use Rattle.std.proofs.Math.Bool.{or-true}
use Rattle.std.specs.Ordering.{match_ordering, nat_cmp}
use Rattle.std.specs.Cmp.Lexicographic.{slice_cmp}
use Rattle.std.specs.declared.cmp.Ordering.{Ordering}
use Rattle.std.specs.declared.cmp.Ordering.TheVariants.{Less, Equal, Greater}
use Rattle.vrl_value.specs.Look.{Step, field, place, item_at, found_behind, found_if, raw_at, tag_found, there}
use Rattle.vrl_value.specs.Tag.{tag_of}
use Rattle.vrl_value.specs.View.{items_of_trees}
use Rattle.vrl_value.specs.Tree.{Tree, string, regex, array, object, IsBefore, Items, no_items, item, Members, no_members, member, find, put, IsOrdered, ItemsAreOrdered, MembersAreOrdered}
use Rattle.vrl_value.specs.declared.value.Tag.{Tag}
use Rattle.vrl_value.specs.declared.value.Tag.TheVariants as tag
use Rattle.vrl_kind.specs.KindTree.{KindTree, KnownFields, Places, RestTree, exact, no_fields, no_places}
use Rattle.vrl_kind.specs.Kinds.{or_absent, tags_at, Inhabits, IsJoin, SameTags}
use Rattle.vrl_kind.specs.Make.{array_kind, object_kind}
use Rattle.vrl_kind.specs.PartSets.{parts_at}
use Rattle.vrl_kind.specs.Sets.{Sets, SameSets, IsAllowed}
use Rattle.vrl_kind.specs.Tags.{Tags, same_tag}
use Rattle.vrl_kind.proofs.SomePart.{parts_are_allowed}
use Rattle.vrl_value.proofs.Members.{find-member_other}
use Rattle.vrl_builtin.specs.Containers.{array_of, either, object_of}
use Rattle.vrl_builtin.specs.Law.{HoldsRegex, IsLawful}
use Rattle.vrl_builtin.specs.OneTag.{IsPlain}
use Rattle.vrl_builtin.specs.OneTagLaw.{no_regex, plain_is_of, plain_is_ordered}
use Rattle.vrl_builtin.specs.Rows.{value, argument_at}

-- ---- each part

abbrev pub EachItem : (Tree → Type 0) → Items → Type 0
EachItem P no_items = ⊤
EachItem P (item v ts) = P v × EachItem P ts

abbrev pub EachMember : (Tree → Type 0) → Members → Type 0
EachMember P no_members = ⊤
EachMember P (member k v ms) = P v × EachMember P ms

pub each_at : (P : Tree → Type 0) (ts : Items) (i : ℕ) → EachItem P ts → IfSome (item_at i ts) P
each_at P no_items i each = tt
each_at P (item v ts) zero each = each.0
each_at P (item v ts) (suc i) each = each_at P ts i each.1

pub each_of : (P : Tree → Type 0) (ts : Items) → ((i : ℕ) → IfSome (item_at i ts) P) → EachItem P ts
each_of P no_items at = tt
each_of P (item v ts) at = (at zero, each_of P ts (λ i. at (suc i)))

by_order : (P : Tree → Type 0) (o : Ordering) (a b c : Option Tree) → IfSome a P → IfSome b P → IfSome c P → IfSome (match_ordering o a b c) P
by_order P Less a b c first second third = first
by_order P Equal a b c first second third = second
by_order P Greater a b c first second third = third

pub each_found : (P : Tree → Type 0) (k : List ℕ) (ms : Members) → EachMember P ms → IfSome (find k ms) P
each_found P k no_members each = tt
each_found P k (member l v ms) each =
    let behind = each_found P k ms each.1 in by_order P (slice_cmp nat_cmp k l) (find k ms) (Some v) (find k ms) behind each.0 behind

put_by_order : (P : Tree → Type 0) (o : Ordering) (k l : List ℕ) (t v : Tree) (ms ns : Members) → P t → P v → EachMember P ms → EachMember P ns →
    EachMember P (match_ordering o (member k t (member l v ms)) (member l t ms) (member l v ns))
put_by_order P Less k l t v ms ns new old each later = (new, (old, each))
put_by_order P Equal k l t v ms ns new old each later = (new, each)
put_by_order P Greater k l t v ms ns new old each later = (old, later)

-- a member more
pub each_put : (P : Tree → Type 0) (k : List ℕ) (t : Tree) (ms : Members) → P t → EachMember P ms → EachMember P (put k t ms)
each_put P k t no_members new each = (new, tt)
each_put P k t (member l v ms) new each = put_by_order P (slice_cmp nat_cmp k l) k l t v ms (put k t ms) new each.0 each.1 (each_put P k t ms new each.1)

pub each_item_so : (P Q : Tree → Type 0) (ts : Items) → ((v : Tree) → P v → Q v) → EachItem P ts → EachItem Q ts
each_item_so P Q no_items so each = tt
each_item_so P Q (item v ts) so each = (so v each.0, each_item_so P Q ts so each.1)

pub each_member_so : (P Q : Tree → Type 0) (ms : Members) → ((v : Tree) → P v → Q v) → EachMember P ms → EachMember Q ms
each_member_so P Q no_members so each = tt
each_member_so P Q (member k v ms) so each = (so v each.0, each_member_so P Q ms so each.1)

-- a key before all others is no other's
pub later_keys : (k : List ℕ) (ms : Members) → IsBefore k ms → find k ms ≡ None
later_keys k no_members before = refl
later_keys k (member l v ms) before = rw before.0 (later_keys k ms before.1)

pub found_first : (k : List ℕ) (v : Tree) (ms : Members) → find k (member k v ms) ≡ Some v
found_first k v ms = rw (tied_itself nat_list_cmp_total k) refl

absurd_found : {v : Tree} → Some v ≡ None → ⊥
absurd_found is = cc

-- in order, each member is the one that is found under its key
pub each_member_of : (P : Tree → Type 0) (ms : Members) → MembersAreOrdered ms → ((k : List ℕ) (v : Tree) → find k ms ≡ Some v → P v) → EachMember P ms
each_member_of P no_members ordered so = tt
each_member_of P (member k v ms) ordered so = (
  so k v (found_first k v ms),
  each_member_of P ms ordered.2 (λ l u found. so l u (find-member_other l k v ms (λ same. absurd_found (sym found ∙ ap (λ x. find x ms) same ∙ later_keys k ms ordered.0)) ∙ found)),
)

-- each of some texts
pub each_text : (P : Tree → Type 0) (ss : List (List ℕ)) → ((s : List ℕ) → P (string s)) → EachItem P (items_of_trees (map string ss))
each_text P [] so = tt
each_text P (s ∷ ss) so = (so s, each_text P ss so)

pub each_ordered : (ts : Items) → ItemsAreOrdered ts → EachItem IsOrdered ts
each_ordered no_items ordered = tt
each_ordered (item v ts) ordered = (ordered.0, each_ordered ts ordered.1)

pub each_member_ordered : (ms : Members) → MembersAreOrdered ms → EachMember IsOrdered ms
each_member_ordered no_members ordered = tt
each_member_ordered (member k v ms) ordered = (ordered.1, each_member_ordered ms ordered.2)

-- ---- what may stand in an answer

-- each regex in the value stands in an argument
abbrev pub HasGivenRegexes : List (Option Tree) → Tree → Type 0
HasGivenRegexes arguments v = (n : ℕ) → HoldsRegex n v → (place : ℕ) × IsSomeAnd (argument_at place arguments) (HoldsRegex n)

pub record IsLawfulPart (A : Sets) (arguments : List (Option Tree)) (v : Tree) : Type 0 where
  pub allowed : IsAllowed v A
  pub ordered : IsOrdered v
  pub regexes : HasGivenRegexes arguments v

-- a part without parts whose tag is allowed
pub plain_part : (A : Sets) (arguments : List (Option Tree)) (v : Tree) → IsPlain v → IsTrue (A [] (tag_of v)) → IsLawfulPart A arguments v
plain_part A arguments v plain allowed = record {
  allowed = plain_is_of v A plain allowed;
  ordered = plain_is_ordered v plain;
  regexes = λ n holds. absurd (no_regex v plain n holds.0 holds.1);
}

or_absent_so : (p : List Step) (T : Tags) (o : Option Tag) → IfSome o (λ t. IsTrue (T t)) → IfSome o (λ t. IsTrue (or_absent p T t))
or_absent_so [] T None is = tt
or_absent_so [] T (Some t) is = or_left (T t) (same_tag tag.Absent t) is
or_absent_so (s ∷ p) T o is = is

part_allowed : (A : Sets) (o : Option Tree) (p : List Step) → IfSome o (λ v. IsAllowed v A) → IfSome (tag_found (found_behind (found_if o) p (λ u. raw_at u p))) (λ t. IsTrue (or_absent p (A p) t))
part_allowed A None [] each = or-true (A [] tag.Absent)
part_allowed A None (s ∷ p) each = tt
part_allowed A (Some v) p each = or_absent_so p (A p) (tag_found (raw_at v p)) (each p)

part_regex : (n : ℕ) (o : Option Tree) (p : List Step) (C : Type 0) → found_behind (found_if o) p (λ u. raw_at u p) ≡ there (regex n) → ((v : Tree) → o ≡ Some v → HoldsRegex n v → C) → C
part_regex n None [] C is so = absurd cc
part_regex n None (s ∷ p) C is so = absurd cc
part_regex n (Some v) p C is so = so v refl (p, is)

pub some_so : (P : Tree → Type 0) (o : Option Tree) (v : Tree) → IfSome o P → o ≡ Some v → P v
some_so P None v each is = absurd cc
some_so P (Some u) v each is = let same : v ≡ u = cc in rw same each

-- ---- arrays

array_is_of : (A : Sets) (ts : Items) → EachItem (λ v. IsAllowed v A) ts → IsAllowed (array ts) (array_of A)
array_is_of A ts each [] = refl
array_is_of A ts each (place i ∷ p) = part_allowed A (item_at i ts) p (each_at (λ v. IsAllowed v A) ts i each)
array_is_of A ts each (field k ∷ p) = tt

items_are_ordered : (ts : Items) → EachItem IsOrdered ts → ItemsAreOrdered ts
items_are_ordered no_items each = tt
items_are_ordered (item v ts) each = (each.0, items_are_ordered ts each.1)

array_regexes : (arguments : List (Option Tree)) (ts : Items) → EachItem (HasGivenRegexes arguments) ts → (n : ℕ) (p : List Step) → raw_at (array ts) p ≡ there (regex n) → (place : ℕ) × IsSomeAnd (argument_at place arguments) (HoldsRegex n)
array_regexes arguments ts each n [] is = absurd cc
array_regexes arguments ts each n (place i ∷ p) is =
    part_regex n (item_at i ts) p _ is (λ v found holds. some_so (HasGivenRegexes arguments) (item_at i ts) v (each_at (HasGivenRegexes arguments) ts i each) found n holds)
array_regexes arguments ts each n (field k ∷ p) is = absurd cc

-- an array of such parts may be answered
pub array_is_lawful : (A : Sets) (fails : Bool) (arguments : List (Option Tree)) (ts : Items) → EachItem (IsLawfulPart A arguments) ts → IsLawful (array_of A) fails arguments (value (array ts))
array_is_lawful A fails arguments ts each = (
  array_is_of A ts (each_item_so _ _ ts (λ v part. part.allowed) each),
  items_are_ordered ts (each_item_so _ _ ts (λ v part. part.ordered) each),
  λ n holds. array_regexes arguments ts (each_item_so _ _ ts (λ v part. part.regexes) each) n holds.0 holds.1,
)

-- ---- objects

object_is_of : (A : Sets) (ms : Members) → EachMember (λ v. IsAllowed v A) ms → IsAllowed (object ms) (object_of A)
object_is_of A ms each [] = refl
object_is_of A ms each (field k ∷ p) = part_allowed A (find k ms) p (each_found (λ v. IsAllowed v A) k ms each)
object_is_of A ms each (place i ∷ p) = tt

object_regexes : (arguments : List (Option Tree)) (ms : Members) → EachMember (HasGivenRegexes arguments) ms → (n : ℕ) (p : List Step) → raw_at (object ms) p ≡ there (regex n) → (place : ℕ) × IsSomeAnd (argument_at place arguments) (HoldsRegex n)
object_regexes arguments ms each n [] is = absurd cc
object_regexes arguments ms each n (field k ∷ p) is =
    part_regex n (find k ms) p _ is (λ v found holds. some_so (HasGivenRegexes arguments) (find k ms) v (each_found (HasGivenRegexes arguments) k ms each) found n holds)
object_regexes arguments ms each n (place i ∷ p) is = absurd cc

-- an object in order of such parts may be answered
pub object_is_lawful : (A : Sets) (fails : Bool) (arguments : List (Option Tree)) (ms : Members) → EachMember (IsLawfulPart A arguments) ms → MembersAreOrdered ms →
    IsLawful (object_of A) fails arguments (value (object ms))
object_is_lawful A fails arguments ms each ordered = (
  object_is_of A ms (each_member_so _ _ ms (λ v part. part.allowed) each),
  ordered,
  λ n holds. object_regexes arguments ms (each_member_so _ _ ms (λ v part. part.regexes) each) n holds.0 holds.1,
)

-- ---- the parts of an argument

pub found_in : (o : Option Tree) (v : Tree) (p : List Step) → o ≡ Some v → found_behind (found_if o) p (λ u. raw_at u p) ≡ raw_at v p
found_in None v p is = absurd cc
found_in (Some u) v p is = let same : v ≡ u = cc in rw same refl

pub some_of : (P : Tree → Type 0) (o : Option Tree) → ((v : Tree) → o ≡ Some v → P v) → IfSome o P
some_of P None so = tt
some_of P (Some v) so = so v refl

-- the parts of an array that is given, in the sets of its kind's parts
pub items_are_parts : (K : KindTree) (at : ℕ) (ts : Items) (arguments : List (Option Tree)) →
    argument_at at arguments ≡ Some (array ts) → Inhabits (array ts) K → ItemsAreOrdered ts → EachItem (IsLawfulPart (parts_at K) arguments) ts
items_are_parts K at ts arguments is inhabits ordered =
    each_of (IsLawfulPart (parts_at K) arguments) ts (λ i. some_of (IsLawfulPart (parts_at K) arguments) (item_at i ts) (λ v found. record {
      allowed = parts_are_allowed (array ts) v (place i) K inhabits (ap found_if found);
      ordered = some_so IsOrdered (item_at i ts) v (each_at IsOrdered ts i (each_ordered ts ordered)) found;
      regexes = λ n inside. (at, rw is (place i ∷ inside.0, found_in (item_at i ts) v inside.0 found ∙ inside.1));
    }))

-- the same of an object
pub members_are_parts : (K : KindTree) (at : ℕ) (ms : Members) (arguments : List (Option Tree)) →
    argument_at at arguments ≡ Some (object ms) → Inhabits (object ms) K → MembersAreOrdered ms → EachMember (IsLawfulPart (parts_at K) arguments) ms
members_are_parts K at ms arguments is inhabits ordered =
    each_member_of (IsLawfulPart (parts_at K) arguments) ms ordered (λ k v found. record {
      allowed = parts_are_allowed (object ms) v (field k) K inhabits (ap found_if found);
      ordered = some_so IsOrdered (find k ms) v (each_found IsOrdered k ms (each_member_ordered ms ordered)) found;
      regexes = λ n inside. (at, rw is (field k ∷ inside.0, found_in (find k ms) v inside.0 found ∙ inside.1));
    })

-- ---- the kinds that the makers give

pub array_of_kind : (K : KindTree) → SameSets (tags_at (array_kind no_places (exact K))) (array_of (tags_at K))
array_of_kind K [] tag.Text = refl
array_of_kind K [] tag.Int = refl
array_of_kind K [] tag.Bool = refl
array_of_kind K [] tag.Null = refl
array_of_kind K [] tag.Time = refl
array_of_kind K [] tag.Pattern = refl
array_of_kind K [] tag.List = refl
array_of_kind K [] tag.Object = refl
array_of_kind K [] tag.Absent = refl
array_of_kind K (place i ∷ p) t = refl
array_of_kind K (field k ∷ p) t = refl

pub object_of_kind : (K : KindTree) → SameSets (tags_at (object_kind no_fields (exact K))) (object_of (tags_at K))
object_of_kind K [] tag.Text = refl
object_of_kind K [] tag.Int = refl
object_of_kind K [] tag.Bool = refl
object_of_kind K [] tag.Null = refl
object_of_kind K [] tag.Time = refl
object_of_kind K [] tag.Pattern = refl
object_of_kind K [] tag.List = refl
object_of_kind K [] tag.Object = refl
object_of_kind K [] tag.Absent = refl
object_of_kind K (field k ∷ p) t = refl
object_of_kind K (place i ∷ p) t = refl

pub array_told : (K M : KindTree) (ps : Places) (r : RestTree) → ps ≡ no_places → r ≡ exact K → SameTags M (array_kind ps r) → SameSets (tags_at M) (array_of (tags_at K))
array_told K M ps r none is same p t =
    same p t ∙ ap (λ qs. tags_at (array_kind qs r) p t) none ∙ ap (λ rest. tags_at (array_kind no_places rest) p t) is ∙ array_of_kind K p t

pub object_told : (K M : KindTree) (fs : KnownFields) (r : RestTree) → fs ≡ no_fields → r ≡ exact K → SameTags M (object_kind fs r) → SameSets (tags_at M) (object_of (tags_at K))
object_told K M fs r none is same p t =
    same p t ∙ ap (λ gs. tags_at (object_kind gs r) p t) none ∙ ap (λ rest. tags_at (object_kind no_fields rest) p t) is ∙ object_of_kind K p t

-- ---- kinds whose parts are told in another way

pub absent_so : (p : List Step) (T U : Tags) (t : Tag) → T t ≡ U t → or_absent p T t ≡ or_absent p U t
absent_so [] T U t same = ap (λ b. b || same_tag tag.Absent t) same
absent_so (s ∷ p) T U t same = same

pub array_so : (A B : Sets) → SameSets A B → SameSets (array_of A) (array_of B)
array_so A B same [] t = refl
array_so A B same (place i ∷ p) t = absent_so p (A p) (B p) t (same p t)
array_so A B same (field n ∷ p) t = refl

object_so : (A B : Sets) → SameSets A B → SameSets (object_of A) (object_of B)
object_so A B same [] t = refl
object_so A B same (field n ∷ p) t = absent_so p (A p) (B p) t (same p t)
object_so A B same (place i ∷ p) t = refl

pub array_made : (A B : Sets) (K : KindTree) → SameSets A B → SameSets (tags_at K) (array_of A) → SameSets (tags_at K) (array_of B)
array_made A B K same made p t = made p t ∙ array_so A B same p t

pub object_made : (A B : Sets) (K : KindTree) → SameSets A B → SameSets (tags_at K) (object_of A) → SameSets (tags_at K) (object_of B)
object_made A B K same made p t = made p t ∙ object_so A B same p t

pub either_made : (K L M : KindTree) (A B : Sets) → SameSets (tags_at K) A → SameSets (tags_at L) B → IsJoin K L M → SameSets (tags_at M) (either A B)
either_made K L M A B first second joined p t = joined p t ∙ ap (λ b. b || tags_at L p t) (first p t) ∙ ap (λ b. A p t || b) (second p t)

pub same_sets : (A B : Sets) → ((p : List Step) → A p ≡ B p) → SameSets A B
same_sets A B same p t = ap (λ T. T t) (same p)
