-- Each object of JSON is of a kind that takes it.
use Rattle.std.proofs.Common.{◌≡◌, ◌==◌, ℕ, zero, suc, true, false, true≢false, Bool, List, [], ◌∷◌, length, Option, Some, None, IfSome, IsTrue, refl, sym, ◌∙◌, subst, arith}
use Rattle.std.proofs.lemmas.Bool.{and_parts, or_left}
use Rattle.std.proofs.lemmas.Bool.Decides.{nat_tests}
use Rattle.std.specs.Cmp.Lexicographic.{slice_cmp}
use Rattle.std.specs.Ordering.{match_ordering, nat_cmp}
use Rattle.std.specs.declared.cmp.Ordering.{Ordering}
use Rattle.std.specs.declared.cmp.Ordering.TheVariants.{Less, Equal, Greater}
use Rattle.vrl_value.specs.Look.{Found, IfThere, Step, field, found_behind, found_if, item_at, missing, no_place, part_at, place, raw_at, tag_found, there}
use Rattle.vrl_value.specs.Tree.{Tree, string, integer, boolean, null, timestamp, regex, array, object, Items, no_items, item, Members, no_members, member, find, is_json, is_object, items_are_json, members_are_json}
use Rattle.vrl_value.specs.declared.value.Tag.{Tag}
use Rattle.vrl_kind.specs.Canonical.{no_scalars}
use Rattle.vrl_kind.specs.KindTree.{KindTree, kind, ListTree, no_list, object_part, RestTree, json_rest, no_fields}
use Rattle.vrl_kind.specs.Kinds.{Inhabits, json_at, or_absent}
use Rattle.vrl_kind.specs.View.{fields_view}
use Rattle.vrl_kind.specs.declared.kind.KindField.{KindField}
use Rattle.vrl_kind.specs.declared.scalars.Scalars.{Scalars}
use Rattle.vrl_state.specs.States.{json_object}
use Rattle.vrl_run.specs.JsonObjects.{are_json_objects, is_json_rest, takes_json_objects}

-- ---- the parts of what is JSON

item_is_json : (i : ℕ) (ts : Items) → items_are_json ts ≡ true
    → IfThere (found_if (item_at i ts)) (λ t. is_json t ≡ true)
item_is_json i no_items json = tt
item_is_json zero (item t ts) json = (and_parts _ _ json).0
item_is_json (suc i) (item t ts) json = item_is_json i ts (and_parts _ _ json).1

by_order : (o : Ordering) (a b c : Option Tree) → IfThere (found_if a) (λ t. is_json t ≡ true)
    → IfThere (found_if b) (λ t. is_json t ≡ true)
    → IfThere (found_if c) (λ t. is_json t ≡ true) → IfThere (found_if (match_ordering o a b c)) (λ t. is_json t ≡ true)
by_order Less a b c first second third = first
by_order Equal a b c first second third = second
by_order Greater a b c first second third = third

member_is_json : (k : List ℕ) (ms : Members) → members_are_json ms ≡ true
    → IfThere (found_if (find k ms)) (λ t. is_json t ≡ true)
member_is_json k no_members json = tt
member_is_json k (member l t ms) json =
    let behind = member_is_json k ms (and_parts _ _ json).1 in
    by_order (slice_cmp nat_cmp k l) (find k ms) (Some t) (find k ms) behind (and_parts _ _ json).0 behind

part_is_json : (t : Tree) (s : Step) → is_json t ≡ true → IfThere (part_at t s) (λ u. is_json u ≡ true)
part_is_json (object ms) (field k) json = member_is_json k ms json
part_is_json (array ts) (place i) json = item_is_json i ts json
part_is_json t s json = tt

-- ---- what JSON holds at a path

root_is_json : (t : Tree) → is_json t ≡ true → IfSome (tag_found (raw_at t [])) (λ g. IsTrue (json_at [] g))
root_is_json (string x) json = refl
root_is_json (integer n) json = refl
root_is_json (boolean b) json = refl
root_is_json null json = refl
root_is_json (timestamp n) json = absurd (true≢false (sym json))
root_is_json (regex n) json = absurd (true≢false (sym json))
root_is_json (array ts) json = refl
root_is_json (object ms) json = refl

or_missing : (p : List Step) (found : Option Tag) → IfSome found (λ g. IsTrue (json_at p g))
    → IfSome found (λ g. IsTrue (or_absent p (json_at p) g))
or_missing p None is = tt
or_missing [] (Some g) is = or_left _ _ is
or_missing (s ∷ p) (Some g) is = is

behind : (found : Found) (p : List Step) → IfThere found (λ u. is_json u ≡ true)
    → ((u : Tree) → is_json u ≡ true → IfSome (tag_found (raw_at u p)) (λ g. IsTrue (json_at p g)))
    → IfSome (tag_found (found_behind found p (λ u. raw_at u p))) (λ g. IsTrue (or_absent p (json_at p) g))
behind (there u) p json step = or_missing p (tag_found (raw_at u p)) (step u json)
behind missing [] json step = refl
behind missing (s ∷ p) json step = tt
behind no_place p json step = tt

path_is_json : (t : Tree) (p : List Step) → is_json t ≡ true
    → IfSome (tag_found (raw_at t p)) (λ g. IsTrue (json_at p g))
path_is_json t [] json = root_is_json t json
path_is_json t (s ∷ p) json = behind (part_at t s) p (part_is_json t s json) (λ u part. path_is_json u p part)

-- ---- objects

object_is_of : (ms : Members) (s : Scalars) (l : ListTree) → members_are_json ms ≡ true
    → Inhabits (object ms) (kind s l (object_part no_fields json_rest))
object_is_of ms s l json [] = refl
object_is_of ms s l json (field n ∷ p) = path_is_json (object ms) (field n ∷ p) json
object_is_of ms s l json (place i ∷ p) = tt

taken : (ms : Members) (K : KindTree) → members_are_json ms ≡ true → takes_json_objects K ≡ true
    → Inhabits (object ms) K
taken ms (kind s l (object_part no_fields json_rest)) json takes = object_is_of ms s l json
taken ms K json takes = absurd (true≢false (sym takes))

pub object_is_taken : (t : Tree) (ms : Members) (K : KindTree) → t ≡ object ms → is_json t ≡ true
    → takes_json_objects K ≡ true → Inhabits t K
object_is_taken t ms K is json takes = subst (λ v. Inhabits v K) (sym is) (taken ms K (subst (λ v. is_json v ≡ true) is json) takes)

-- each is one of JSON
pub is_json_object : (t : Tree) → is_object t ≡ true → is_json t ≡ true → Inhabits t json_object
is_json_object (object ms) is json = object_is_of ms no_scalars no_list json
is_json_object t is json = absurd (true≢false (sym is))

-- ---- where a kind takes them

pub no_field_known : (fields : List KindField) (r : RestTree) (empty : Bool) → empty ≡ (length fields == 0)
    → is_json_rest r ≡ true
    → empty ≡ are_json_objects (object_part (fields_view fields) r)
no_field_known [] r empty is json = is ∙ sym json
no_field_known (f ∷ fields) r empty is json =
    let some : (length (f ∷ fields) == 0) ≡ false = grind (arith, nat_tests) in
    is ∙ some
