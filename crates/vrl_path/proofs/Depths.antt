-- How deep a tree is in which another was set.
use Rattle.std.proofs.Common.{◌≡◌, ℕ, zero, suc, ◌+◌, ◌-◌, ◌≤◌, Bool, true, false, if◌then◌else◌, is_some, unsigned_abs, List, [], ◌∷◌, length, max, Option, Some, None, Ordering, Less, Equal, Greater, nat_cmp, refl, ap, arith}
use Rattle.std.specs.Cmp.Lexicographic.{slice_cmp}
use Rattle.std.specs.Ordering.{match_ordering}
use Rattle.vrl_value.specs.Depth.{depth_of, items_depth, members_depth}
use Rattle.vrl_value.specs.Look.{Step, field, place, Found, there, found_if, item_at, part_at}
use Rattle.vrl_value.specs.Parts.{count_of, put_item, replace}
use Rattle.vrl_value.specs.Tree.{Tree, array, object, Items, no_items, item, Members, no_members, member, find, put}
use Rattle.vrl_path.specs.FromEnd.{behind_nulls, front_padded, part_behind, step_in}
use Rattle.vrl_path.specs.Parts.{items_in, members_in, part_or_null, set_part, tree_or_null}
use Rattle.vrl_path.specs.Read.{place_of}
use Rattle.vrl_path.specs.Trees.{set_tree}
use Rattle.vrl_path.specs.declared.path.Step.{Step as CodeStep}
use Rattle.vrl_path.specs.declared.path.Step.TheVariants.{Field, Place}
use Rattle.vrl_path.proofs.Placed.{member_if, placed_member, placed-field, placed-place}

-- a part that was put is no deeper than the whole
below_put_at : (o : Ordering) (k l : List ℕ) (t u : Tree) (ms rest : Members) → depth_of t ≤ members_depth rest → depth_of t ≤ members_depth (match_ordering o (member k t (member l u ms)) (member l t ms) (member l u rest))
below_put_at Less k l t u ms rest later = omega arith
below_put_at Equal k l t u ms rest later = omega arith
below_put_at Greater k l t u ms rest later = omega arith

below_put : (k : List ℕ) (t : Tree) (ms : Members) → depth_of t ≤ members_depth (put k t ms)
below_put k t no_members = omega arith
below_put k t (member l u ms) = below_put_at (slice_cmp nat_cmp k l) k l t u ms (put k t ms) (below_put k t ms)

below_replace_at : (o : Ordering) (l : List ℕ) (t u w : Tree) (ms rest : Members) (found : Option Tree) → match_ordering o found (Some u) found ≡ Some w → (found ≡ Some w → depth_of t ≤ members_depth rest)
    → depth_of t ≤ members_depth (match_ordering o (member l u rest) (member l t ms) (member l u rest))
below_replace_at Less l t u w ms rest found is later = let h = later is in omega arith
below_replace_at Equal l t u w ms rest found is later = omega arith
below_replace_at Greater l t u w ms rest found is later = let h = later is in omega arith

below_replace : (k : List ℕ) (t w : Tree) (ms : Members) → find k ms ≡ Some w → depth_of t ≤ members_depth (replace k t ms)
below_replace k t w no_members is = absurd cc
below_replace k t w (member l u ms) is = below_replace_at (slice_cmp nat_cmp k l) l t u w ms (replace k t ms) (find k ms) is (below_replace k t w ms)

below_member_at : (o : Option Tree) (k : List ℕ) (t : Tree) (ms : Members) → find k ms ≡ o → depth_of t ≤ members_depth (member_if o k t ms)
below_member_at None k t ms is = below_put k t ms
below_member_at (Some u) k t ms is = below_replace k t u ms is

pub below_placed : (k : List ℕ) (t : Tree) (ms : Members) → depth_of t ≤ members_depth (placed_member k t ms)
below_placed k t ms = below_member_at (find k ms) k t ms refl

pub below_put_item : (i : ℕ) (t : Tree) (ts : Items) → depth_of t ≤ items_depth (put_item i t ts)
below_put_item zero t no_items = omega arith
below_put_item zero t (item u ts) = omega arith
below_put_item (suc i) t no_items = let h = below_put_item i t no_items in omega arith
below_put_item (suc i) t (item u ts) = let h = below_put_item i t ts in omega arith

-- the whole is no deeper than what it was and the new part
put_within_at : (o : Ordering) (k l : List ℕ) (t u : Tree) (ms rest : Members) → members_depth rest ≤ max (depth_of t) (members_depth ms)
    → members_depth (match_ordering o (member k t (member l u ms)) (member l t ms) (member l u rest)) ≤ max (depth_of t) (max (depth_of u) (members_depth ms))
put_within_at Less k l t u ms rest later = omega arith
put_within_at Equal k l t u ms rest later = omega arith
put_within_at Greater k l t u ms rest later = omega arith

pub put_within : (k : List ℕ) (t : Tree) (ms : Members) → members_depth (put k t ms) ≤ max (depth_of t) (members_depth ms)
put_within k t no_members = omega arith
put_within k t (member l u ms) = put_within_at (slice_cmp nat_cmp k l) k l t u ms (put k t ms) (put_within k t ms)

replace_within_at : (o : Ordering) (l : List ℕ) (t u : Tree) (ms rest : Members) → members_depth rest ≤ max (depth_of t) (members_depth ms)
    → members_depth (match_ordering o (member l u rest) (member l t ms) (member l u rest)) ≤ max (depth_of t) (max (depth_of u) (members_depth ms))
replace_within_at Less l t u ms rest later = omega arith
replace_within_at Equal l t u ms rest later = omega arith
replace_within_at Greater l t u ms rest later = omega arith

pub replace_within : (k : List ℕ) (t : Tree) (ms : Members) → members_depth (replace k t ms) ≤ max (depth_of t) (members_depth ms)
replace_within k t no_members = omega arith
replace_within k t (member l u ms) = replace_within_at (slice_cmp nat_cmp k l) l t u ms (replace k t ms) (replace_within k t ms)

member_within : (o : Option Tree) (k : List ℕ) (t : Tree) (ms : Members) → members_depth (member_if o k t ms) ≤ max (depth_of t) (members_depth ms)
member_within None k t ms = put_within k t ms
member_within (Some u) k t ms = replace_within k t ms

pub put_item_within : (i : ℕ) (t : Tree) (ts : Items) → items_depth (put_item i t ts) ≤ max (depth_of t) (items_depth ts)
put_item_within zero t no_items = omega arith
put_item_within zero t (item u ts) = omega arith
put_item_within (suc i) t no_items = let h = put_item_within i t no_items in omega arith
put_item_within (suc i) t (item u ts) = let h = put_item_within i t ts in omega arith

-- what is found in a tree is less deep
abbrev pub FoundBelow : Found → ℕ → Type 0
FoundBelow f d = depth_of (tree_or_null f) ≤ d

found_member_at : (o : Ordering) (u : Tree) (found : Option Tree) (d : ℕ) → FoundBelow (found_if found) d → FoundBelow (found_if (match_ordering o found (Some u) found)) (max (depth_of u) d)
found_member_at Less u found d later = omega arith
found_member_at Equal u found d later = omega arith
found_member_at Greater u found d later = omega arith

found_member : (k : List ℕ) (ms : Members) → FoundBelow (found_if (find k ms)) (members_depth ms)
found_member k no_members = omega arith
found_member k (member l u ms) = found_member_at (slice_cmp nat_cmp k l) u (find k ms) (members_depth ms) (found_member k ms)

found_item : (i : ℕ) (ts : Items) → FoundBelow (found_if (item_at i ts)) (items_depth ts)
found_item i no_items = omega arith
found_item zero (item u ts) = omega arith
found_item (suc i) (item u ts) = let h = found_item i ts in omega arith

pub field_below : (v : Tree) (k : List ℕ) → FoundBelow (part_at v (field k)) (members_depth (members_in (there v)))
field_below (object ms) k = found_member k ms
field_below v k = omega arith

pub place_below : (v : Tree) (i : ℕ) → FoundBelow (part_at v (place i)) (items_depth (items_in (there v)))
place_below (array ts) i = found_item i ts
place_below v i = omega arith

members_below : (v : Tree) → suc (members_depth (members_in (there v))) ≤ max (depth_of v) 1
members_below (object ms) = omega arith
members_below v = omega arith

items_below : (v : Tree) → suc (items_depth (items_in (there v))) ≤ max (depth_of v) 1
items_below (array ts) = omega arith
items_below v = omega arith

-- a part is less deep than the tree in which it is set
pub part_deep : (s : Step) (t v : Tree) → suc (depth_of t) ≤ depth_of (set_part s t v)
part_deep (field k) t v =
    let part = below_placed k t (members_in (there v)) in
    let e = ap depth_of (placed-field v k t) in
    omega arith
part_deep (place i) t v =
    let part = below_put_item i t (items_in (there v)) in
    let e = ap depth_of (placed-place v i t) in
    omega arith

-- and the tree no deeper than that or what it was
part_shallow : (s : Step) (t v : Tree) → depth_of (set_part s t v) ≤ max (max (depth_of v) 1) (suc (depth_of t))
part_shallow (field k) t v =
    let whole = member_within (find k (members_in (there v))) k t (members_in (there v)) in
    let old = members_below v in
    let e = ap depth_of (placed-field v k t) in
    omega arith
part_shallow (place i) t v =
    let whole = put_item_within i t (items_in (there v)) in
    let old = items_below v in
    let e = ap depth_of (placed-place v i t) in
    omega arith

part_below : (v : Tree) (s : Step) → suc (depth_of (part_or_null v s)) ≤ max (depth_of v) 1
part_below v (field k) =
    let part = field_below v k in
    let old = members_below v in
    omega arith
part_below v (place i) =
    let part = place_below v i in
    let old = items_below v in
    omega arith

-- nulls in front make items no deeper
pub behind_nulls_depth : (k : ℕ) (ts : Items) → items_depth (behind_nulls k ts) ≡ items_depth ts
behind_nulls_depth zero ts = refl
behind_nulls_depth (suc k) ts = let h = behind_nulls_depth k ts in omega arith

padded_shallow_if : (b : Bool) (k : ℕ) (v : Tree) → depth_of (if b then v else array (behind_nulls k (items_in (there v)))) ≤ max (depth_of v) 1
padded_shallow_if true k v = omega arith
padded_shallow_if false k v =
    let same = behind_nulls_depth k (items_in (there v)) in
    let old = items_below v in
    omega arith

padded_shallow : (v : Tree) (s : CodeStep) → depth_of (front_padded v s) ≤ max (depth_of v) 1
padded_shallow v (Field k) = omega arith
padded_shallow v (Place i) =
    let count = count_of (items_in (there v)) in
    padded_shallow_if (is_some (place_of count i)) (unsigned_abs i - count) v

-- at least as deep as the path is long and the new part deep
pub set_deep : (v : Tree) (p : List CodeStep) (n : Tree) → length p + depth_of n ≤ depth_of (set_tree v p n)
set_deep v [] n = omega arith
set_deep v (s ∷ p) n =
    let below = set_deep (part_behind v s) p n in
    let whole = part_deep (step_in v s) (set_tree (part_behind v s) p n) (front_padded v s) in
    omega arith

-- and no deeper than that or what it was
pub set_shallow : (v : Tree) (p : List CodeStep) (n : Tree) → depth_of (set_tree v p n) ≤ max (depth_of v) (length p + depth_of n)
set_shallow v [] n = omega arith
set_shallow v (s ∷ p) n =
    let below = set_shallow (part_behind v s) p n in
    let part = part_below (front_padded v s) (step_in v s) in
    let whole = part_shallow (step_in v s) (set_tree (part_behind v s) p n) (front_padded v s) in
    let old = padded_shallow v s in
    omega arith
