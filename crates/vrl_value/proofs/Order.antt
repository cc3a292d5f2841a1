-- Trees stay in order where a part is put, replaced or taken out, and what is found in them is in order.
use Rattle.std.proofs.Common.{◌≡◌, ℕ, zero, suc, List, Option, Some, IfSome, Ordering, Less, Equal, Greater, nat_cmp, refl, ap, ◌∙◌}
use Rattle.std.proofs.lemmas.Cmp.{nat_list_cmp_total}
use Rattle.std.specs.Cmp.Lexicographic.{slice_cmp}
use Rattle.std.specs.Ordering.{match_ordering, ordering_reverse}
use Rattle.vrl_value.specs.Look.{Step, field, place, item_at, part_at, raw_at, IfThere}
use Rattle.vrl_value.specs.Parts.{put_item, replace, replace_item, without, without_item}
use Rattle.vrl_value.specs.Tree.{Tree, array, object, Items, no_items, item, Members, no_members, member, find, put, IsBefore, IsOrdered, ItemsAreOrdered, MembersAreOrdered}
use Rattle.vrl_value.proofs.Looks.{if_found, found_keeps}

-- what is before a key is before what that key is before
pub before_all : (j k : List ℕ) (ms : Members) → slice_cmp nat_cmp j k ≡ Less → IsBefore k ms → IsBefore j ms
before_all j k no_members less rest = tt
before_all j k (member l u ms) less rest = (nat_list_cmp_total.trans j k l less rest.0, before_all j k ms less rest.1)

put_before_at : (o : Ordering) (j k l : List ℕ) (t u : Tree) (ms : Members) → slice_cmp nat_cmp j k ≡ Less → IsBefore j (member l u ms) → IsBefore j (put k t ms)
    → IsBefore j (match_ordering o (member k t (member l u ms)) (member l t ms) (member l u (put k t ms)))
put_before_at Less j k l t u ms less rest later = (less, rest)
put_before_at Equal j k l t u ms less rest later = rest
put_before_at Greater j k l t u ms less rest later = (rest.0, later)

put_before : (j k : List ℕ) (t : Tree) (ms : Members) → slice_cmp nat_cmp j k ≡ Less → IsBefore j ms → IsBefore j (put k t ms)
put_before j k t no_members less rest = (less, tt)
put_before j k t (member l u ms) less rest = put_before_at (slice_cmp nat_cmp k l) j k l t u ms less rest (put_before j k t ms less rest.1)

put_ordered_at : (o : Ordering) (k l : List ℕ) (t u : Tree) (ms : Members) → slice_cmp nat_cmp k l ≡ o → IsOrdered t → MembersAreOrdered (member l u ms) → MembersAreOrdered (put k t ms)
    → MembersAreOrdered (match_ordering o (member k t (member l u ms)) (member l t ms) (member l u (put k t ms)))
put_ordered_at Less k l t u ms is new old later = ((is, before_all k l ms is old.0), new, old)
put_ordered_at Equal k l t u ms is new old later = (old.0, new, old.2)
put_ordered_at Greater k l t u ms is new old later =
    (put_before l k t ms (nat_list_cmp_total.antisymm l k ∙ ap ordering_reverse is) old.0, old.1, later)

pub put_ordered : (k : List ℕ) (t : Tree) (ms : Members) → IsOrdered t → MembersAreOrdered ms → MembersAreOrdered (put k t ms)
put_ordered k t no_members new old = (tt, new, tt)
put_ordered k t (member l u ms) new old = put_ordered_at (slice_cmp nat_cmp k l) k l t u ms refl new old (put_ordered k t ms new old.2)

replace_before_at : (o : Ordering) (j l : List ℕ) (t u : Tree) (ms rest : Members) → IsBefore j (member l u ms) → IsBefore j rest
    → IsBefore j (match_ordering o (member l u rest) (member l t ms) (member l u rest))
replace_before_at Less j l t u ms rest old later = (old.0, later)
replace_before_at Equal j l t u ms rest old later = old
replace_before_at Greater j l t u ms rest old later = (old.0, later)

replace_before : (j k : List ℕ) (t : Tree) (ms : Members) → IsBefore j ms → IsBefore j (replace k t ms)
replace_before j k t no_members old = tt
replace_before j k t (member l u ms) old = replace_before_at (slice_cmp nat_cmp k l) j l t u ms (replace k t ms) old (replace_before j k t ms old.1)

replace_ordered_at : (o : Ordering) (l : List ℕ) (t u : Tree) (ms rest : Members) → IsOrdered t → MembersAreOrdered (member l u ms) → IsBefore l rest → MembersAreOrdered rest
    → MembersAreOrdered (match_ordering o (member l u rest) (member l t ms) (member l u rest))
replace_ordered_at Less l t u ms rest new old first later = (first, old.1, later)
replace_ordered_at Equal l t u ms rest new old first later = (old.0, new, old.2)
replace_ordered_at Greater l t u ms rest new old first later = (first, old.1, later)

pub replace_ordered : (k : List ℕ) (t : Tree) (ms : Members) → IsOrdered t → MembersAreOrdered ms → MembersAreOrdered (replace k t ms)
replace_ordered k t no_members new old = tt
replace_ordered k t (member l u ms) new old = replace_ordered_at (slice_cmp nat_cmp k l) l t u ms (replace k t ms) new old (replace_before l k t ms old.0) (replace_ordered k t ms new old.2)

without_before_at : (o : Ordering) (j l : List ℕ) (u : Tree) (rest : Members) → slice_cmp nat_cmp j l ≡ Less → IsBefore j rest → IsBefore j (match_ordering o (member l u rest) rest (member l u rest))
without_before_at Less j l u rest first later = (first, later)
without_before_at Equal j l u rest first later = later
without_before_at Greater j l u rest first later = (first, later)

without_before : (j k : List ℕ) (ms : Members) → IsBefore j ms → IsBefore j (without k ms)
without_before j k no_members old = tt
without_before j k (member l u ms) old = without_before_at (slice_cmp nat_cmp k l) j l u (without k ms) old.0 (without_before j k ms old.1)

without_ordered_at : (o : Ordering) (l : List ℕ) (u : Tree) (rest : Members) → IsOrdered u → IsBefore l rest → MembersAreOrdered rest → MembersAreOrdered (match_ordering o (member l u rest) rest (member l u rest))
without_ordered_at Less l u rest first before later = (before, first, later)
without_ordered_at Equal l u rest first before later = later
without_ordered_at Greater l u rest first before later = (before, first, later)

pub without_ordered : (k : List ℕ) (ms : Members) → MembersAreOrdered ms → MembersAreOrdered (without k ms)
without_ordered k no_members old = tt
without_ordered k (member l u ms) old = without_ordered_at (slice_cmp nat_cmp k l) l u (without k ms) old.1 (without_before l k ms old.0) (without_ordered k ms old.2)

pub put_item_ordered : (i : ℕ) (t : Tree) (ts : Items) → IsOrdered t → ItemsAreOrdered ts → ItemsAreOrdered (put_item i t ts)
put_item_ordered zero t no_items new old = (new, tt)
put_item_ordered zero t (item u ts) new old = (new, old.1)
put_item_ordered (suc i) t no_items new old = (tt, put_item_ordered i t no_items new tt)
put_item_ordered (suc i) t (item u ts) new old = (old.0, put_item_ordered i t ts new old.1)

pub replace_item_ordered : (i : ℕ) (t : Tree) (ts : Items) → IsOrdered t → ItemsAreOrdered ts → ItemsAreOrdered (replace_item i t ts)
replace_item_ordered i t no_items new old = tt
replace_item_ordered zero t (item u ts) new old = (new, old.1)
replace_item_ordered (suc i) t (item u ts) new old = (old.0, replace_item_ordered i t ts new old.1)

pub without_item_ordered : (i : ℕ) (ts : Items) → ItemsAreOrdered ts → ItemsAreOrdered (without_item i ts)
without_item_ordered i no_items old = tt
without_item_ordered zero (item u ts) old = old.1
without_item_ordered (suc i) (item u ts) old = (old.0, without_item_ordered i ts old.1)

found_member_at : (o : Ordering) (u : Tree) (rest : Option Tree) → IsOrdered u → IfSome rest IsOrdered → IfSome (match_ordering o rest (Some u) rest) IsOrdered
found_member_at Less u rest first later = later
found_member_at Equal u rest first later = first
found_member_at Greater u rest first later = later

pub find_ordered : (k : List ℕ) (ms : Members) → MembersAreOrdered ms → IfSome (find k ms) IsOrdered
find_ordered k no_members old = tt
find_ordered k (member l u ms) old = found_member_at (slice_cmp nat_cmp k l) u (find k ms) old.1 (find_ordered k ms old.2)

pub item_ordered : (i : ℕ) (ts : Items) → ItemsAreOrdered ts → IfSome (item_at i ts) IsOrdered
item_ordered i no_items old = tt
item_ordered zero (item u ts) old = old.0
item_ordered (suc i) (item u ts) old = item_ordered i ts old.1

part_ordered : (v : Tree) (s : Step) → IsOrdered v → IfThere (part_at v s) IsOrdered
part_ordered (object ms) (field k) old = if_found IsOrdered (find k ms) (find_ordered k ms old)
part_ordered (array ts) (place i) old = if_found IsOrdered (item_at i ts) (item_ordered i ts old)
part_ordered v s old = tt

pub found_ordered : (v : Tree) (p : List Step) → IsOrdered v → IfThere (raw_at v p) IsOrdered
found_ordered = found_keeps IsOrdered part_ordered
