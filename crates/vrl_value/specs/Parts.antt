-- Parts of arrays and objects: what one is with a part put into it, or without a part.
use Rattle.std.specs.Prelude.{ℕ, zero, suc, List}
use Rattle.std.specs.Ordering.{nat_cmp, match_ordering}
use Rattle.std.specs.Cmp.Lexicographic.{slice_cmp}
use Rattle.vrl_value.specs.Tree.{Tree, null, Items, no_items, item, Members, no_members, member}

-- how many items there are
abbrev pub count_of : Items → ℕ
count_of no_items = 0
count_of (item t ts) = suc (count_of ts)

-- how many members there are
abbrev pub members_count : Members → ℕ
members_count no_members = 0
members_count (member k t ms) = suc (members_count ms)

-- the items with t at the place i, after nulls where there are fewer than i
abbrev pub put_item : ℕ → Tree → Items → Items
put_item zero t no_items = item t no_items
put_item zero t (item u ts) = item t ts
put_item (suc i) t no_items = item null (put_item i t no_items)
put_item (suc i) t (item u ts) = item u (put_item i t ts)

-- the items with t in place of that at the place i, where there is one
abbrev pub replace_item : ℕ → Tree → Items → Items
replace_item i t no_items = no_items
replace_item zero t (item u ts) = item t ts
replace_item (suc i) t (item u ts) = item u (replace_item i t ts)

-- the items without that at the place i: those behind it move down by one
abbrev pub without_item : ℕ → Items → Items
without_item i no_items = no_items
without_item zero (item t ts) = ts
without_item (suc i) (item t ts) = item t (without_item i ts)

-- the members with t in place of what stands at the key k, where something does
abbrev pub replace : List ℕ → Tree → Members → Members
replace k t no_members = no_members
replace k t (member l u ms) =
    match_ordering (slice_cmp nat_cmp k l) (member l u (replace k t ms)) (member l t ms) (member l u (replace k t ms))

-- the members without what stands at the key k
abbrev pub without : List ℕ → Members → Members
without k no_members = no_members
without k (member l u ms) =
    match_ordering (slice_cmp nat_cmp k l) (member l u (without k ms)) (without k ms) (member l u (without k ms))
