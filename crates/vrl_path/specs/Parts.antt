-- One part of a tree: put into the container that its step fits, or taken out of it.
use Rattle.vrl_value.specs.Look.{Step, field, place, Found, there, missing, no_place, part_at}
use Rattle.vrl_value.specs.Parts.{put_item, replace, replace_item, without, without_item}
use Rattle.vrl_value.specs.Tree.{Tree, null, array, object, Items, no_items, Members, no_members, put}

-- the members of an object; of what is no object those of the empty one
abbrev pub members_in : Found → Members
members_in (there (object ms)) = ms
members_in (there t) = no_members
members_in missing = no_members
members_in no_place = no_members

-- the items of an array; of what is no array those of the empty one
abbrev pub items_in : Found → Items
items_in (there (array ts)) = ts
items_in (there t) = no_items
items_in missing = no_items
items_in no_place = no_items

-- what was found, or null
abbrev pub tree_or_null : Found → Tree
tree_or_null (there t) = t
tree_or_null missing = null
tree_or_null no_place = null

-- the part of a tree at the step; null where none stands there
abbrev pub part_or_null : Tree → Step → Tree
part_or_null u s = tree_or_null (part_at u s)

-- the tree with t as its part at the step; where it is no container that the step fits, an empty
-- one with t
abbrev pub with_part : Step → Tree → Tree → Tree
with_part (field k) t u = object (put k t (members_in (there u)))
with_part (place i) t u = array (put_item i t (items_in (there u)))

-- the tree with t in place of its part at the step, where it has one
abbrev pub replace_part : Step → Tree → Tree → Tree
replace_part (field k) t (object ms) = object (replace k t ms)
replace_part (place i) t (array ts) = array (replace_item i t ts)
replace_part s t u = u

-- the tree with t in place of its part at the step, or as a new one, by what stands there
abbrev pub placed : Found → Step → Tree → Tree → Tree
placed (there old) s t u = replace_part s t u
placed missing s t u = with_part s t u
placed no_place s t u = with_part s t u

abbrev pub set_part : Step → Tree → Tree → Tree
set_part s t u = placed (part_at u s) s t u

-- the tree without its part at the step, where it has one
abbrev pub without_part : Step → Tree → Tree
without_part (field k) (object ms) = object (without k ms)
without_part (place i) (array ts) = array (without_item i ts)
without_part s u = u
