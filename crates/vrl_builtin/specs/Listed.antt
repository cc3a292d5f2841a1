-- The parts of a value as lists.
use Rattle.std.specs.Prelude.{ℕ, List, [], ◌∷◌}
use Rattle.vrl_value.specs.Tree.{Tree, string, integer, boolean, null, timestamp, regex, array, object, Items, no_items, item, Members, no_members, member}

abbrev pub trees_in : Items → List Tree
trees_in no_items = []
trees_in (item t ts) = t ∷ trees_in ts

-- the items of an array; another value has none
abbrev pub items_in : Tree → Items
items_in (array ts) = ts
items_in (string s) = no_items
items_in (integer n) = no_items
items_in (boolean b) = no_items
items_in null = no_items
items_in (timestamp nanos) = no_items
items_in (regex n) = no_items
items_in (object ms) = no_items

-- the same as a list
abbrev pub list_in : Tree → List Tree
list_in v = trees_in (items_in v)

-- the members of an object, each as its name and its value, by name
abbrev pub entries_in : Members → List (List ℕ × Tree)
entries_in no_members = []
entries_in (member k t ms) = (k, t) ∷ entries_in ms

-- the members of an object; another value has none
abbrev pub members_in : Tree → Members
members_in (object ms) = ms
members_in (string s) = no_members
members_in (integer n) = no_members
members_in (boolean b) = no_members
members_in null = no_members
members_in (timestamp nanos) = no_members
members_in (regex n) = no_members
members_in (array ts) = no_members
