-- Which regexes stand in a tree.
use Rattle.std.specs.Prelude.{ℕ, Bool, true, ◌&&◌, nat_lt}
use Rattle.vrl_value.specs.Tree.{Tree, string, integer, boolean, null, timestamp, regex, array, object, Items, no_items, item, Members, no_members, member}

-- each regex in the tree is one of the first so many
abbrev mutual
  pub regexes_below : ℕ → Tree → Bool
  regexes_below count (string s) = true
  regexes_below count (integer n) = true
  regexes_below count (boolean b) = true
  regexes_below count null = true
  regexes_below count (timestamp nanos) = true
  regexes_below count (regex n) = nat_lt n count
  regexes_below count (array ts) = items_regexes_below count ts
  regexes_below count (object ms) = members_regexes_below count ms

  pub items_regexes_below : ℕ → Items → Bool
  items_regexes_below count no_items = true
  items_regexes_below count (item t ts) = regexes_below count t && items_regexes_below count ts

  pub members_regexes_below : ℕ → Members → Bool
  members_regexes_below count no_members = true
  members_regexes_below count (member k t ms) = regexes_below count t && members_regexes_below count ms
