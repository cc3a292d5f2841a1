-- How many parts a tree has: a measure for what goes down a value.
use Rattle.std.proofs.Common.{ℕ, ◌+◌}
use Rattle.vrl_value.specs.Tree.{Tree, string, integer, boolean, null, timestamp, regex, array, object, Items, no_items, item, Members, no_members, member}

abbrev mutual
  pub size_of : Tree → ℕ
  size_of (string s) = 1
  size_of (integer n) = 1
  size_of (boolean b) = 1
  size_of null = 1
  size_of (timestamp nanos) = 1
  size_of (regex n) = 1
  size_of (array ts) = items_size ts + 1
  size_of (object ms) = members_size ms + 1

  pub items_size : Items → ℕ
  items_size no_items = 0
  items_size (item t ts) = size_of t + items_size ts + 1

  pub members_size : Members → ℕ
  members_size no_members = 0
  members_size (member k t ms) = size_of t + members_size ms + 1
