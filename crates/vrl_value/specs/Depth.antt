-- How deep a value nests.
use Rattle.std.specs.Prelude.{ℕ, suc, max}
use Rattle.vrl_value.specs.Tree.{Tree, string, integer, boolean, null, timestamp, regex, array, object, Items, no_items, item, Members, no_members, member}

-- 0 for a scalar; 1 and the greatest depth of the parts for an array and an object, and 1 where
-- they are empty
abbrev mutual
  pub depth_of : Tree → ℕ
  depth_of (string s) = 0
  depth_of (integer n) = 0
  depth_of (boolean b) = 0
  depth_of null = 0
  depth_of (timestamp nanos) = 0
  depth_of (regex n) = 0
  depth_of (array ts) = suc (items_depth ts)
  depth_of (object ms) = suc (members_depth ms)

  pub items_depth : Items → ℕ
  items_depth no_items = 0
  items_depth (item t ts) = max (depth_of t) (items_depth ts)

  pub members_depth : Members → ℕ
  members_depth no_members = 0
  members_depth (member k t ms) = max (depth_of t) (members_depth ms)
