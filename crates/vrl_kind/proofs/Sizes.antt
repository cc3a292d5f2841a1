-- How large a value is, for the measures of the walks.
use Rattle.std.proofs.Common.{ℕ, ◌+◌, ◌≤◌, ◌<◌, ◌≡◌, List, [], ◌∷◌, length, get_or, ap, zero, suc, arith}
use Rattle.vrl_value.specs.Tree.{Tree, string, integer, boolean, null, timestamp, regex, array, object, Items, no_items, item, Members, no_members, member}
use Rattle.vrl_value.specs.View.{tree_of, items_view}
use Rattle.vrl_value.specs.declared.value.Value.{Value}

abbrev mutual
  pub size_of : Tree → ℕ
  size_of (string s) = 1
  size_of (integer n) = 1
  size_of (boolean b) = 1
  size_of null = 1
  size_of (timestamp nanos) = 1
  size_of (regex n) = 1
  size_of (array ts) = items_size ts + 1
  size_of (object ms) = members_size ms + 1

  pub items_size : Items → ℕ
  items_size no_items = 0
  items_size (item t ts) = size_of t + items_size ts + 1

  pub members_size : Members → ℕ
  members_size no_members = 0
  members_size (member k t ms) = size_of t + members_size ms + 1

-- a value is no larger than the array that it is in
pub value_size : (vs : List Value) (i : ℕ) (v : Value) → i < length vs → v ≡ get_or vs i v → size_of (tree_of v) ≤ items_size (items_view vs)
value_size [] i v below is = absurd (omega arith)
value_size (x ∷ vs) zero v below is = omega (arith, ap (λ u. size_of (tree_of u)) is)
value_size (x ∷ vs) (suc i) v below is = omega (arith, value_size vs i v (omega arith) is)
