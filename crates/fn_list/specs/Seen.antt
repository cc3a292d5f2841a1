-- A set that finds the values which equal one of a list, by their order.
use Rattle.std.specs.Prelude.{◌≡◌, Bool, List}
use Rattle.std.specs.BTreeSet as tree_set
use Rattle.std.specs.BTreeSet.{BTreeSet}
use Rattle.std.specs.List.{list_any}
use Rattle.std.specs.Ordering.{on}
use Rattle.vrl_value.specs.Tree.{Tree}
use Rattle.vrl_value.specs.View.{tree_of}
use Rattle.fn_list.specs.Order.{order}
use Rattle.fn_list.specs.Same.{same}
use Rattle.fn_list.specs.declared.key.Key.{Key}

abbrev pub tree_in : Key → Tree
tree_in key = tree_of key.value.now

-- the value equals one of those
abbrev pub is_in : List Tree → Tree → Bool
is_in ks t = list_any (λ k. same k t) ks

-- the set finds the values that equal one of the list
abbrev pub Finds : BTreeSet Key → List Tree → Type 0
Finds set ks = (key : Key) → tree_set.contains (on tree_in order) set key ≡ is_in ks (tree_in key)
