use Rattle.std.proofs.Common.{◌≡◌, ◌++◌, length, map}
use Rattle.vrl_value.specs.View.{tree_of}
use Rattle.fn_list.specs.Zip.{pairs_of}
use Rattle.fn_list.proofs.zip.pairs.Given as goal

abbrev pub invariant-loop-one : goal.invariant-loop-one
invariant-loop-one l = map tree_of l.pairs.items ++ pairs_of (map tree_of l.left) (map tree_of l.right) ≡ pairs_of (map tree_of l.first) (map tree_of l.second)

abbrev pub decreases-loop-one : goal.decreases-loop-one
decreases-loop-one l = length l.left
