use Rattle.std.proofs.Common.{◌≡◌, ◌+◌, length, map}
use Rattle.vrl_value.specs.View.{tree_of}
use Rattle.fn_object.specs.ObjectFromArray.{first_unfit}
use Rattle.fn_object.proofs.object_from_array.first_unfit.Given as goal

abbrev pub invariant-loop-element : goal.invariant-loop-element
invariant-loop-element l = (first_unfit 0 (map tree_of l.elements) ≡ first_unfit l.place (map tree_of l.left)) × (l.place + length l.left ≡ length l.elements)

abbrev pub decreases-loop-element : goal.decreases-loop-element
decreases-loop-element l = length l.left
