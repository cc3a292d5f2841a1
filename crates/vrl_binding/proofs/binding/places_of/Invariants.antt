use Rattle.std.proofs.Common.{◌≡◌, ◌++◌, ◌+◌, ◌≤◌, length, map}
use Rattle.vrl_builtin.specs.View.{parameter_row}
use Rattle.vrl_binding.specs.Binding.{bound_from, names_of}
use Rattle.vrl_binding.proofs.binding.places_of.Given as goal

abbrev pub invariant-loop-parameter : goal.invariant-loop-parameter
invariant-loop-parameter l =
    (l.places.items ++ bound_from l.taken (map parameter_row l.left) (names_of l.arguments) ≡ bound_from 0 (map parameter_row l.parameters) (names_of l.arguments))
    × (l.taken + length l.left ≤ length l.parameters)

abbrev pub decreases-loop-parameter : goal.decreases-loop-parameter
decreases-loop-parameter l = length l.left
