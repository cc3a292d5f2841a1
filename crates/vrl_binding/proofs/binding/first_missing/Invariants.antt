use Rattle.std.proofs.Common.{◌≡◌, ◌+◌, length, map, option_map}
use Rattle.vrl_builtin.specs.View.{parameter_row}
use Rattle.vrl_binding.specs.Binding.{first_missing}
use Rattle.vrl_binding.proofs.binding.first_missing.Given as goal

abbrev pub invariant-loop-parameter : goal.invariant-loop-parameter
invariant-loop-parameter l =
    (first_missing (map parameter_row l.parameters) l.places ≡ option_map (λ n. l.place + n) (first_missing (map parameter_row l.left) l.bound))
    × (l.place + length l.left ≡ length l.parameters)

abbrev pub decreases-loop-parameter : goal.decreases-loop-parameter
decreases-loop-parameter l = length l.left
