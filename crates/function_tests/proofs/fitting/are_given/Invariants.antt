use Rattle.std.proofs.Common.{◌≡◌, ◌+◌, length, map, ℕ, Bool}
use Rattle.vrl_builtin.specs.Conditions.{AreGivenFrom}
use Rattle.vrl_builtin.specs.View.{givens_of, parameter_row}
use Rattle.vrl_value.specs.Tree.{Tree}
use Rattle.function_tests.proofs.fitting.are_given.Given as goal

abbrev pub invariant-loop-parameter : goal.invariant-loop-parameter
invariant-loop-parameter l =
    ((accepts : ℕ → Tree → Bool) → AreGivenFrom l.place (map parameter_row l.left) accepts (givens_of l.given) → AreGivenFrom 0 (map parameter_row l.parameters) accepts (givens_of l.given))
    × (l.place + length l.left ≡ length l.parameters)

abbrev pub decreases-loop-parameter : goal.decreases-loop-parameter
decreases-loop-parameter l = length l.left
