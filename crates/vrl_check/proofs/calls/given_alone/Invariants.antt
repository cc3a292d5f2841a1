use Rattle.std.proofs.Common.{◌≡◌, map, replicate}
use Rattle.vrl_builtin.specs.View.{given_tree}
use Rattle.vrl_check.proofs.CallsLiterals.{not_given}
use Rattle.vrl_check.proofs.calls.given_alone.Given as goal

abbrev pub invariant-loop-step : goal.invariant-loop-step
invariant-loop-step l = map given_tree l.givens.items ≡ replicate l._step not_given
