use Rattle.std.proofs.Common.{◌≡◌, ◌+◌, length, map}
use Rattle.vrl_builtin.specs.View.{arguments_of, parameter_row}
use Rattle.vrl_resolve.specs.Calls.{first_unfit}
use Rattle.vrl_resolve.proofs.calls.first_unfit.Given as goal

abbrev pub invariant-loop-parameter : goal.invariant-loop-parameter
invariant-loop-parameter l = record {
  rest : first_unfit l.place (map parameter_row l.left) (arguments_of l.arguments) ≡ first_unfit 0 (map parameter_row l.parameters) (arguments_of l.arguments);
  within : l.place + length l.left ≡ length l.parameters;
}

abbrev pub decreases-loop-parameter : goal.decreases-loop-parameter
decreases-loop-parameter l = length l.left
