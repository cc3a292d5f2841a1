use Rattle.std.proofs.Common.{◌≡◌, ◌+◌, length, map}
use Rattle.vrl_builtin.specs.Conditions.{first_wrong, first_wrong_from}
use Rattle.vrl_builtin.specs.View.{givens_of, parameter_row}
use Rattle.vrl_builtin.proofs.builtin.Builtin.wrong_literal.Given as goal

abbrev pub invariant-loop-parameter : goal.invariant-loop-parameter
invariant-loop-parameter g l =
    let row = g.Self.Builtin.row l.self in
    (first_wrong row (givens_of l.given) ≡ first_wrong_from l.place (map parameter_row l.left) row.accepts (givens_of l.given))
    × (l.place + length l.left ≡ length l.initial.left)

abbrev pub decreases-loop-parameter : goal.decreases-loop-parameter
decreases-loop-parameter g l = length l.left
