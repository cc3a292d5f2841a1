use Rattle.std.proofs.Common.{refl}
use Rattle.vrl_check.specs.Loops.{closures_in_expr}
use Rattle.vrl_check.proofs.Passed.{part_passed}
use Rattle.vrl_judge.proofs.Results.{by_both}
use Rattle.vrl_syntax.specs.ErrorAssignments.{in_expr}
use Rattle.vrl_syntax.specs.View.{expr_of}
use Rattle.vrl_check.proofs.passing.pass.Goals as goal

pub returns : goal.returns
returns c =
    let e = expr_of c.args.expr.now in
    by_both c.nothing.result _ _ _
    (λ finding. part_passed (in_expr e) (closures_in_expr e) c.args.checker.now _ finding refl refl refl refl c.in_ok-add_expr.ensures c.in_ok-add_expr-2.ensures)
    c.nothing.ensures.kind c.nothing.ensures.ends
