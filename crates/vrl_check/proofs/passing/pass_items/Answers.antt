use Rattle.std.proofs.Common.{refl}
use Rattle.vrl_check.specs.Loops.{closures_in_exprs}
use Rattle.vrl_check.proofs.Passed.{part_passed}
use Rattle.vrl_judge.proofs.Results.{by_both}
use Rattle.vrl_syntax.specs.ErrorAssignments.{in_exprs}
use Rattle.vrl_syntax.specs.View.{exprs_of}
use Rattle.vrl_check.proofs.passing.pass_items.Goals as goal

pub returns : goal.returns
returns c =
    let es = exprs_of c.args.items.now in
    by_both c.nothing.result _ _ _
    (λ finding. part_passed (in_exprs es) (closures_in_exprs es) c.args.checker.now _ finding refl refl refl refl c.in_ok-add_exprs.ensures c.in_ok-add_exprs-2.ensures)
    c.nothing.ensures.kind c.nothing.ensures.ends
