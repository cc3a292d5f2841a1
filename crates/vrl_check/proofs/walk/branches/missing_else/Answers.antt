use Rattle.std.proofs.lemmas.Result.{IfOk-weaker}
use Rattle.std.proofs.Common.{subst}
use Rattle.vrl_judge.specs.Judging.{no_ends, IsSettledAs}
use Rattle.vrl_check.proofs.Between.{else_missing}
use Rattle.vrl_check.proofs.Forms.{finding_is}
use Rattle.vrl_check.proofs.walk.branches.missing_else.Goals as goal

pub returns : goal.returns
returns c = IfOk-weaker c.settled.result _ _ (λ last settles. else_missing c.args.checker.now c.in_ok-kind.kind last c.in_ok-kind.ensures
    (subst (λ o. IsSettledAs o c.args.checker.now last) (finding_is c.value.result c.in_ok-kind.kind no_ends c.value.ensures.kind c.value.ensures.ends) settles))
    c.settled.ensures
