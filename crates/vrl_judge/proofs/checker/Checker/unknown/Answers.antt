use Rattle.std.proofs.Common.{subst, sym}
use Rattle.vrl_kind.specs.Canonical.{any_kind}
use Rattle.vrl_judge.specs.Rules.{at, gives, with_codes}
use Rattle.vrl_judge.specs.Judging.{HasJudged}
use Rattle.vrl_judge.proofs.Forms.{unknown_judged}
use Rattle.vrl_judge.proofs.Results.{by_both}
use Rattle.vrl_judge.proofs.checker.Checker.unknown.Goals as goal

pub returns : goal.returns
returns c =
    by_both c.reported.result _ _ _
    (λ finding same reported. subst (λ o. HasJudged c.args.self.now c.reported.new.self o (with_codes (at 701 c.args.span) (gives any_kind c.args.self.now.state.known))) (sym same)
    (unknown_judged c.args.span c.args.self.now c.reported.new.self c.value-part.result _ finding.ends c.in_ok-any.ensures.tree c.value-part.ensures.kind c.value-part.ensures.ends reported))
    c.reported.ensures.same c.reported.ensures.reported
