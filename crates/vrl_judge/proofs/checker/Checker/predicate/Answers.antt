use Rattle.std.proofs.Common.{[], ◌∙◌, subst, sym}
use Rattle.vrl_judge.specs.Judging.{IsReported}
use Rattle.vrl_judge.specs.Rules.{of_predicate}
use Rattle.vrl_judge.specs.Seen.{seen}
use Rattle.vrl_judge.proofs.Between.{sure_predicate}
use Rattle.vrl_judge.proofs.checker.Checker.predicate.Goals as goal

pub returns : goal.returns
returns c =
    let reported = subst (λ ds. IsReported ds c.args.self.now c.report-2.new.self c.args.part.ends c.report-2.new.ends)
    (sure_predicate c.args.self.now.state.scopes c.args.span c.args.part c.args.self.now c.is_other-other.result c.requires (sym c.is_fallible.ensures ∙ c.if-is_fallible.false) c.is_other-other.ensures) c.in_ok-report-2.ensures in
    subst (IsReported (of_predicate c.args.span (seen c.args.part c.args.self.now [] [] [])) c.args.self.now c.report-2.new.self c.args.part.ends) (sym c.into_parts-2.ensures.ends) reported
