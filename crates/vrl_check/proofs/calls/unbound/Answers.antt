use Rattle.std.proofs.Common.{◌≡◌, ◌∙◌, ap, map, subst, sym}
use Rattle.std.proofs.lemmas.Result.{IfOk-weaker}
use Rattle.vrl_syntax.specs.View.{args_view}
use Rattle.vrl_check.specs.Calling.{written}
use Rattle.vrl_check.specs.Judgement.{of_fault}
use Rattle.vrl_judge.specs.Rules.{Argument}
use Rattle.vrl_judge.specs.Judging.{IsReported}
use Rattle.vrl_check.proofs.CallsFound.{unknown_told}
use Rattle.vrl_check.proofs.calls.unbound.Goals as goal

pub returns-in-Unknown-clause-reported : goal.returns-in-Unknown-clause-reported
returns-in-Unknown-clause-reported c =
    IfOk-weaker c.report_unknown.result _ _
    (λ _ reported js is.
    let told : written (args_view c.as_slice.result.now) ≡ map (λ (g : Argument). (g.span, g.value)) js = ap written c.as_slice.ensures ∙ is in
    subst (λ f. IsReported (of_fault c.args.span js f) c.args.checker.now c.report_unknown.new.checker c.args.ends.now c.report_unknown.new.ends) (sym c.in-Unknown.is)
    (subst (λ ds. IsReported ds c.args.checker.now c.report_unknown.new.checker c.args.ends.now c.report_unknown.new.ends) (unknown_told c.as_slice.result.now js c.in-Unknown.place told) reported))
    c.report_unknown.ensures
