use Rattle.std.proofs.Common.{subst}
use Rattle.std.proofs.lemmas.Result.{IfOk-weaker}
use Rattle.vrl_check.specs.Calling.{call_args}
use Rattle.vrl_judge.specs.Judging.{IsReported}
use Rattle.vrl_check.proofs.CallsCodes.{told_as}
use Rattle.vrl_judge.proofs.Parts.{reported_more}
use Rattle.vrl_check.proofs.calls.bound_codes.Goals as goal

pub returns-clause-reported : goal.returns-clause-reported
returns-clause-reported c =
    IfOk-weaker c.report.result _ _
    (λ _ last js told. reported_more _ _ c.args.checker.now c.argument_codes.new.checker c.report.new.self c.args.arguments.now.ends c.argument_codes.new.ends c.report.new.ends
    (c.in_ok-argument_codes.ensures js (told_as (call_args c.args.call.now) _ c.args.arguments.now.parts.items c.deref.result.now js c.as_slice.ensures c.deref.ensures.value told))
    (subst (λ ds. IsReported ds c.argument_codes.new.checker c.report.new.self c.argument_codes.new.ends c.report.new.ends) (c.is_wrong_closure.ensures c.args.span) last))
    c.report.ensures
