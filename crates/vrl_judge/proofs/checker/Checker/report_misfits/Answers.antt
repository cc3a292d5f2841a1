use Rattle.std.proofs.lemmas.Result.{IfOk-weaker}
use Rattle.vrl_judge.specs.Rules.{at, when}
use Rattle.vrl_judge.proofs.Parts.{reported_more}
use Rattle.vrl_judge.proofs.checker.Checker.report_misfits.Goals as goal

pub returns : goal.returns
returns c = IfOk-weaker c.report-2.result _ _
    (λ _ second. reported_more (when c.args.no_event (at 1006 c.args.span)) (when c.args.no_metadata (at 1017 c.args.span)) c.args.self.now c.report.new.self c.report-2.new.self c.args.ends.now c.report.new.ends c.report-2.new.ends
    c.in_ok-report.ensures second)
    c.report-2.ensures
