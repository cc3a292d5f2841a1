use Rattle.vrl_judge.proofs.Assigning.{assigned_judged}
use Rattle.vrl_judge.proofs.checker.Checker.assigned.Goals as goal

pub returns : goal.returns
returns c =
    assigned_judged c.args.span c.args.target.now c.args.self.now c.report.new.self c.report-2.new.self c.report_misfits.new.self c.write.new.self c.args.part c.report.new.ends c.report-2.new.ends c.report_misfits.new.ends
    c.is_fallible-fallible.result c.is_nowhere.result c.puts_misfit-no_event.result c.puts_misfit-no_metadata.result c.is_fallible-fallible.ensures c.is_nowhere.ensures c.puts_misfit-no_event.ensures c.puts_misfit-no_metadata.ensures
    c.in_ok-report.ensures c.in_ok-report-2.ensures c.in_ok-report_misfits.ensures c.in_ok-write.ensures.written c.write.ensures.others
