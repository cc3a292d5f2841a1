use Rattle.vrl_judge.proofs.Between.{is_aborted}
use Rattle.vrl_judge.proofs.checker.Checker.aborted.Goals as goal

pub returns : goal.returns
returns c = is_aborted c.args.part c.args.span c.args.self.now c.report.new.self c.kill.new.self c.report.new.ends _ c.is_no_message-wrong.result c.is_no_message-wrong.ensures c.in_ok-report.ensures c.kill.ensures c.in_ok-part.ensures.tree
