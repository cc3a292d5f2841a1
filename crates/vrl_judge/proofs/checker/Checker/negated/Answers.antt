use Rattle.vrl_judge.proofs.Forms.{negated}
use Rattle.vrl_judge.proofs.checker.Checker.negated.Goals as goal

pub returns : goal.returns
returns c = negated c.args.span c.args.self.now c.report.new.self c.args.part c.is_other-other.result c.report.new.ends _ c.is_other-other.ensures c.in_ok-report.ensures c.in_ok-part.ensures
