use Rattle.vrl_judge.proofs.Forms.{expr_settled}
use Rattle.vrl_judge.proofs.checker.Checker.settled.Goals as goal

pub returns : goal.returns
returns c = expr_settled c.args.self.now c.args.part _ c.is_alive.result c.is_alive.ensures c.in_ok-settle.ensures.kind c.in_ok-settle.ensures.ends
