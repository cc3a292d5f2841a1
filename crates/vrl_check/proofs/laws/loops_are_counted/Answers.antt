use Rattle.vrl_check.proofs.Counted.{loops_are_counted}
use Rattle.vrl_check.proofs.laws.loops_are_counted.Goals as goal

pub returns : goal.returns
returns c = loops_are_counted
