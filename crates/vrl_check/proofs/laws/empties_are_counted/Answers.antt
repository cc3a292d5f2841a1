use Rattle.vrl_check.proofs.Counted.{empties_are_counted}
use Rattle.vrl_check.proofs.laws.empties_are_counted.Goals as goal

pub returns : goal.returns
returns c = empties_are_counted
