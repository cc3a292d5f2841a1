use Rattle.vrl_check.proofs.Holding.{states_that_hold}
use Rattle.vrl_check.proofs.laws.states_that_hold_can_be_given.Goals as goal

pub returns : goal.returns
returns c = states_that_hold
