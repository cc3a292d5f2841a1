use Rattle.vrl_state.proofs.Bodies.{forgotten_is_wider}
use Rattle.vrl_state.proofs.laws.forgetting_widens.Goals as goal

pub returns : goal.returns
returns c = forgotten_is_wider
