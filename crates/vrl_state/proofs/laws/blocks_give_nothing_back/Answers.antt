use Rattle.vrl_state.proofs.Behind.{nothing_back}
use Rattle.vrl_state.proofs.laws.blocks_give_nothing_back.Goals as goal

pub returns : goal.returns
returns c = nothing_back
