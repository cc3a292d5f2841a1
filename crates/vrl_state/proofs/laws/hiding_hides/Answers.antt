use Rattle.vrl_state.proofs.Turning.{hiding_more}
use Rattle.vrl_state.proofs.laws.hiding_hides.Goals as goal

pub returns : goal.returns
returns c = hiding_more
