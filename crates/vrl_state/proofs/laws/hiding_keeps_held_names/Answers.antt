use Rattle.vrl_state.proofs.Turning.{hiding_holds}
use Rattle.vrl_state.proofs.laws.hiding_keeps_held_names.Goals as goal

pub returns : goal.returns
returns c = hiding_holds
