use Rattle.vrl_state.proofs.Bodies.{names_fit}
use Rattle.vrl_state.proofs.laws.names_keep_fits.Goals as goal

pub returns : goal.returns
returns c = names_fit
