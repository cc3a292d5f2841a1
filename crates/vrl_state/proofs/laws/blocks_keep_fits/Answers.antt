use Rattle.vrl_state.proofs.Fitting.{blocks_fit}
use Rattle.vrl_state.proofs.laws.blocks_keep_fits.Goals as goal

pub returns : goal.returns
returns c = blocks_fit
