use Rattle.vrl_state.proofs.Fitting.{joins_fit}
use Rattle.vrl_state.proofs.laws.joins_keep_fits.Goals as goal

pub returns : goal.returns
returns c = joins_fit c.either_holds_both.ensures
