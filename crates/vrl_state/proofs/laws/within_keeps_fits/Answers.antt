use Rattle.vrl_state.proofs.Fitting.{within_fits}
use Rattle.vrl_state.proofs.laws.within_keeps_fits.Goals as goal

pub returns : goal.returns
returns c = within_fits c.wider_kinds_hold_more.ensures
