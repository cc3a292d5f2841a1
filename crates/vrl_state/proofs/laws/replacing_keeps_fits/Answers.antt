use Rattle.vrl_state.proofs.Fitting.{replacing_fits}
use Rattle.vrl_state.proofs.laws.replacing_keeps_fits.Goals as goal

pub returns : goal.returns
returns c = replacing_fits c.cuts_are_wider.ensures c.wider_kinds_hold_more.ensures
