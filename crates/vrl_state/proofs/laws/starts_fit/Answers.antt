use Rattle.vrl_state.proofs.Fitting.{starts_fit}
use Rattle.vrl_state.proofs.laws.starts_fit.Goals as goal

pub returns : goal.returns
returns c = starts_fit c.cuts_are_wider.ensures c.wider_kinds_hold_more.ensures
