use Rattle.vrl_state.proofs.Fitting.{writes_fit}
use Rattle.vrl_state.proofs.laws.writes_keep_fits.Goals as goal

pub returns : goal.returns
returns c = writes_fit c.any_holds_all.ensures c.cuts_are_wider.ensures c.wider_kinds_hold_more.ensures c.writes_are_of_their_kind.ensures
