use Rattle.vrl_state.proofs.Fitting.{cut_holds_allowed}
use Rattle.vrl_state.proofs.laws.cuts_hold_the_allowed.Goals as goal

pub returns : goal.returns
returns c = cut_holds_allowed c.cuts_are_wider.ensures c.wider_kinds_hold_more.ensures
