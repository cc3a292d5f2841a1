use Rattle.vrl_state.proofs.Fitting.{removals_fit}
use Rattle.vrl_state.proofs.laws.removals_keep_fits.Goals as goal

pub returns : goal.returns
returns c = removals_fit c.cuts_are_wider.ensures c.wider_kinds_hold_more.ensures c.removals_are_of_their_kind.ensures c.nothing_removed_is_of_the_kind.ensures
