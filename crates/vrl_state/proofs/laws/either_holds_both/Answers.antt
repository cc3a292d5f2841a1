use Rattle.vrl_state.proofs.Fitting.{either_holds}
use Rattle.vrl_state.proofs.laws.either_holds_both.Goals as goal

pub returns : goal.returns
returns c = either_holds c.cuts_hold_the_allowed.ensures
