use Rattle.vrl_state.proofs.Fitting.{joins_held}
use Rattle.vrl_state.proofs.laws.joins_keep_held_names.Goals as goal

pub returns : goal.returns
returns c = joins_held c.either_holds_both.ensures
