use Rattle.vrl_state.proofs.Fitting.{names_held}
use Rattle.vrl_state.proofs.laws.blocks_keep_held_names.Goals as goal

pub returns : goal.returns
returns c = names_held
