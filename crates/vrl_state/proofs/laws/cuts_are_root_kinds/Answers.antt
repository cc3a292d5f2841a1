use Rattle.vrl_state.proofs.Limits.{sets_root}
use Rattle.vrl_state.proofs.laws.cuts_are_root_kinds.Goals as goal

pub returns : goal.returns
returns c = sets_root
