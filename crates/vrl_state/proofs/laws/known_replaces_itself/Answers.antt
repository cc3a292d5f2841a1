use Rattle.vrl_state.proofs.Replacing.{replaced_by_itself}
use Rattle.vrl_state.proofs.laws.known_replaces_itself.Goals as goal

pub returns : goal.returns
returns c = replaced_by_itself
