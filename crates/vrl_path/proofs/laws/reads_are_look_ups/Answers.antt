use Rattle.vrl_path.proofs.FromEnd.{reads_are}
use Rattle.vrl_path.proofs.laws.reads_are_look_ups.Goals as goal

pub returns : goal.returns
returns c = reads_are
