use Rattle.vrl_batch.proofs.RunLaws.{stop_law}
use Rattle.vrl_batch.proofs.laws.runs_stop.Goals as goal

pub returns : goal.returns
returns c = stop_law
