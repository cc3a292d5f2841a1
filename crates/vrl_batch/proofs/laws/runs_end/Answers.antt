use Rattle.vrl_batch.proofs.RunLaws.{end_law}
use Rattle.vrl_batch.proofs.laws.runs_end.Goals as goal

pub returns : goal.returns
returns c = end_law
