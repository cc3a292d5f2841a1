use Rattle.vrl_batch.proofs.RunLaws.{begin_law}
use Rattle.vrl_batch.proofs.laws.runs_begin.Goals as goal

pub returns : goal.returns
returns c = begin_law
