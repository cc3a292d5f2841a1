use Rattle.vrl_batch.proofs.RunLaws.{batches_end_law}
use Rattle.vrl_batch.proofs.laws.batches_end.Goals as goal

pub returns : goal.returns
returns c = batches_end_law
