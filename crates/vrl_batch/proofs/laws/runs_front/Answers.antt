use Rattle.vrl_batch.proofs.RunLaws.{front_law}
use Rattle.vrl_batch.proofs.laws.runs_front.Goals as goal

pub returns : goal.returns
returns c = front_law
