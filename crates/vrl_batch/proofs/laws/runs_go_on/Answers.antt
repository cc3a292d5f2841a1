use Rattle.vrl_batch.proofs.RunLaws.{go_on_law}
use Rattle.vrl_batch.proofs.laws.runs_go_on.Goals as goal

pub returns : goal.returns
returns c = go_on_law
