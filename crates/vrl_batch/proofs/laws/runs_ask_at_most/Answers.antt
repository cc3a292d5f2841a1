use Rattle.vrl_batch.proofs.RunLaws.{ask_law}
use Rattle.vrl_batch.proofs.laws.runs_ask_at_most.Goals as goal

pub returns : goal.returns
returns c = ask_law
