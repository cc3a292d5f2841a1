use Rattle.vrl_table.proofs.Present.{results_present}
use Rattle.vrl_table.proofs.function.results_are_present.Goals as goal

pub returns : goal.returns
returns c = results_present
