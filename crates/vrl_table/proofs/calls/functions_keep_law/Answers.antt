use Rattle.vrl_table.specs.Laws.{row-law}
use Rattle.vrl_table.proofs.calls.functions_keep_law.Goals as goal

pub returns : goal.returns
returns c = row-law
