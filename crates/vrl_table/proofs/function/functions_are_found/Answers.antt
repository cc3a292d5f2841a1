use Rattle.vrl_table.proofs.Names.{functions_found}
use Rattle.vrl_table.proofs.function.functions_are_found.Goals as goal

pub returns : goal.returns
returns c = functions_found
