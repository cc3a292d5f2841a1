use Rattle.vrl_table.proofs.Names.{counted}
use Rattle.vrl_table.proofs.function.functions_are_counted.Goals as goal

pub returns : goal.returns
returns c = counted
