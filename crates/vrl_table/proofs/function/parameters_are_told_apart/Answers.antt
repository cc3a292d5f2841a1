use Rattle.vrl_table.proofs.Names.{parameters_apart}
use Rattle.vrl_table.proofs.function.parameters_are_told_apart.Goals as goal

pub returns : goal.returns
returns c = parameters_apart
