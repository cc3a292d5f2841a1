use Rattle.vrl_table.proofs.Names.{functions_found, looked_up}
use Rattle.vrl_table.proofs.function.lookup.Goals as goal

pub returns : goal.returns
returns c = looked_up functions_found c.args.name.now c.named.result c.named.ensures
