use Rattle.vrl_table.proofs.Names.{no_forms}
use Rattle.vrl_table.proofs.function.forms_are_no_functions.Goals as goal

pub returns : goal.returns
returns c = no_forms
