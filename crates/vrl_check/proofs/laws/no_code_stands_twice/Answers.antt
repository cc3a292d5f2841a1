use Rattle.vrl_check.proofs.ApartCodes.{no_code_twice}
use Rattle.vrl_check.proofs.laws.no_code_stands_twice.Goals as goal

pub returns : goal.returns
returns c = no_code_twice c.parameters_are_told_apart.ensures
