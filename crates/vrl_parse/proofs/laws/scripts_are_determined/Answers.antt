use Rattle.vrl_parse.proofs.Scripts.{scripts_determined}
use Rattle.vrl_parse.proofs.laws.scripts_are_determined.Goals as goal

pub returns : goal.returns
returns c = scripts_determined
