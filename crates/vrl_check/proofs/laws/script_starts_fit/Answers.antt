use Rattle.vrl_check.proofs.Starting.{script_starts}
use Rattle.vrl_check.proofs.laws.script_starts_fit.Goals as goal

pub returns : goal.returns
returns c = script_starts c.starts_fit.ensures
