use Rattle.vrl_compile.proofs.Determined.{one_reading}
use Rattle.vrl_compile.proofs.reading.scripts_have_one_reading.Goals as goal

pub returns : goal.returns
returns c = one_reading c.tokens_are_determined.ensures c.scripts_are_determined.ensures
