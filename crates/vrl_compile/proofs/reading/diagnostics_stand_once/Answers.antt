use Rattle.vrl_compile.proofs.ToldOnce.{codes_once, diagnostics_once}
use Rattle.vrl_compile.proofs.reading.diagnostics_stand_once.Goals as goal

pub returns-clause-codes : goal.returns-clause-codes
returns-clause-codes c = codes_once c.no_code_stands_twice.ensures

pub returns-clause-diagnostics : goal.returns-clause-diagnostics
returns-clause-diagnostics c = diagnostics_once c.no_code_stands_twice.ensures
