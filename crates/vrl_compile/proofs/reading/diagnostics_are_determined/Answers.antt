use Rattle.vrl_compile.proofs.Determined.{determined}
use Rattle.vrl_compile.proofs.reading.diagnostics_are_determined.Goals as goal

pub returns : goal.returns
returns c = determined c.tokens_are_determined.ensures c.scripts_are_determined.ensures c.error_places_are_determined.ensures c.judgements_are_determined.ensures
