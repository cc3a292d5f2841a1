use Rattle.std.proofs.Common.{arith}
use Rattle.std.proofs.lemmas.Grind.{common_steps}
use Rattle.vrl_value.specs.declared.value.Value.{the_lemmas}
use Rattle.vrl_store.proofs.store.take_from.Goals as goal

pub returns-in-None-clause-value : goal.returns-in-None-clause-value
returns-in-None-clause-value c = grind (the_lemmas, arith, common_steps)
