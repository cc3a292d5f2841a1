use Rattle.std.proofs.Common.{arith}
use Rattle.std.proofs.lemmas.Grind.{common_steps}
use Rattle.vrl_io.proofs.memory_source.MemorySourceSource.take.Goals as goal

pub returns-then-self-clause-end_empty : goal.returns-then-self-clause-end_empty
returns-then-self-clause-end_empty c = grind (arith, common_steps)

pub returns-clause-answer : goal.returns-clause-answer
returns-clause-answer c = grind (arith, common_steps)

pub returns-clause-after : goal.returns-clause-after
returns-clause-after c = grind (arith, common_steps)

pub returns-clause-bytes : goal.returns-clause-bytes
returns-clause-bytes c = grind (arith, common_steps)

pub returns-clause-end_empty : goal.returns-clause-end_empty
returns-clause-end_empty c = grind (arith, common_steps)
