use Rattle.std.proofs.Common.{◌≡◌, ◌∙◌, false, refl, sym, true}
use Rattle.remap_call.proofs.asking.kind_refused.Goals as goal

pub returns-clause-asks : goal.returns-clause-asks
returns-clause-asks c = (refl, λ is. (let wrong : false ≡ true = sym c.if-wants_memory.false ∙ c.wants_memory.ensures.1 is in cc))
