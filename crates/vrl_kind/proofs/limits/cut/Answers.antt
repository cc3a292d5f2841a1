use Rattle.vrl_kind.proofs.Joins.{inhabits_above}
use Rattle.vrl_kind.proofs.limits.cut.Goals as goal

pub returns-then-levels-gt-LEVEL_LIMIT-clause-inhabited : goal.returns-then-levels-gt-LEVEL_LIMIT-clause-inhabited
returns-then-levels-gt-LEVEL_LIMIT-clause-inhabited c = λ value. inhabits_above value _ c.flatten.result c.flatten.ensures.within
