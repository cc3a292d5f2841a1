use Rattle.std.proofs.Common.{sym, ◌∙◌}
use Rattle.vrl_kind.proofs.Sameness.{union_to, union_from}
use Rattle.vrl_kind.proofs.scalars.Scalars.within.Goals as goal

pub returns : goal.returns
returns c = (λ is. union_to _ _ (sym c.union.ensures ∙ c.same.ensures.0 is), λ within. c.same.ensures.1 (c.union.ensures ∙ union_from _ _ within))
