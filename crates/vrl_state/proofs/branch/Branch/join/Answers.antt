use Rattle.std.proofs.Common.{subst, sym}
use Rattle.vrl_state.specs.Stores.{Fits}
use Rattle.vrl_state.proofs.branch.Branch.join.Goals as goal

pub returns-clause-first : goal.returns-clause-first
returns-clause-first c = λ store fits. c.in_ok-join.ensures.first store (subst (Fits store) (sym c.self.view_is) fits)
