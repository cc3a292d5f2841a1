use Rattle.std.proofs.Common.{subst, sym, ap, ◌∙◌}
use Rattle.vrl_state.specs.Stores.{Fits}
use Rattle.vrl_state.proofs.branch.Branch.leave.Goals as goal

pub returns-clause-fits : goal.returns-clause-fits
returns-clause-fits c = λ scope names before after is hides holds fits. c.in_ok-leave.ensures.fits scope names before after (ap (λ s. s.scopes) c.self.view_is ∙ is) hides holds (subst (Fits after) (sym c.self.view_is) fits)
