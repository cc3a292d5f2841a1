use Rattle.std.proofs.Common.{subst, sym, ap, ◌∙◌}
use Rattle.vrl_state.specs.Stores.{store_back, Fits, FitsKnown, HidesOf, HoldsNames}
use Rattle.vrl_state.proofs.JoinedScopes.{same_first}
use Rattle.vrl_state.proofs.state.State.leave.Goals as goal

pub returns-clause-fits : goal.returns-clause-fits
returns-clause-fits c = λ scope names before after is hides holds fits.
    let left = c.in_ok-leave.ensures.left in
    let same = same_first scope left.scope _ _ (sym (ap (λ s. s.scopes) c.self.view_is ∙ is) ∙ left.scopes) in
    subst (FitsKnown (store_back names before after)) (sym left.known)
    (c.blocks_keep_fits.ensures left.scope names _ before after (subst (λ s. HidesOf s names) same hides) (subst (HoldsNames before) same holds) (subst (Fits after) (sym c.self.view_is) fits))
