use Rattle.std.proofs.Common.{inl, inr, subst, sym}
use Rattle.vrl_state.specs.Stores.{Fits}
use Rattle.vrl_state.proofs.state.State.join.Goals as goal

pub returns-clause-first : goal.returns-clause-first
returns-clause-first c = λ store fits. c.joins_keep_fits.ensures _ _ _ store c.in_ok-known.ensures (inl (subst (Fits store) (sym c.self.view_is) fits))

pub returns-clause-second : goal.returns-clause-second
returns-clause-second c = λ store fits.
    c.joins_keep_fits.ensures _ _ _ store c.in_ok-known.ensures (inr (subst (λ m. Fits store m.state) (sym c.other-inside.view_is) (subst (Fits store) (sym c.other.view_is) fits)))
