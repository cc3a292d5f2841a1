use Rattle.std.proofs.Common.{subst, sym}
use Rattle.vrl_state.specs.Stores.{Fits}
use Rattle.vrl_state.proofs.state.State.forget.Goals as goal

pub returns-clause-fits : goal.returns-clause-fits
returns-clause-fits c = λ store fits. c.forgetting_keeps_fits.ensures c.as_slice.result.now _ _ store c.in_ok-forget.ensures.forgotten (subst (Fits store) (sym c.self.view_is) fits)
