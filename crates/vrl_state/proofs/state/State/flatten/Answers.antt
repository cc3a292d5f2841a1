use Rattle.std.proofs.Common.{subst, sym}
use Rattle.vrl_state.specs.Stores.{Fits}
use Rattle.vrl_state.proofs.state.State.flatten.Goals as goal

pub returns-clause-fits : goal.returns-clause-fits
returns-clause-fits c = λ store fits. c.flattening_keeps_fits.ensures c.as_slice.result.now _ _ store c.in_ok-flatten.ensures.flat (subst (Fits store) (sym c.self.view_is) fits)
