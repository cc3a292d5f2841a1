use Rattle.std.proofs.Common.{subst, sym}
use Rattle.vrl_state.specs.Stores.{Fits}
use Rattle.vrl_state.proofs.state.State.remove.Goals as goal

pub returns-clause-fits : goal.returns-clause-fits
returns-clause-fits c = λ before after fits is.
    c.removals_keep_fits.ensures c.args.root.now c.args.path.now _ _ before after c.in_ok-remove.ensures.removed (subst (Fits before) (sym c.self.view_is) fits) is
