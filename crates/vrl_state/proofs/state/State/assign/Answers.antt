use Rattle.std.proofs.Common.{subst, sym}
use Rattle.vrl_state.specs.Stores.{Fits}
use Rattle.vrl_state.proofs.state.State.assign.Goals as goal

pub returns-clause-fits : goal.returns-clause-fits
returns-clause-fits c = λ value before after fits new is.
    c.writes_keep_fits.ensures c.args.root.now c.args.path.now c.args.new.now.value value _ _ before after c.in_ok-assign.ensures.written (subst (Fits before) (sym c.self.view_is) fits) new is
