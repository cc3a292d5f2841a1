use Rattle.std.proofs.Common.{subst, sym}
use Rattle.vrl_syntax.specs.declared.root.Root.TheVariants.{Name}
use Rattle.vrl_state.specs.Stores.{with_value, Fits, FitsKnown}
use Rattle.vrl_state.proofs.state.State.hide.Goals as goal

pub returns-clause-fits : goal.returns-clause-fits
returns-clause-fits c = λ value store fits h.
    subst (λ x. FitsKnown (with_value (Name x) value store) c.hide.new.known) c.as_str-name.ensures
    (c.hiding_keeps_fits.ensures c.as_str-name.result.now c.args.new.now value _ _ store c.in_ok-hide.ensures.hidden (subst (Fits store) (sym c.self.view_is) fits) h)
