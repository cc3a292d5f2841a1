use Rattle.std.proofs.Common.{subst, sym}
use Rattle.vrl_syntax.specs.declared.root.Root.TheVariants.{Name}
use Rattle.vrl_state.specs.Stores.{with_value, FitsKnown}
use Rattle.vrl_state.proofs.Turning.{bound_fits}
use Rattle.vrl_state.proofs.laws.hiding_keeps_fits.Goals as goal

pub returns : goal.returns
returns c = λ x K v before after store is fits h.
    subst (FitsKnown (with_value (Name x) v store)) (sym is.known)
    (bound_fits x is.kind v before.known store (c.wider_kinds_hold_more.ensures v K is.kind (c.cuts_are_wider.ensures K is.kind is.cut) h) fits)
