use Rattle.std.proofs.Common.{Some, refl, subst}
use Rattle.vrl_syntax.specs.declared.root.Root.TheVariants.{Event}
use Rattle.vrl_state.specs.States.{HasNow, IsLeftKind}
use Rattle.vrl_state.proofs.Limits.{removed_root}
use Rattle.vrl_state.proofs.roots.KnownRoots.remove_of_event.Goals as goal

pub invariant_of-self-2 : goal.invariant_of-self-2
invariant_of-self-2 c = record { event = removed_root _ _ c.args.path.now c.self.invariant.event c.in_ok-take_out_shared.ensures.ok; variables = c.self.invariant.variables }

pub returns-clause-ok : goal.returns-clause-ok
returns-clause-ok c =
    let M = c.take_out_shared.new.kind.value in
    subst (λ roots. HasNow Event (IsLeftKind roots.event c.args.path.now) roots (Some (record { event = M; variables = c.self.inside.variables }))) c.self.view_is
    (M, c.in_ok-take_out_shared.ensures.ok, refl)
