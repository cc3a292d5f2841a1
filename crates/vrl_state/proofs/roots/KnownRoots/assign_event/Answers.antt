use Rattle.std.proofs.Common.{Some, refl, subst}
use Rattle.vrl_syntax.specs.declared.root.Root.TheVariants.{Event}
use Rattle.vrl_state.specs.States.{HasNow, IsWrittenKind}
use Rattle.vrl_state.proofs.Limits.{written_root}
use Rattle.vrl_state.proofs.roots.KnownRoots.assign_event.Goals as goal

pub invariant_of-self-2 : goal.invariant_of-self-2
invariant_of-self-2 c = record { event = written_root _ c.args.new.now _ c.args.path.now c.requires.present c.in_ok-write_shared.ensures.ok; variables = c.self.invariant.variables }

pub returns-clause-ok : goal.returns-clause-ok
returns-clause-ok c =
    let M = c.write_shared.new.kind.value in
    subst (λ roots. HasNow Event (IsWrittenKind roots.event c.args.path.now c.args.new.now) roots (Some (record { event = M; variables = c.self.inside.variables }))) c.self.view_is
    (M, c.in_ok-write_shared.ensures.ok, refl)
