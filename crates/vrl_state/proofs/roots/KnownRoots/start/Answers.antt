use Rattle.std.proofs.Common.{refl}
use Rattle.vrl_state.proofs.Limits.{start_roots}
use Rattle.vrl_state.proofs.roots.KnownRoots.start.Goals as goal

pub invariant_of-result : goal.invariant_of-result
invariant_of-result c = start_roots c.args.event.now c.in_ok-event.event.value _ c.kind_is_canonical.ensures c.requires c.in_ok-event.ensures refl c.new.ensures
