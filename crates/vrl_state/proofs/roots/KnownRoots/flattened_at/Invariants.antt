use Rattle.std.proofs.Common.{Some, take}
use Rattle.vrl_state.specs.States.{IsFlattened}
use Rattle.vrl_state.proofs.roots.KnownRoots.flattened_at.Given as goal

abbrev pub invariant-loop-root : goal.invariant-loop-root
invariant-loop-root l = IsFlattened (take l.root-index l.roots) (Some l.self) (Some l.turned)
