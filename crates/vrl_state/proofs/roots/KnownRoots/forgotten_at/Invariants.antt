use Rattle.std.proofs.Common.{Some, take}
use Rattle.vrl_state.specs.States.{IsForgotten}
use Rattle.vrl_state.proofs.roots.KnownRoots.forgotten_at.Given as goal

abbrev pub invariant-loop-root : goal.invariant-loop-root
invariant-loop-root l = IsForgotten (take l.root-index l.roots) (Some l.self) (Some l.left)
