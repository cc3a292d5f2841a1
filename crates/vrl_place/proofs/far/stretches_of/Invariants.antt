use Rattle.vrl_place.proofs.Near.{AreFirst}
use Rattle.vrl_place.proofs.far.stretches_of.Given as goal

abbrev pub invariant-loop-depth : goal.invariant-loop-depth
invariant-loop-depth l = AreFirst l.depth l.steps l.stretches.items l.kind
