use Rattle.std.proofs.Common.{length}
use Rattle.vrl_check.proofs.CallsGiven.{LeavesOthers}
use Rattle.vrl_check.proofs.answers.some_has_others.Given as goal

abbrev pub invariant-loop-parameter : goal.invariant-loop-parameter
invariant-loop-parameter l = LeavesOthers l.parts l.parameters l.places l.left l.bound

abbrev pub decreases-loop-parameter : goal.decreases-loop-parameter
decreases-loop-parameter l = length l.left
