use Rattle.std.proofs.Common.{length}
use Rattle.vrl_check.proofs.CallsGiven.{AreGivenPartway}
use Rattle.vrl_check.proofs.answers.givens_of.Given as goal

abbrev pub invariant-loop-parameter : goal.invariant-loop-parameter
invariant-loop-parameter l = AreGivenPartway l.args l.parts l.parameters l.places l.givens.items l.left l.bound

abbrev pub decreases-loop-parameter : goal.decreases-loop-parameter
decreases-loop-parameter l = length l.left
