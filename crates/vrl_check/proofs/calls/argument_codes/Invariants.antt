use Rattle.std.proofs.Common.{length}
use Rattle.vrl_check.proofs.CallsCodes.{AreCodesPartway}
use Rattle.vrl_check.proofs.calls.argument_codes.Given as goal

abbrev pub invariant-loop-parameter : goal.invariant-loop-parameter
invariant-loop-parameter l = AreCodesPartway l.callee l.args l.parts l.places l.initial.checker l.initial.ends l.checker l.ends l.place l.left l.bound

abbrev pub decreases-loop-parameter : goal.decreases-loop-parameter
decreases-loop-parameter l = length l.left
