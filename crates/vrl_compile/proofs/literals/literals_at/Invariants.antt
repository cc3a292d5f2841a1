use Rattle.std.proofs.Common.{length}
use Rattle.vrl_compile.proofs.MalformedLiterals.{IsToldTo}
use Rattle.vrl_compile.proofs.literals.literals_at.Given as goal

-- what was told so far, and the numbers of the literals that are left
abbrev pub invariant-loop-token : goal.invariant-loop-token
invariant-loop-token l = IsToldTo l.tokens l.rest l.number l.left l.found.items

abbrev pub decreases-loop-token : goal.decreases-loop-token
decreases-loop-token l = length l.rest
