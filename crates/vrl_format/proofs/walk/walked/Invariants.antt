use Rattle.std.proofs.Common.{length}
use Rattle.vrl_format.proofs.Steps.{IsWalkedTo}
use Rattle.vrl_format.proofs.walk.walked.Given as goal

abbrev pub invariant-loop-first : goal.invariant-loop-first
invariant-loop-first l = IsWalkedTo l.text l.fn.tokens l.walk l.place l.rest

abbrev pub decreases-loop-first : goal.decreases-loop-first
decreases-loop-first l = length l.rest
