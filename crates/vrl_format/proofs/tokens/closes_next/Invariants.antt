use Rattle.std.proofs.Common.{◌≡◌, length}
use Rattle.vrl_format.specs.Pieces.{closes_next}
use Rattle.vrl_format.proofs.tokens.closes_next.Given as goal

abbrev pub invariant-loop-first : goal.invariant-loop-first
invariant-loop-first l = closes_next l.rest ≡ closes_next l.fn.tokens

abbrev pub decreases-loop-first : goal.decreases-loop-first
decreases-loop-first l = length l.rest
