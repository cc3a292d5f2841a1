use denote.Text.{Utf8}
use denote.Shadow.{shadow}
use Rattle.std.proofs.Common.{length}
use Rattle.vrl_token.proofs.Digits.{IsDigitsSoFar}
use Rattle.vrl_token.proofs.number.behind_digits.Given as goal

abbrev pub invariant-loop-more : goal.invariant-loop-more
invariant-loop-more l = shadow (Utf8 l.rest) × IsDigitsSoFar l.text l.rest

abbrev pub decreases-loop-more : goal.decreases-loop-more
decreases-loop-more l = length l.rest
