use Rattle.std.proofs.Common.{length}
use Rattle.vrl_token.proofs.Told.{IsToldSoFar}
use Rattle.vrl_token.proofs.telling.tell.Given as goal

abbrev pub invariant-loop-lexeme : goal.invariant-loop-lexeme
invariant-loop-lexeme l = IsToldSoFar l.fn.lexemes.items l.left.items l.tokens.items l.before

abbrev pub decreases-loop-lexeme : goal.decreases-loop-lexeme
decreases-loop-lexeme l = length l.left.items
