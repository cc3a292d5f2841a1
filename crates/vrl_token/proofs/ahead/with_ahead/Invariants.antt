use Rattle.std.proofs.Common.{length}
use Rattle.vrl_token.proofs.Readied.{IsReadied}
use Rattle.vrl_token.proofs.ahead.with_ahead.Given as goal

abbrev pub invariant-loop-lexeme : goal.invariant-loop-lexeme
invariant-loop-lexeme l = IsReadied l.initial.lexemes.items l.lexemes.items l.ready.items l.ahead

abbrev pub decreases-loop-lexeme : goal.decreases-loop-lexeme
decreases-loop-lexeme l = length l.lexemes.items
