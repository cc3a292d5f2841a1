use denote.Text.{Utf8}
use denote.Shadow.{shadow}
use Rattle.std.proofs.Common.{length}
use Rattle.vrl_token.proofs.Ends.{EndsWith}
use Rattle.vrl_token.proofs.Leading.{IsLed}
use Rattle.vrl_token.proofs.Placed.{AreOnCharacters}
use Rattle.vrl_token.proofs.lexer.lexemes.Given as goal

abbrev pub invariant-loop-rest : goal.invariant-loop-rest
invariant-loop-rest l = shadow (Utf8 l.rest) × IsLed l.text l.rest l.context l.found.items × EndsWith l.text l.rest × AreOnCharacters l.text l.found.items

abbrev pub decreases-loop-rest : goal.decreases-loop-rest
decreases-loop-rest l = length l.rest
