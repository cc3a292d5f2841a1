use Rattle.vrl_token.proofs.Quotes.{IsScanned}
use Rattle.vrl_token.proofs.quoted.closing_quote.Given as goal

abbrev pub invariant-loop-index : goal.invariant-loop-index
invariant-loop-index l = IsScanned l.quote l.bytes l.index l.escaped
