use Rattle.vrl_token.proofs.Opened.{IsPassed}
use Rattle.vrl_token.proofs.template.opening_length.Given as goal

abbrev pub invariant-loop-index : goal.invariant-loop-index
invariant-loop-index l = IsPassed l.bytes l.index l.pending
