use Rattle.vrl_token.proofs.Nestings.{IsShallow}
use Rattle.vrl_token.proofs.nesting.is_nested_too_deeply.Given as goal

abbrev pub invariant-loop-before : goal.invariant-loop-before
invariant-loop-before l = IsShallow l.tokens l.before l.progress
