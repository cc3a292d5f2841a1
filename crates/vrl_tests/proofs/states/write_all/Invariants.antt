use Rattle.std.proofs.Common.{◌≡◌}
use Rattle.vrl_tests.proofs.states.write_all.Given as goal

-- the blocks stay open
abbrev pub invariant-loop-word : goal.invariant-loop-word
invariant-loop-word l = l.state.scopes ≡ l.fn.state.scopes
