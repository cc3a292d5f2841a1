use Rattle.std.proofs.Common.{◌≡◌}
use Rattle.vrl_store.specs.StoreView.{count_of}
use Rattle.script_tests.proofs.stores.expect_steps.Given as goal

abbrev pub invariant-loop-row : goal.invariant-loop-row
invariant-loop-row g l = count_of l.store ≡ 3
