use Rattle.std.proofs.Common.{◌≡◌, ◌++◌, ◌-◌, ◌≤◌, length}
use Rattle.vrl_generate.proofs.generator.Generator.next_batch.Given as goal

-- the lines of the batch, and those that are left behind them
abbrev pub invariant-loop-alloc : goal.invariant-loop-alloc
invariant-loop-alloc l = (l.fn.self ≡ l.lines.items ++ l.self) × (length l.lines.items ≤ 256)

abbrev pub decreases-loop-alloc : goal.decreases-loop-alloc
decreases-loop-alloc l = 256 - length l.lines.items
