use Rattle.std.proofs.Common.{◌≡◌, ◌≤◌, ◌++◌, replicate}
use Rattle.vrl_kind.proofs.stretch.push_copies.Given as goal

abbrev pub invariant-loop-copy : goal.invariant-loop-copy
invariant-loop-copy l = (l._copy ≤ l.copies) × (l.kinds.items ≡ l.fn.kinds.items ++ replicate l._copy l.kind)
