-- What was left are the bytes so far, and what the source has left.
use Rattle.std.proofs.Common.{◌≤◌, ◌-◌, length}
use Rattle.vrl_io.proofs.ReadFront.{IsFrontOf}
use Rattle.vrl_io.proofs.file_store.read_front.Given as goal

abbrev pub invariant-loop-piece : goal.invariant-loop-piece
invariant-loop-piece g l = record {
  within : length l.bytes.items ≤ l.limit;
  front : IsFrontOf l.bytes.items (g.S.Source.left l.fn.source) (g.S.Source.left l.source);
  count : g.S.Source.faults l.fn.source ≤ g.S.Source.faults l.source;
}

abbrev pub decreases-loop-piece : goal.decreases-loop-piece
decreases-loop-piece g l = l.limit - length l.bytes.items
