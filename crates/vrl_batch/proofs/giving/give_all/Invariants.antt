use Rattle.std.proofs.Common.{◌≡◌, ◌-◌, ◌≤◌, length, take}
use Rattle.vrl_batch.specs.Sinks.{Appends}
use Rattle.vrl_batch.proofs.giving.give_all.Given as goal

-- the front up to `given` was taken, and the count stands where it stood
abbrev pub invariant-loop-given : goal.invariant-loop-given
invariant-loop-given g l = (l.given ≤ length l.bytes) × Appends (g.K.Sink.written l.fn.sink) (g.K.Sink.written l.sink) (take l.given l.bytes) × (g.K.Sink.faults l.fn.sink ≤ g.K.Sink.faults l.sink) × (g.K.Sink.faults l.sink ≡ g.K.Sink.faults l.fn.sink)

abbrev pub decreases-loop-given : goal.decreases-loop-given
decreases-loop-given g l = length l.bytes - l.given
