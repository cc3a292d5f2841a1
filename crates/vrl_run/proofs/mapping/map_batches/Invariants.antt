use Rattle.std.proofs.Common.{◌≡◌, ◌+◌, ◌-◌, None, length}
use Rattle.vrl_batch.specs.Limits.{input_limit}
use Rattle.vrl_batch.specs.Reads.{stream}
use Rattle.vrl_run.specs.Mapping.{HasMapped, run_at}
use Rattle.vrl_run.proofs.mapping.map_batches.Given as goal

-- the batches so far are done, and no device has failed
abbrev pub invariant-loop : goal.invariant-loop
invariant-loop g l = record {
  mapped : HasMapped (g.W.Work.makes l.work)
      (run_at (stream l.fn.lines.bytes (g.S.Source.left l.fn.input) (g.S.Source.taken l.fn.input) (g.S.Source.ended l.fn.input) (g.C.Clock.ahead l.fn.clock)) (g.O.Sink.written l.fn.output) (g.E.Sink.written l.fn.report) l.fn.marked)
      (run_at (stream l.lines.bytes (g.S.Source.left l.input) (g.S.Source.taken l.input) (g.S.Source.ended l.input) (g.C.Clock.ahead l.clock)) (g.O.Sink.written l.output) (g.E.Sink.written l.report) l.marked);
  fault : l.lines.fault ≡ None;
  read : g.S.Source.faults l.input ≡ g.S.Source.faults l.fn.input;
  output : g.O.Sink.faults l.output ≡ g.O.Sink.faults l.fn.output;
  report : g.E.Sink.faults l.report ≡ g.E.Sink.faults l.fn.report;
}

-- the bytes that may still be taken, and those that are held
abbrev pub decreases-loop : goal.decreases-loop
decreases-loop g l = (input_limit + length l.lines.bytes.held) - l.lines.bytes.taken
