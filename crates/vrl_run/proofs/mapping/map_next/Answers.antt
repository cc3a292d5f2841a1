use Rattle.std.proofs.Common.{◌∙◌, Err, ap, rules}
use Rattle.vrl_batch.specs.Reads.{stream}
use Rattle.vrl_run.specs.Mapping.{run_at}
use Rattle.vrl_run.proofs.BatchLemmas.{stops_writing, tells_more, wrote}
use Rattle.vrl_run.proofs.mapping.map_next.Goals as goal

pub returns-clause-batch : goal.returns-clause-batch
returns-clause-batch g c =
    let results = c.as_slice.ensures ∙ c.in-Ok-map_batch.ensures.made in (
      c.in-Ok.batch,
      record { read = c.in-Ok.ensures.batch; writes = wrote (g.W.Work.makes c.args.work.now) c.in-Ok.batch _ _ _ _ results c.in_ok-refused.ensures.written c.mark_if.ensures; within = c.in-Ok.ensures.within; ended = c.in-Ok.ensures.empty },
      tells_more c.in-Ok.batch _ (rw c.as_slice-2.ensures at c.is_empty.ensures),
    )

pub returns-in_err-refused-clause-stops : goal.returns-in_err-refused-clause-stops
returns-in_err-refused-clause-stops g c =
    let results = c.as_slice.ensures ∙ c.in-Ok-map_batch.ensures.made in
    let told = c.in_err-refused.ensures in
    let stops =
    stops_writing (g.W.Work.makes c.args.work.now)
    (run_at (stream c.args.lines.now.bytes (g.S.Source.left c.args.input.now) (g.S.Source.taken c.args.input.now) (g.S.Source.ended c.args.input.now) (g.C.Clock.ahead c.args.clock.now)) (g.O.Sink.written c.args.output.now) (g.E.Sink.written c.args.report.now) c.args.marked.now)
    (run_at (stream c.next_batch.new.self.bytes (g.S.Source.left c.next_batch.new.source) (g.S.Source.taken c.next_batch.new.source) (g.S.Source.ended c.next_batch.new.source) (g.C.Clock.ahead c.next_batch.new.clock)) (g.O.Sink.written c.write_results.new.output) (g.E.Sink.written c.write_results.new.report) c.args.marked.now)
    c.as_slice.result.now c.in-Ok.batch c.in_err-refused.field-0.0 results c.in-Ok.ensures.batch c.in-Ok.ensures.within told.either told.front told.order (λ is. told.memory (ap Err is)) in
    search rules
