use denote.Param.Send.{sendable}
use Rattle.std.proofs.Crossing.{crosses}
use Rattle.std.proofs.MapsCrossing.{crosses as maps}
use Rattle.vrl_resolve.proofs.Shared.{program_sync}
use Rattle.vrl_run.proofs.Shared.{kind_sync, kind_field_sync}
use Rattle.std.proofs.Common.{◌≡◌, ◌∙◌, Err, ap, inl, inr, refl, rules}
use Rattle.vrl_batch.specs.Sinks.{Appends}
use Rattle.vrl_run.specs.Request.{IsSame, map_lines, run_of}
use Rattle.vrl_run.specs.declared.status.Status.TheVariants as Status
use Rattle.vrl_run.proofs.AnswerLemmas.{wanting_answered}
use Rattle.vrl_run.proofs.MappingLemmas.{ends_by, of_err, of_ok, stopped_answered, stops_by, warned_answered, whole_answered}
use Rattle.vrl_run.proofs.mapping.map_lines.Goals as goal

pub returns-then-is_err : goal.returns-then-is_err
returns-then-is_err g c =
    warned_answered (run_of c.args.script.now) Status.WriteFault c.in-Ok.warnings.items (inl refl) c.in-Ok.ensures (rw c.deref.ensures.value at c.give_all.ensures.front) (λ is. search rules) (inl refl)

pub returns-in-Err-new : goal.returns-in-Err-new
returns-in-Err-new g c =
    warned_answered (run_of c.args.script.now) Status.Memory c.in-Ok.warnings.items (inr refl) c.in-Ok.ensures (rw c.deref.ensures.value at c.give_all.ensures.front) (λ is. absurd cc) (inr (search rules))

pub returns-in-Ok-map_batches : goal.returns-in-Ok-map_batches
returns-in-Ok-map_batches g c =
    let same : g.E.Sink.faults c.give_all.new.sink ≡ g.E.Sink.faults c.args.report.now = search rules in
    let warned : Appends (g.E.Sink.written c.args.report.now) (g.E.Sink.written c.give_all.new.sink) c.deref.result.now = search rules in
    let told = c.in-Ok-map_batches.ensures in
    let unfaulted = of_ok told.write_told in
    rw c.status_if.ensures (whole_answered c.runs_ask_at_most.ensures c.runs_end.ensures (run_of c.args.script.now) _ _ c.in-Ok.warnings.items refl (ap (λ l. l.bytes.taken) c.in-Ok-new.ensures) (rw c.deref.ensures.value at warned) c.in-Ok.ensures (ends_by _ _ _ _ c.work-work.ensures told.ends) (of_ok told.read_told) (unfaulted.0, unfaulted.1 ∙ same))

pub returns : goal.returns
returns g c =
    let same : g.E.Sink.faults c.give_all.new.sink ≡ g.E.Sink.faults c.args.report.now = search rules in
    let warned : Appends (g.E.Sink.written c.args.report.now) (g.E.Sink.written c.give_all.new.sink) c.deref.result.now = search rules in
    let told = c.in-Err-map_batches.ensures in
    stopped_answered c.runs_ask_at_most.ensures c.runs_front.ensures c.runs_go_on.ensures c.runs_stop.ensures (run_of c.args.script.now) _ _ c.in-Ok.warnings.items c.in-Err-map_batches.status (ap (λ l. l.bytes.taken) c.in-Ok-new.ensures) (rw c.deref.ensures.value at warned) c.in-Ok.ensures (stops_by _ _ _ _ _ c.work-work.ensures told.stops)
    (λ is. told.read_fault (ap Err is)) (λ is. rw same at (told.write_fault (ap Err is))) (of_err _ refl (λ x. x) told.read_told) (of_err _ refl (λ x. (x.0, x.1 ∙ same)) told.write_told)

pub returns-in-Err : goal.returns-in-Err
returns-in-Err g c = wanting_answered (IsSame (map_lines (run_of c.args.script.now))) _ (refl, refl)

pub map_batches-requires-sync-W : goal.map_batches-requires-sync-W
map_batches-requires-sync-W g c κs within = search (program_sync, kind_sync, kind_field_sync, sendable, crosses, maps) depth 30
