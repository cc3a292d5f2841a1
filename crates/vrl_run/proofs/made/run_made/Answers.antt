use denote.Param.Send.{sendable}
use Rattle.std.proofs.Crossing.{crosses}
use Rattle.std.proofs.MapsCrossing.{crosses as maps}
use Rattle.vrl_resolve.proofs.Shared.{program_sync}
use Rattle.vrl_run.proofs.Shared.{kind_sync, kind_field_sync}
use Rattle.std.proofs.Common.{◌∙◌, ap, map, rules, sym}
use Rattle.vrl_generate.specs.Made.{made_lines}
use Rattle.vrl_run.specs.Request.{run_of}
use Rattle.vrl_run.proofs.MadeLemmas.{all_made, few_enough, is_made_to-batch, nothing_left}
use Rattle.vrl_run.proofs.made.run_made.Goals as goal

pub loop-work-preserved : goal.loop-work-preserved
loop-work-preserved g c = (
  is_made_to-batch _ _ c.loop-work.batch c.loop-work.lines _ c.in_ok-results.results _ _ _ c.loop-work.invariant.0 (c.in_ok-results.ensures.made ∙ ap (λ f. map f c.loop-work.batch) c.work-work.ensures) c.as_slice-in-loop-work.ensures c.add_all.ensures c.in_ok-batch-2.ensures.next,
  λ none. sym c.in_ok-batch-2.ensures.next ∙ c.in_ok-batch-2.ensures.empty none,
)

pub returns-clause-summary : goal.returns-clause-summary
returns-clause-summary g c =
    let run = run_of c.args.script.now in
    let all = made_lines c.args.count c.args.seed in
    let empty = nothing_left c.loop-work.batch _ (rw c.as_slice.ensures at c.is_empty.ensures) (search rules) in
    let summed = all_made run all _ c.loop-work.summary c.loop-work.invariant.0 (c.loop-work.invariant.1 empty) in
    c.in_ok-into_text.ensures _ (few_enough run all c.args.count (rw c.new-lines.ensures.lines at c.new-lines.ensures.count) c.requires.count) summed

pub returns-clause-marked : goal.returns-clause-marked
returns-clause-marked g c =
    let run = run_of c.args.script.now in
    let all = made_lines c.args.count c.args.seed in
    let empty = nothing_left c.loop-work.batch _ (rw c.as_slice.ensures at c.is_empty.ensures) (search rules) in
    let summed = all_made run all _ c.loop-work.summary c.loop-work.invariant.0 (c.loop-work.invariant.1 empty) in
    c.is_marked-marked.ensures _ (few_enough run all c.args.count (rw c.new-lines.ensures.lines at c.new-lines.ensures.count) c.requires.count) summed

pub map_batch-requires-sync-W : goal.map_batch-requires-sync-W
map_batch-requires-sync-W g c κs within = search (program_sync, kind_sync, kind_field_sync, sendable, crosses, maps) depth 30
