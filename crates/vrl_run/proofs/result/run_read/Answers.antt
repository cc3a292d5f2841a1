use Rattle.std.proofs.Common.{length, rules, sym}
use Rattle.vrl_value.specs.View.{tree_of}
use Rattle.vrl_resolve.specs.Program.{program_of}
use Rattle.vrl_run.specs.Enclosed.{parts_in}
use Rattle.vrl_run.specs.LineResult.{StandsFor}
use Rattle.vrl_run.proofs.EventLines.{of_another, of_kind}
use Rattle.vrl_run.proofs.Opening.{well_formed}
use Rattle.vrl_run.proofs.result.run_read.Goals as goal

pub is_declared-requires : goal.is_declared-requires
is_declared-requires c =
    let stands : StandsFor c.args.options.now.envelope c.args.line.now.bytes (parts_in c.in-Some.parts) = search rules in
    record { json = (c.lines_stand_for_json.ensures _ _ _ stands).event.json }

pub returns-then-not-is_declared : goal.returns-then-not-is_declared
returns-then-not-is_declared c =
    of_another (program_of c.args.program.now) c.args.declared.now c.args.options.now c.args.line.now (tree_of c.args.read) (parts_in c.in-Some.parts) c.refused-then-not-is_declared.result c.inhabits_is_computed.ensures (sym c.in-Some.ensures) (search rules) c.refused-then-not-is_declared.ensures

pub run_event-requires-clause-handled : goal.run_event-requires-clause-handled
run_event-requires-clause-handled c =
    let stands : StandsFor c.args.options.now.envelope c.args.line.now.bytes (parts_in c.in-Some.parts) = search rules in
    let are = c.lines_stand_for_json.ensures _ _ _ stands in
    let event = tree_of c.in-Some.parts.event in
    let beside = tree_of c.in-Some.parts.metadata in
    let count = length (program_of c.args.program.now).sources in
    c.requires.handled c.args.line.now.moment event beside (search rules) are.object
    (well_formed c.json_needs_no_sources.ensures count event are.event) (well_formed c.json_needs_no_sources.ensures count beside are.metadata)

pub returns : goal.returns
returns c =
    of_kind (program_of c.args.program.now) c.args.declared.now c.args.options.now c.args.line.now (tree_of c.args.read) (parts_in c.in-Some.parts) c.run_event.result c.inhabits_is_computed.ensures (sym c.in-Some.ensures) (search rules) (rw c.requires.searches at c.run_event.ensures)
