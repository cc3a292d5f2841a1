use Rattle.std.proofs.Common.{arith, false, length}
use Rattle.vrl_value.specs.View.{tree_of}
use Rattle.vrl_resolve.specs.Program.{ended_over, program_of}
use Rattle.vrl_run.specs.Enclosed.{parts_in}
use Rattle.vrl_run.proofs.Ended.{meant_line}
use Rattle.vrl_run.proofs.Opening.{well_formed}
use Rattle.vrl_run.proofs.result.run_event.Goals as goal

pub run_measured-requires-clause-event : goal.run_measured-requires-clause-event
run_measured-requires-clause-event c =
    well_formed c.json_needs_no_sources.ensures (length (program_of c.args.program.now).sources) (tree_of c.args.parts.event) (c.lines_stand_for_json.ensures _ _ _ c.requires.read).event

pub run_measured-requires-clause-metadata : goal.run_measured-requires-clause-metadata
run_measured-requires-clause-metadata c =
    well_formed c.json_needs_no_sources.ensures (length (program_of c.args.program.now).sources) (tree_of c.args.parts.metadata) (c.lines_stand_for_json.ensures _ _ _ c.requires.read).metadata

pub run_measured-requires-clause-shallow : goal.run_measured-requires-clause-shallow
run_measured-requires-clause-shallow c is =
    let are = c.lines_stand_for_json.ensures _ _ _ c.requires.read in
    (omega (arith, are.event.shallow), omega (arith, are.metadata.shallow))

pub returns : goal.returns
returns c =
    meant_line c.args.searches.now c.args.options.now c.args.line.now.number c.args.line.now.bytes (parts_in c.args.parts) false
    (ended_over (program_of c.args.program.now) c.args.line.now.moment (tree_of c.args.parts.event) (tree_of c.args.parts.metadata))
    c.in_ok-ran.ran c.ran_result.result c.in_ok-ran.ensures.ran c.requires.read c.ran_result.ensures.result
