use Rattle.std.proofs.Common.{◌≡◌, Err, ap, rules, subst}
use Rattle.vrl_value.specs.View.{tree_of}
use Rattle.vrl_json.specs.Line.{not_json, not_whole, reading_of}
use Rattle.vrl_resolve.specs.Program.{program_of}
use Rattle.vrl_run.proofs.EventLines.{of_read}
use Rattle.vrl_run.proofs.Unread.{unread_line}
use Rattle.vrl_run.proofs.result.run_line.Goals as goal

pub returns-in-Err : goal.returns-in-Err
returns-in-Err c =
    unread_line (program_of c.args.program.now) c.args.declared.now c.args.options.now c.args.line.now c.in-Err.fault c.unread.result (search rules)
    (λ is. subst (λ bytes. reading_of bytes ≡ not_json) c.as_slice.ensures (c.in-Err.ensures.not_json (ap Err is)))
    (λ is. subst (λ bytes. reading_of bytes ≡ not_whole) c.as_slice.ensures (c.in-Err.ensures.not_whole (ap Err is))) c.unread.ensures

pub returns : goal.returns
returns c =
    of_read (program_of c.args.program.now) c.args.declared.now c.args.options.now c.args.line.now (tree_of c.in-Ok.read) c.run_read.result (search rules) (search rules) c.run_read.ensures
