use Rattle.std.proofs.Common.{sym, ◌∙◌}
use Rattle.fn_time.proofs.Parsed.{err_is, ok_is}
use Rattle.fn_time.proofs.read.read_by.Goals as goal

pub returns-in-Ok : goal.returns-in-Ok
returns-in-Ok c = c.moment_of.ensures ∙ sym (ok_is c.args.format.now c.args.text.now c.in-Ok.instant c.requires c.in-Ok.ensures.value)

pub returns-in-Err : goal.returns-in-Err
returns-in-Err c = sym (err_is c.args.format.now c.args.text.now c.in-Err._fault c.requires c.in-Err.ensures.plain)
