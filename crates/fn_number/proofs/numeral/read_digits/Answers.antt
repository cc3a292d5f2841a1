use Rattle.std.proofs.Common.{◌∙◌}
use Rattle.fn_number.proofs.Digits.{number_read, number_unread, plain}
use Rattle.fn_number.proofs.numeral.read_digits.Goals as goal

pub returns-in-Ok : goal.returns-in-Ok
returns-in-Ok c =
    let same = plain c.args.digits.now c.in-None.ensures in
    let read = rw same at c.in-Ok.ensures.value in
    c.with_sign.ensures ∙ number_read c.args.negative c.args.base c.in-Ok.magnitude c.args.digits.now read.0.0 read.1

pub returns-in-Err : goal.returns-in-Err
returns-in-Err c =
    let same = plain c.args.digits.now c.in-None.ensures in
    number_unread c.args.negative c.args.base c.args.digits.now (rw same at c.in-Err.ensures.value)
