use Rattle.std.proofs.Common.{append_assoc}
use Rattle.fn_number.proofs.Digits.{numeral_more, numeral_one}
use Rattle.fn_number.proofs.numeral.+push_digits.Goals as goal

pub returns-then-number-base : goal.returns-then-number-base
returns-then-number-base t c = rw (numeral_one c.args.base c.args.number c.requires.low c.if-number-base.true) c.push_digit.ensures

pub returns : goal.returns
returns t c =
    rw (numeral_more c.args.base c.args.number c.requires.low c.if-number-base.false) (rw (c.in_ok-push_digits.ensures, append_assoc) at c.push_digit-2.ensures)
