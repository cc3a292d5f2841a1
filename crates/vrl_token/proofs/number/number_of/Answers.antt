use Rattle.vrl_token.proofs.Digits.{same_number, signed-minus, signed-plus, too_long}
use Rattle.vrl_token.proofs.number.number_of.Goals as goal

pub returns-in_err-magnitude : goal.returns-in_err-magnitude
returns-in_err-magnitude c = rw c.from_residual.ensures (too_long c.args.negative _ c.in_err-magnitude.ensures)

pub returns-then-negative : goal.returns-then-negative
returns-then-negative c = rw c.if-negative.true (same_number c.checked_sub_unsigned.result _ _ (signed-minus _ _ c.in_ok-magnitude.ensures.1) c.checked_sub_unsigned.ensures)

pub returns-else-negative : goal.returns-else-negative
returns-else-negative c = rw c.if-negative.false (same_number c.checked_add_unsigned.result _ _ (signed-plus _ _ c.in_ok-magnitude.ensures.1) c.checked_add_unsigned.ensures)
