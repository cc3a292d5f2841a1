use Rattle.vrl_token.proofs.Floats.{no_digit_run}
use Rattle.vrl_token.proofs.Tested.{is_zero}
use Rattle.vrl_token.proofs.number.split_digit_run.Goals as goal

pub returns-then-is_empty : goal.returns-then-is_empty
returns-then-is_empty c = no_digit_run c.split_run.ensures (is_zero _ c.is_empty.ensures c.if-is_empty.true)
