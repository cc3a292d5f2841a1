use Rattle.vrl_token.proofs.Floats.{exponent, no_exponent_digits, no_exponent_letter}
use Rattle.vrl_token.proofs.number.behind_exponent.Goals as goal

pub returns-in_err-behind : goal.returns-in_err-behind
returns-in_err-behind c = rw c.from_residual.ensures (no_exponent_letter c.in_err-behind.ensures)

pub returns-in_err-rest : goal.returns-in_err-rest
returns-in_err-rest c = rw c.from_residual-in_err-rest.ensures (no_exponent_digits c.in_ok-behind.ensures c.behind_power_sign.ensures c.in_err-rest.ensures)

pub returns : goal.returns
returns c = exponent c.in_ok-behind.ensures c.behind_power_sign.ensures c.in_ok-rest.ensures
