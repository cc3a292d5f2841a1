use Rattle.std.proofs.Common.{◌<◌, ◌^◌, subst}
use Rattle.vrl_token.proofs.Digits.{all_read, too_large}
use Rattle.vrl_token.proofs.number.magnitude.Goals as goal

pub returns-in_err-value : goal.returns-in_err-value
returns-in_err-value c = rw c.from_residual.ensures (too_large _ c.args.digits.now _ _ c.loop-byte-test.true c.loop-byte.invariant.0 c.in_err-value.ensures)

pub returns : goal.returns
returns c =
    let whole = all_read _ c.args.digits.now _ _ c.loop-byte-test.false c.loop-byte.invariant.0 in
    (subst (λ n. n < 2 ^ 64) whole c.loop-byte.invariant.1, whole)
