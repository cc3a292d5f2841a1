use Rattle.std.proofs.Common.{rules, ◌≡◌, false, not, length}
use Rattle.fn_time.proofs.Letters.{known_at_end, known_from, shown_is}
use Rattle.fn_time.proofs.format.is_shown_format.Goals as goal

pub returns-then-not-is_known : goal.returns-then-not-is_known
returns-then-not-is_known c =
    let unknown : known_from c.loop-byte.behind_sign c.loop-byte.left.now ≡ false = search rules in
    shown_is c.args.format.now c.as_bytes-left.result.now c.loop-byte.left.now c.loop-byte.behind_sign false c.as_bytes-left.ensures.value c.loop-byte.invariant unknown

pub returns : goal.returns
returns c =
    let ended : length c.loop-byte.left.now ≡ 0 = search rules in
    shown_is c.args.format.now c.as_bytes-left.result.now c.loop-byte.left.now c.loop-byte.behind_sign (not c.loop-byte.behind_sign) c.as_bytes-left.ensures.value c.loop-byte.invariant (known_at_end c.loop-byte.left.now c.loop-byte.behind_sign ended)
