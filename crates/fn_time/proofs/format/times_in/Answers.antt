use Rattle.std.proofs.Common.{rules, ◌≡◌, length}
use Rattle.fn_time.proofs.Letters.{times_are}
use Rattle.fn_time.proofs.format.times_in.Goals as goal

pub returns : goal.returns
returns c =
    let ended : length c.loop-byte.left.now ≡ 0 = search rules in
    times_are c.args.letter c.loop-byte.times c.args.format.now c.as_bytes-left.result.now c.loop-byte.left.now c.loop-byte.behind_sign c.as_bytes-left.ensures.value c.loop-byte.invariant.0 ended
