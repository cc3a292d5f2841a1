use Rattle.std.proofs.Common.{◌<◌, length, arith}
use Rattle.vrl_pattern.proofs.Openings.{boundary_behind, names_none, names_behind_mark, drop_shorter}
use Rattle.vrl_pattern.proofs.groups.split_mark.Goals as goal

pub returns-then-length-source : goal.returns-then-length-source
returns-then-length-source c = names_none c.args.source.now c.plain_length-length.result c.if-length-source.true c.plain_length-length.ensures.before

pub split_at-requires : goal.split_at-requires
split_at-requires c =
    let within = c.plain_length-length.ensures.within in
    let apart = c.if-length-source.false in
    let below : c.plain_length-length.result < length c.args.source.now = omega arith in
    boundary_behind c.args.source.now c.plain_length-length.result c.utf8.source below (c.plain_length-length.ensures.after below)

pub returns : goal.returns
returns c =
    let within = c.plain_length-length.ensures.within in
    let apart = c.if-length-source.false in
    let below : c.plain_length-length.result < length c.args.source.now = omega arith in (
      drop_shorter c.args.source.now c.plain_length-length.result below c.split_at.ensures.back,
      rw c.as_bytes.ensures.value (names_behind_mark c.args.source.now _ c.plain_length-length.result below c.plain_length-length.ensures.before c.split_at.ensures.back),
    )
