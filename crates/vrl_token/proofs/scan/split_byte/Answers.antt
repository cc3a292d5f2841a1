use Rattle.std.proofs.Common.{length, sym, subst, ◌<◌}
use Rattle.vrl_token.proofs.Tested.{is_more}
use Rattle.vrl_token.proofs.Quotes.{boundary_one}
use Rattle.vrl_token.proofs.scan.split_byte.Goals as goal

pub split_at-requires : goal.split_at-requires
split_at-requires c =
    let some = is_more _ c.is_empty.ensures c.if-is_empty.false in
    boundary_one c.args.text.now c.as_bytes.result.now c.utf8.text c.as_bytes.ensures.value (subst (λ t. 0 < length t) (sym c.as_bytes.ensures.value) some) c.if-first-ge128.false
