use Rattle.std.proofs.Common.{◌≡◌, ◌≢◌, ◌<◌, true, length, get_or, subst, arith}
use Rattle.fn_parse.specs.Quotes.{is_mark}
use Rattle.fn_parse.proofs.Quoted.{behind_mark_boundary, cut_at_mark, unmarked, with_text}
use Rattle.fn_parse.proofs.quotes.split_mark.Goals as goal

pub returns-then-length-text : goal.returns-then-length-text
returns-then-length-text c =
    let plain = with_text c.as_bytes.result.now c.args.text.now c.plain_length-length.result c.as_bytes.ensures.value c.plain_length-length.ensures.before in
    let all = c.if-length-text.true in
    unmarked c.args.text.now (λ k few. plain k (omega (arith, few, all)))

pub split_at-requires-2 : goal.split_at-requires-2
split_at-requires-2 c =
    let within = c.plain_length-length.ensures.within in
    let bytes = c.as_bytes.ensures.value in
    let apart : c.plain_length-length.result ≢ length c.args.text.now = c.if-length-text.false in
    let len = c.as_bytes.ensures.len in
    let below : c.plain_length-length.result < length c.args.text.now = omega (arith, within, len) in
    let P = λ (t : _). is_mark (get_or t c.plain_length-length.result 0) ≡ true in
    behind_mark_boundary c.args.text.now c.split_at.result.1.now c.plain_length-length.result c.utf8.text below (subst P bytes (c.plain_length-length.ensures.after (omega (arith, below, len)))) c.split_at.ensures.back

pub returns : goal.returns
returns c =
    let within = c.plain_length-length.ensures.within in
    let bytes = c.as_bytes.ensures.value in
    let apart : c.plain_length-length.result ≢ length c.args.text.now = c.if-length-text.false in
    let len = c.as_bytes.ensures.len in
    let below : c.plain_length-length.result < length c.args.text.now = omega (arith, within, len) in
    let P = λ (t : _). is_mark (get_or t c.plain_length-length.result 0) ≡ true in
    let plain = with_text c.as_bytes.result.now c.args.text.now c.plain_length-length.result bytes c.plain_length-length.ensures.before in
    cut_at_mark c.args.text.now c.split_at.result.0.now c.split_at.result.1.now c.split_at-2.result.0.now c.split_at-2.result.1.now c.plain_length-length.result below plain
    (subst P bytes (c.plain_length-length.ensures.after (omega (arith, below, len)))) c.split_at.ensures.front c.split_at.ensures.back c.split_at-2.ensures.front c.split_at-2.ensures.back
