use Rattle.std.proofs.Common.{rules, ◌≡◌, ◌<◌, ◌≤◌, true, length}
use Rattle.std.specs.Str.{all_ascii_digits}
use Rattle.remap_words.proofs.Digits.{number_large}
use Rattle.remap_words.proofs.value.number.Goals as goal

pub returns-in-Err : goal.returns-in-Err
returns-in-Err c =
    let digits : all_ascii_digits c.args.text.now ≡ true = search rules in
    let some : 0 < length c.args.text.now = search rules in
    let short : length c.args.text.now ≤ c.args.most = search rules in
    number_large c.args.most c.args.low c.args.high c.args.text.now c.in-Err.field-0 c.in-Err.ensures.value.0 c.ranges.high.fits some short digits
