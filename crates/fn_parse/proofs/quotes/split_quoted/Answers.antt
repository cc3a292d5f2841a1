use Rattle.std.proofs.Common.{rules, ◌≡◌, Some}
use Rattle.fn_parse.specs.Quotes.{closing_place}
use Rattle.fn_parse.proofs.Quoted.{behind_boundary, closed, quote_boundary}
use Rattle.fn_parse.proofs.quotes.split_quoted.Goals as goal

pub split_at-requires : goal.split_at-requires
split_at-requires c = let closes : closing_place c.args.text.now ≡ Some c.in_ok-place.place = search rules in quote_boundary c.args.text.now c.in_ok-place.place closes

pub split_at-requires-2 : goal.split_at-requires-2
split_at-requires-2 c =
    let closes : closing_place c.args.text.now ≡ Some c.in_ok-place.place = search rules in
    behind_boundary c.args.text.now c.split_at.result.1.now c.in_ok-place.place c.utf8.text closes c.split_at.ensures.back

pub returns : goal.returns
returns c =
    let closes : closing_place c.args.text.now ≡ Some c.in_ok-place.place = search rules in
    closed c.args.text.now c.split_at.result.0.now c.split_at.result.1.now c.split_at-2.result.1.now c.in_ok-place.place closes c.split_at.ensures.front c.split_at.ensures.back c.split_at-2.ensures.back
