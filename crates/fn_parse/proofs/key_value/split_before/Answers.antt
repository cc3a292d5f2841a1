use Rattle.std.proofs.Common.{rules, ◌≡◌, length, unwrap_or, ◌∙◌}
use Rattle.fn_parse.proofs.Cuts.{found_place, plain_is}
use Rattle.fn_parse.proofs.key_value.split_before.Goals as goal

pub returns : goal.returns
returns c =
    let place : c.unwrap_or-length.result ≡ unwrap_or c.find.result (length c.args.text.now) = search rules in
    plain_is c.args.delimiter.now c.args.text.now c.split_at.result.0.now c.split_at.result.1.now c.unwrap_or-length.result
    (place ∙ found_place c.args.delimiter.now c.args.text.now c.find.result c.requires c.find.ensures.cases) c.split_at.ensures.front c.split_at.ensures.back
