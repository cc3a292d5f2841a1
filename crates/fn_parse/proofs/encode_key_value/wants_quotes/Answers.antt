use Rattle.std.proofs.Common.{rules, ◌≡◌, sym, ◌∙◌}
use Rattle.std.specs.List.{list_any}
use Rattle.fn_parse.specs.EncodeKeyValue.{is_special}
use Rattle.fn_parse.proofs.Encoded.{quotes_wanted}
use Rattle.fn_parse.proofs.encode_key_value.wants_quotes.Goals as goal

pub returns-else-is_empty : goal.returns-else-is_empty
returns-else-is_empty c =
    let any : c.has_special.result ≡ list_any is_special c.args.text.now = search rules in
    any ∙ quotes_wanted c.args.text.now (sym c.is_empty.ensures ∙ c.if-is_empty.false)
