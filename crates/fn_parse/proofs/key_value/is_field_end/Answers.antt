use Rattle.std.proofs.Common.{sym, ◌∙◌}
use Rattle.fn_parse.proofs.Cuts.{end_begins, starts_is}
use Rattle.fn_parse.proofs.key_value.is_field_end.Goals as goal

pub returns-else-is_empty : goal.returns-else-is_empty
returns-else-is_empty c =
    starts_is c.starts_with.result c.args.field_delimiter.now c.args.text.now c.starts_with.ensures.cases
    ∙ sym (end_begins c.args.field_delimiter.now c.args.text.now (sym c.is_empty.ensures ∙ c.if-is_empty.false))
