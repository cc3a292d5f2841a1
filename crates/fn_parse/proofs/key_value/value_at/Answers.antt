use Rattle.std.proofs.Common.{Some, None, ap, ◌∙◌, arith}
use Rattle.std.proofs.lemmas.Str.Pattern.{strip_prefix_char}
use Rattle.fn_parse.proofs.Cuts.{value_without}
use Rattle.fn_parse.proofs.key_value.value_at.Goals as goal

pub returns-in-None : goal.returns-in-None
returns-in-None c = ap Some c.plain_value.ensures ∙ value_without c.args.field_delimiter.now c.args.text.now (strip_prefix_char 0x22 c.args.text.now None c.in-None.ensures.cases (omega arith))
