-- `parse_json` and `encode_json`: a text as the value of its JSON (RFC 8259), and a value as its
-- JSON text.
use Rattle.std.specs.Prelude.{true, false, [], ◌∷◌, codes}
use Rattle.vrl_value.specs.Tree.{string}
use Rattle.vrl_value.specs.declared.value.Tag.TheVariants.{Text}
use Rattle.vrl_kind.specs.Kinds.{json_at}
use Rattle.vrl_json.specs.Line.{Reading, not_json, not_whole, whole, line_text, reading_of}
use Rattle.vrl_builtin.specs.OneTag.{OneTagRow}
use Rattle.vrl_builtin.specs.Rows.{Row, Answer, value, failure, named, any_literal, parameter, text_at, value_at}
use Rattle.vrl_builtin.specs.TagSets.{any_tags, strings}

-- a text is read as the bytes of a line are
abbrev pub answer_to : Reading → Answer
answer_to not_json = failure (codes "not JSON")
answer_to not_whole = failure (codes "not whole numbers")
answer_to (whole t) = value t

abbrev pub parse_json_row : Row
parse_json_row = record {
  name = codes "parse_json";
  parameters = parameter (codes "value") strings ∷ [];
  accepts = any_literal;
  kind = λ givens sources. json_at;
  may_fail = λ givens. true;
  means = λ arguments setting. named (codes "parse_json") (answer_to (reading_of (text_at 0 [] arguments)));
}

-- the text that the value has as a line: compact, a timestamp as its text, and a regex as its
-- source
abbrev pub encode_json_row : OneTagRow
encode_json_row = record {
  name = codes "encode_json";
  parameters = parameter (codes "value") any_tags ∷ [];
  tag = Text;
  may_fail = λ givens. false;
  means = λ arguments setting. value (string (line_text setting.sources (value_at 0 arguments)));
}
