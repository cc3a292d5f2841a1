-- The functions that read the bytes of a text in code, and give them as a text: `decode_base64` and
-- `decode_base16`.
use Rattle.std.specs.Prelude.{ℕ, true, List, [], ◌∷◌, Option, Some, None, codes, if◌then◌else◌}
use Rattle.std.specs.Str.{is_utf8}
use Rattle.vrl_value.specs.Tree.{string}
use Rattle.vrl_value.specs.declared.value.Tag.TheVariants.{Text}
use Rattle.vrl_builtin.specs.OneTag.{OneTagRow}
use Rattle.vrl_builtin.specs.Rows.{Answer, value, failure, parameter, text_at}
use Rattle.vrl_builtin.specs.TagSets.{strings}

-- the text of these bytes; none were read where the text is no such code, which has words of its
-- own
abbrev pub as_text : List ℕ → Option (List ℕ) → Answer
as_text words None = failure words
as_text words (Some bytes) = if is_utf8 bytes then value (string bytes) else failure (codes "not UTF-8")

abbrev pub decode_row : List ℕ → List ℕ → (List ℕ → Option (List ℕ)) → OneTagRow
decode_row name words bytes_of = record {
  name = name;
  parameters = parameter (codes "value") strings ∷ [];
  tag = Text;
  may_fail = λ givens. true;
  means = λ arguments setting. as_text words (bytes_of (text_at 0 [] arguments));
}
