-- `strlen`: how many characters a text has.
use Rattle.std.specs.Prelude.{ℕ, pos, false, List, [], ◌∷◌, chars, codes, length}
use Rattle.vrl_value.specs.Tree.{integer}
use Rattle.vrl_value.specs.declared.value.Tag.TheVariants.{Int}
use Rattle.vrl_builtin.specs.OneTag.{OneTagRow}
use Rattle.vrl_builtin.specs.Rows.{value, parameter, text_at}
use Rattle.vrl_builtin.specs.TagSets.{strings}

-- a character is a code point of Unicode
abbrev pub count_of_characters : List ℕ → ℕ
count_of_characters s = length (chars s)

abbrev pub strlen_row : OneTagRow
strlen_row = record {
  name = codes "strlen";
  parameters = parameter (codes "value") strings ∷ [];
  tag = Int;
  may_fail = λ givens. false;
  means = λ arguments setting. value (integer (pos (count_of_characters (text_at 0 [] arguments))));
}
