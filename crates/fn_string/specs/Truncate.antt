-- `truncate`: the first characters of a text.
use Rattle.std.specs.Prelude.{ℕ, ℤ, pos, negsuc, false, List, [], ◌∷◌, ◌++◌, codes, if◌then◌else◌, nat_le}
use Rattle.vrl_value.specs.Tree.{string}
use Rattle.vrl_value.specs.declared.value.Tag.TheVariants.{Text}
use Rattle.vrl_builtin.specs.OneTag.{OneTagRow}
use Rattle.vrl_builtin.specs.Rows.{value, parameter, optional_parameter, integer_at, text_at}
use Rattle.vrl_builtin.specs.TagSets.{integers, strings}
use Rattle.fn_string.specs.Characters.{first_characters}
use Rattle.fn_string.specs.StrLen.{count_of_characters}

-- a negative limit counts as 0
abbrev pub limit_of : ℤ → ℕ
limit_of (pos n) = n
limit_of (negsuc n) = 0

-- the text where it has no more characters than the limit; else its first ones, and the suffix
abbrev pub truncated : List ℕ → ℕ → List ℕ → List ℕ
truncated s limit suffix = if nat_le (count_of_characters s) limit then s else first_characters limit s ++ suffix

abbrev pub truncate_row : OneTagRow
truncate_row = record {
  name = codes "truncate";
  parameters = parameter (codes "value") strings ∷ parameter (codes "limit") integers ∷ optional_parameter
      (codes "suffix") strings ∷ [];
  tag = Text;
  may_fail = λ givens. false;
  means = λ arguments setting. value
      (string (truncated (text_at 0 [] arguments) (limit_of (integer_at 1 (pos 0) arguments))
      (text_at 2 [] arguments)));
}
