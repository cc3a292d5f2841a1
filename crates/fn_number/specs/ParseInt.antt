-- `parse_int`: the whole number that a text writes in a base.
use Rattle.std.specs.Prelude.{ℕ, ℤ, true, List, [], ◌∷◌, Option, Some, None, codes, unsigned_abs, if◌then◌else◌}
use Rattle.vrl_value.specs.Tree.{integer}
use Rattle.vrl_value.specs.declared.value.Tag.TheVariants.{Int}
use Rattle.vrl_builtin.specs.OneTag.{OneTagRow}
use Rattle.vrl_builtin.specs.Rows.{Answer, failure, told, parameter, optional_parameter, text_at, optional_integer}
use Rattle.vrl_builtin.specs.TagSets.{integers, strings}
use Rattle.vrl_builtin.specs.Numeral.{read_in}
use Rattle.fn_number.specs.Numeral.{is_base, read_by_prefix}

abbrev pub read : Option ℤ → Answer
read number = told integer (codes "not a whole number") number

-- in the base, or in that of the prefix where none is given
abbrev pub parsed : List ℕ → Option ℤ → Answer
parsed text None = read (read_by_prefix text)
parsed text (Some base) = if is_base base then read (read_in (unsigned_abs base) text) else failure (codes "bad base")

abbrev pub parse_int_row : OneTagRow
parse_int_row = record {
  name = codes "parse_int";
  parameters = parameter (codes "value") strings ∷ optional_parameter (codes "base") integers ∷ [];
  tag = Int;
  may_fail = λ givens. true;
  means = λ arguments setting. parsed (text_at 0 [] arguments) (optional_integer 1 arguments);
}
