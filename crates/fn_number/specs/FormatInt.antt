-- `format_int`: the digits of a whole number in a base.
use Rattle.std.specs.Prelude.{ℤ, pos, Bool, true, false, not, [], ◌∷◌, Option, Some, None, codes, unsigned_abs, if◌then◌else◌}
use Rattle.vrl_value.specs.Tree.{Tree, string, integer}
use Rattle.vrl_value.specs.declared.value.Tag.TheVariants.{Text}
use Rattle.vrl_kind.specs.KindTree.{KindTree}
use Rattle.vrl_builtin.specs.OneTag.{OneTagRow}
use Rattle.vrl_builtin.specs.Rows.{Answer, value, failure, parameter, optional_parameter, integer_at, kind_at, literal_at}
use Rattle.vrl_builtin.specs.TagSets.{integers}
use Rattle.fn_number.specs.Numeral.{is_base, written_in}

abbrev pub formatted : ℤ → ℤ → Answer
formatted n base =
    if is_base base then value (string (written_in (unsigned_abs base) n)) else failure (codes "bad base")

-- unless the base isn't given or is a literal of 2 to 36
abbrev pub may_be_bad : Option KindTree → Option Tree → Bool
may_be_bad K (Some (integer base)) = not (is_base base)
may_be_bad None None = false
may_be_bad K literal = true

abbrev pub format_int_row : OneTagRow
format_int_row = record {
  name = codes "format_int";
  parameters = parameter (codes "value") integers ∷ optional_parameter (codes "base") integers ∷ [];
  tag = Text;
  may_fail = λ givens. may_be_bad (kind_at 1 givens) (literal_at 1 givens);
  means = λ arguments setting. formatted (integer_at 0 (pos 0) arguments) (integer_at 1 (pos 10) arguments);
}
