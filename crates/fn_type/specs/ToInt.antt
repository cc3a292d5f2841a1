-- `to_int`: the whole number that a value without parts stands for.
use Rattle.std.specs.Prelude.{if◌then◌else◌, ℤ, pos, false, [], ◌∷◌, Option, Some, codes}
use Rattle.std.specs.Int.{int_div_euclid}
use Rattle.vrl_value.specs.Tree.{Tree, string, integer, boolean, null, timestamp, regex, array, object}
use Rattle.vrl_value.specs.declared.value.Tag.TheVariants as tag
use Rattle.vrl_builtin.specs.Numeral.{read_in}
use Rattle.vrl_builtin.specs.OneTag.{OneTagRow}
use Rattle.vrl_builtin.specs.Rows.{told, parameter, allowed_at, value_at}
use Rattle.vrl_builtin.specs.TagSets.{any_tags}

-- 0 for false and 1 for true, the whole seconds of a timestamp rounded down, the decimal number of
-- a string; none where it writes none
abbrev pub whole_number : Tree → Option ℤ
whole_number (string s) = read_in 10 s
whole_number (integer n) = Some n
whole_number (boolean b) = Some (if b then pos 1 else pos 0)
whole_number null = Some (pos 0)
whole_number (timestamp nanos) = Some (int_div_euclid nanos (pos 1_000_000_000))
whole_number (regex n) = Some (pos 0)
whole_number (array ts) = Some (pos 0)
whole_number (object ms) = Some (pos 0)

abbrev pub to_int_row : OneTagRow
to_int_row = record {
  name = codes "to_int";
  parameters = parameter (codes "value") (record any_tags { regex = false; array = false; object = false }) ∷ [];
  tag = tag.Int;
  may_fail = λ givens. allowed_at 0 tag.Text givens;
  means = λ arguments setting. told integer (codes "not a whole number") (whole_number (value_at 0 arguments));
}
