-- `to_unix_timestamp`: how many units lie between 1970-01-01T00:00:00Z and a moment.
use Rattle.std.specs.Prelude.{ℕ, ℤ, pos, ◌&&◌, not, Bool, false, List, [], ◌∷◌, Option, Some, codes, if◌then◌else◌}
use Rattle.std.specs.Int.{int_div_euclid}
use Rattle.vrl_value.specs.Tree.{Tree, integer}
use Rattle.vrl_value.specs.declared.value.Tag.TheVariants.{Int}
use Rattle.vrl_kind.specs.Kinds.{only_at}
use Rattle.vrl_builtin.specs.Numeral.{has_64_bits}
use Rattle.vrl_builtin.specs.Rows.{Answer, Row, failure, is_text_of, literal_at, named, optional_literal_parameter, parameter, text_at, value}
use Rattle.vrl_builtin.specs.TagSets.{strings, timestamps}
use Rattle.fn_time.specs.FormatTimestamp.{moment_at}
use Rattle.fn_time.specs.Unit.{is_nanoseconds, is_unit, nanos_in}

-- more than 64 bits hold; of nanoseconds alone a moment in the range has so many
abbrev pub is_out : List ℕ → ℤ → Bool
is_out unit nanos = is_nanoseconds unit && not (has_64_bits nanos)

-- rounded down
abbrev pub counted : List ℕ → ℤ → Answer
counted unit nanos =
    if is_out unit nanos then failure (codes "out of range")
    else value (integer (int_div_euclid nanos (pos (nanos_in unit))))

abbrev pub may_be_out : Option Tree → Bool
may_be_out (Some literal) = is_text_of is_nanoseconds literal
may_be_out literal = false

abbrev pub to_unix_timestamp_row : Row
to_unix_timestamp_row = record {
  name = codes "to_unix_timestamp";
  parameters = parameter (codes "value") timestamps ∷ optional_literal_parameter (codes "unit") strings ∷ [];
  accepts = λ place literal. is_text_of is_unit literal;
  kind = λ givens sources. only_at Int;
  may_fail = λ givens. may_be_out (literal_at 1 givens);
  means = λ arguments setting. named (codes "to_unix_timestamp")
      (counted (text_at 1 (codes "seconds") arguments) (moment_at 0 arguments));
}
