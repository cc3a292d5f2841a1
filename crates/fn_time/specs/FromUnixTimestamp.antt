-- `from_unix_timestamp`: the moment so many units after 1970-01-01T00:00:00Z.
use Rattle.std.specs.Prelude.{ℕ, ℤ, pos, ◌*ℤ◌, true, List, [], ◌∷◌, Option, codes}
use Rattle.vrl_value.specs.Tree.{timestamp}
use Rattle.vrl_value.specs.declared.value.Tag.TheVariants.{Time}
use Rattle.vrl_kind.specs.Kinds.{only_at}
use Rattle.vrl_builtin.specs.Rows.{Row, integer_at, is_text_of, named, optional_literal_parameter, parameter, text_at, told}
use Rattle.vrl_builtin.specs.TagSets.{integers, strings}
use Rattle.fn_time.specs.Clock.{moment_at}
use Rattle.fn_time.specs.Unit.{is_unit, nanos_in}

-- none out of the range of moments
abbrev pub moment_after : List ℕ → ℤ → Option ℤ
moment_after unit count = moment_at (count *ℤ pos (nanos_in unit))

abbrev pub from_unix_timestamp_row : Row
from_unix_timestamp_row = record {
  name = codes "from_unix_timestamp";
  parameters = parameter (codes "value") integers ∷ optional_literal_parameter (codes "unit") strings ∷ [];
  accepts = λ place literal. is_text_of is_unit literal;
  kind = λ givens sources. only_at Time;
  may_fail = λ givens. true;
  means = λ arguments setting. named (codes "from_unix_timestamp")
      (told timestamp (codes "out of range")
      (moment_after (text_at 1 (codes "seconds") arguments) (integer_at 0 (pos 0) arguments)));
}
