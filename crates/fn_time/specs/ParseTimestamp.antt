-- `parse_timestamp`: the moment that a text names under a format.
use Rattle.std.specs.Prelude.{ℕ, ◌||◌, Bool, true, List, [], ◌∷◌, codes}
use Rattle.vrl_value.specs.Tree.{timestamp}
use Rattle.vrl_value.specs.declared.value.Tag.TheVariants.{Time}
use Rattle.vrl_kind.specs.Kinds.{only_at}
use Rattle.vrl_builtin.specs.Rows.{Row, is_text_of, literal_parameter, named, parameter, text_at, told}
use Rattle.vrl_builtin.specs.TagSets.{strings}
use Rattle.fn_time.specs.Format.{is_read_format}
use Rattle.fn_time.specs.Read.{is_rfc_3339, moment_read}

abbrev pub reads_moments : List ℕ → Bool
reads_moments format = is_rfc_3339 format || is_read_format format

abbrev pub parse_timestamp_row : Row
parse_timestamp_row = record {
  name = codes "parse_timestamp";
  parameters = parameter (codes "value") strings ∷ literal_parameter (codes "format") strings ∷ [];
  accepts = λ place literal. is_text_of reads_moments literal;
  kind = λ givens sources. only_at Time;
  may_fail = λ givens. true;
  means = λ arguments setting. named (codes "parse_timestamp")
      (told timestamp (codes "no match") (moment_read (text_at 1 [] arguments) (text_at 0 [] arguments)));
}
