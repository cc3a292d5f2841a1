-- `format_timestamp`: the text of a moment under a format.
use Rattle.std.specs.Prelude.{ℕ, ℤ, pos, ◌||◌, Bool, false, List, [], ◌∷◌, Option, codes, unwrap_or}
use Rattle.vrl_value.specs.Tree.{Tree, string}
use Rattle.vrl_value.specs.declared.value.Tag.TheVariants.{Text}
use Rattle.vrl_kind.specs.Kinds.{only_at}
use Rattle.vrl_builtin.specs.Rows.{Row, is_text_of, literal_parameter, optional_moment, parameter, text_at, value}
use Rattle.vrl_builtin.specs.TagSets.{strings, timestamps}
use Rattle.fn_time.specs.Format.{is_shown_format}
use Rattle.fn_time.specs.Read.{is_rfc_3339}
use Rattle.fn_time.specs.Shown.{text_shown}

abbrev pub shows_moments : List ℕ → Bool
shows_moments format = is_rfc_3339 format || is_shown_format format

-- the moment at a place; 1970-01-01T00:00:00Z where none is given
abbrev pub moment_at : ℕ → List (Option Tree) → ℤ
moment_at place arguments = unwrap_or (optional_moment place arguments) (pos 0)

abbrev pub format_timestamp_row : Row
format_timestamp_row = record {
  name = codes "format_timestamp";
  parameters = parameter (codes "value") timestamps ∷ literal_parameter (codes "format") strings ∷ [];
  accepts = λ place literal. is_text_of shows_moments literal;
  kind = λ givens sources. only_at Text;
  may_fail = λ givens. false;
  means = λ arguments setting. value (string (text_shown (text_at 1 [] arguments) (moment_at 0 arguments)));
}
