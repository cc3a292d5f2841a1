-- `replace`: a text with the matches of a text or a regex replaced.
use Rattle.std.specs.Prelude.{ℕ, ℤ, pos, negsuc, false, List, [], ◌∷◌, Option, Some, None, codes, length}
use Rattle.vrl_value.specs.Tree.{Tree, string, integer, boolean, null, timestamp, regex, array, object}
use Rattle.vrl_value.specs.declared.value.Tag.TheVariants as tag
use Rattle.vrl_builtin.specs.OneTag.{OneTagRow}
use Rattle.vrl_builtin.specs.Rows.{value, integer_at, optional_parameter, parameter, text_at, value_at}
use Rattle.vrl_builtin.specs.TagSets.{integers, strings}
use Rattle.vrl_pattern.specs.Matches.{replaced}
use Rattle.fn_search.specs.Cut.{joined, parts_between}
use Rattle.fn_search.specs.Find.{patterns}
use Rattle.fn_search.specs.Sources.{source_at}

-- how many matches are replaced at most; each where the count is negative
abbrev pub count_of : ℤ → Option ℕ
count_of (pos n) = Some n
count_of (negsuc n) = None

-- a text stands in another at most as often as that has bytes
abbrev pub cuts_of : List ℕ → Option ℕ → ℕ
cuts_of s None = length s
cuts_of s (Some n) = n

-- the first so many matches from the left replaced: those of a text by what is given, and those of
-- a regex by what is written for it as a template
abbrev pub replace_by : List (List ℕ) → List ℕ → Tree → List ℕ → Option ℕ → List ℕ
replace_by sources s (string part) with count = joined with (parts_between part (cuts_of s count) s)
replace_by sources s (regex n) with count = replaced (source_at n sources) s with count
replace_by sources s (integer n) with count = s
replace_by sources s (boolean b) with count = s
replace_by sources s null with count = s
replace_by sources s (timestamp nanos) with count = s
replace_by sources s (array ts) with count = s
replace_by sources s (object ms) with count = s

abbrev pub replace_row : OneTagRow
replace_row = record {
  name = codes "replace";
  parameters = parameter (codes "value") strings ∷ parameter (codes "pattern") patterns ∷ parameter
      (codes "with") strings ∷ optional_parameter (codes "count") integers ∷ [];
  tag = tag.Text;
  may_fail = λ givens. false;
  means = λ arguments setting. value
      (string (replace_by setting.sources (text_at 0 [] arguments) (value_at 1 arguments) (text_at 2 [] arguments)
      (count_of (integer_at 3 (negsuc 0) arguments))));
}
