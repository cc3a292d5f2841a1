-- `find`: where a text or a regex first stands in a text, behind some byte.
use Rattle.std.specs.Prelude.{ℕ, ◌+◌, ℤ, pos, negsuc, Bool, true, false, List, [], ◌∷◌, Option, Some, None, codes, drop, length, option_map, if◌then◌else◌}
use Rattle.vrl_value.specs.Tag.{tag_of}
use Rattle.vrl_value.specs.Tree.{Tree, string, integer, boolean, null, timestamp, regex, array, object}
use Rattle.vrl_value.specs.declared.value.Tag.TheVariants as tag
use Rattle.vrl_kind.specs.Kinds.{only_at}
use Rattle.vrl_kind.specs.Sets.{Sets}
use Rattle.vrl_kind.specs.Tags.{same_tag}
use Rattle.vrl_builtin.specs.Containers.{either}
use Rattle.vrl_builtin.specs.Rows.{Row, value, any_literal, integer_at, optional_parameter, parameter, text_at, value_at}
use Rattle.vrl_builtin.specs.TagSets.{integers, no_tags, strings}
use Rattle.vrl_builtin.specs.declared.tags.Tags.{Tags}
use Rattle.vrl_pattern.specs.Matches.{first_match}
use Rattle.regex.specs.Search.{is_cut_at}
use Rattle.fn_search.specs.Cut.{cut}
use Rattle.fn_search.specs.Sources.{source_at}

abbrev pub patterns : Tags
patterns = record no_tags { string = true; regex = true }

-- the byte at which a text or a regex first stands in a text
abbrev pub first_place : List (List ℕ) → List ℕ → Tree → Option ℕ
first_place sources s (string part) = option_map (λ parts. length parts.0) (cut part s)
first_place sources s (regex n) = option_map (λ m. m.start) (first_match (source_at n sources) s)
first_place sources s (integer n) = None
first_place sources s (boolean b) = None
first_place sources s null = None
first_place sources s (timestamp nanos) = None
first_place sources s (array ts) = None
first_place sources s (object ms) = None

-- only the search for a regex uses memory
abbrev pub is_regex : Tree → Bool
is_regex v = same_tag (tag_of v) tag.Pattern

-- a byte from which on a text is looked at; none where it is outside the text or inside a character
abbrev pub start_of : List ℕ → ℤ → Option ℕ
start_of s (pos i) = if is_cut_at true s i then Some i else None
start_of s (negsuc i) = None

-- where the pattern stands in what is left from there on, taken by itself, counted from the start
-- of the text
abbrev pub place_behind : List (List ℕ) → List ℕ → Tree → Option ℕ → Option ℕ
place_behind sources s pattern None = None
place_behind sources s pattern (Some i) = option_map (λ k. i + k) (first_place sources (drop i s) pattern)

abbrev pub place_from : List (List ℕ) → List ℕ → Tree → ℤ → Option ℕ
place_from sources s pattern from = place_behind sources s pattern (start_of s from)

abbrev pub number_or_null : Option ℕ → Tree
number_or_null None = null
number_or_null (Some n) = integer (pos n)

abbrev pub number_or_null_kind : Sets
number_or_null_kind = either (only_at tag.Int) (only_at tag.Null)

abbrev pub find_row : Row
find_row = record {
  name = codes "find";
  parameters = parameter (codes "value") strings ∷ parameter (codes "pattern") patterns ∷ optional_parameter
      (codes "from") integers ∷ [];
  accepts = any_literal;
  kind = λ givens sources. number_or_null_kind;
  may_fail = λ givens. false;
  means = λ arguments setting. value
      (number_or_null
      (place_from setting.sources (text_at 0 [] arguments) (value_at 1 arguments) (integer_at 2 (pos 0) arguments)));
}
