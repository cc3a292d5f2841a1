-- `parse_regex` and `parse_regex_all`: what the groups of a regex match in a text, as objects.
use Rattle.std.specs.Prelude.{ℕ, Bool, true, false, ◌==◌, List, [], ◌∷◌, map, Option, Some, None, codes, if◌then◌else◌}
use Rattle.vrl_value.specs.Tree.{Tree, string, integer, boolean, null, timestamp, regex, array, object, no_items}
use Rattle.vrl_value.specs.View.{items_of_trees}
use Rattle.vrl_kind.specs.Sets.{Sets}
use Rattle.vrl_builtin.specs.Containers.{array_of}
use Rattle.vrl_builtin.specs.Rows.{Row, Answer, value, failure, ParameterRow, named, told, boolean_at, literal_at, literal_parameter, optional_literal_parameter, parameter, regex_given, boolean_or, optional_regex, text_at}
use Rattle.vrl_builtin.specs.TagSets.{booleans, regexes, strings}
use Rattle.vrl_pattern.specs.Groups.{groups_of}
use Rattle.vrl_pattern.specs.Matches.{all_matches, first_match, group_places}
use Rattle.regex.specs.Patterns.{Match}
use Rattle.fn_search.specs.Fields.{fields, fields_kind}
use Rattle.fn_search.specs.Sources.{source_at}

-- the regex, and whether the fields have numbers too, are written as literals
abbrev pub pattern_parameter : ParameterRow
pattern_parameter = literal_parameter (codes "pattern") regexes

abbrev pub numeric_parameter : ParameterRow
numeric_parameter = optional_literal_parameter (codes "numeric_groups") booleans

abbrev pub is_regex : Tree → Bool
is_regex (regex n) = true
is_regex (string s) = false
is_regex (integer n) = false
is_regex (boolean b) = false
is_regex null = false
is_regex (timestamp nanos) = false
is_regex (array ts) = false
is_regex (object ms) = false

abbrev pub is_boolean : Tree → Bool
is_boolean (boolean b) = true
is_boolean (string s) = false
is_boolean (integer n) = false
is_boolean null = false
is_boolean (timestamp nanos) = false
is_boolean (regex n) = false
is_boolean (array ts) = false
is_boolean (object ms) = false

-- a regex for the pattern, and a boolean for the other
abbrev pub accepts : ℕ → Tree → Bool
accepts place v = if place == 1 then is_regex v else is_boolean v

-- the names of the groups of the regex that is given
abbrev pub names_given : List (List ℕ) → Option ℕ → List (List ℕ)
names_given sources None = []
names_given sources (Some n) = groups_of (source_at n sources)

abbrev pub object_kind : List (List ℕ) → Option Tree → Option Tree → Sets
object_kind sources pattern numeric = fields_kind (names_given sources (regex_given pattern)) (boolean_or false numeric)

-- the object of a match
abbrev pub match_object : List ℕ → Bool → List ℕ → Match → Tree
match_object source numbered s m = object (fields (groups_of source) numbered s (group_places source m))

-- that of the first match
abbrev pub parsed : List (List ℕ) → Option ℕ → Bool → List ℕ → Answer
parsed sources None numbered s = failure (codes "no match")
parsed sources (Some n) numbered s =
    told (match_object (source_at n sources) numbered s) (codes "no match") (first_match (source_at n sources) s)

-- those of all matches
abbrev pub all_parsed : List (List ℕ) → Option ℕ → Bool → List ℕ → Tree
all_parsed sources None numbered s = array no_items
all_parsed sources (Some n) numbered s =
    array (items_of_trees (map (match_object (source_at n sources) numbered s) (all_matches (source_at n sources) s)))

abbrev pub parameters : List ParameterRow
parameters = parameter (codes "value") strings ∷ pattern_parameter ∷ numeric_parameter ∷ []

abbrev pub parse_regex_row : Row
parse_regex_row = record {
  name = codes "parse_regex";
  parameters = parameters;
  accepts = accepts;
  kind = λ givens sources. object_kind sources (literal_at 1 givens) (literal_at 2 givens);
  may_fail = λ givens. true;
  means = λ arguments setting. named (codes "parse_regex")
      (parsed setting.sources (optional_regex 1 arguments) (boolean_at 2 false arguments) (text_at 0 [] arguments));
}

abbrev pub parse_regex_all_row : Row
parse_regex_all_row = record {
  name = codes "parse_regex_all";
  parameters = parameters;
  accepts = accepts;
  kind = λ givens sources. array_of (object_kind sources (literal_at 1 givens) (literal_at 2 givens));
  may_fail = λ givens. false;
  means = λ arguments setting. value
      (all_parsed setting.sources (optional_regex 1 arguments) (boolean_at 2 false arguments) (text_at 0 [] arguments));
}
