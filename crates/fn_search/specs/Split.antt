-- `split`: the parts of a text between the matches of a text or a regex.
use Rattle.std.specs.Prelude.{ℕ, ◌+◌, ◌-◌, ℤ, pos, false, List, [], ◌∷◌, Option, Some, None, codes, int_lt, length, map, unsigned_abs, if◌then◌else◌}
use Rattle.vrl_value.specs.Tree.{Tree, string, integer, boolean, null, timestamp, regex, array, object}
use Rattle.vrl_value.specs.View.{items_of_trees}
use Rattle.vrl_value.specs.declared.value.Tag.TheVariants as tag
use Rattle.vrl_kind.specs.Kinds.{only_at}
use Rattle.vrl_builtin.specs.Containers.{array_of}
use Rattle.vrl_builtin.specs.Rows.{Row, value, any_literal, optional_integer, optional_parameter, parameter, text_at, value_at}
use Rattle.vrl_builtin.specs.TagSets.{integers, strings}
use Rattle.vrl_pattern.specs.Matches.{pieces}
use Rattle.fn_search.specs.Cut.{parts_between}
use Rattle.fn_search.specs.Find.{patterns}
use Rattle.fn_search.specs.Sources.{source_at}

-- How many parts there may be: a limit below 1 counts as 1. Without a limit there may be as many as
-- there can be: a text of n bytes has at most n + 1 matches, none over another, and so n + 2 parts.
abbrev pub most_parts : Option ℤ → List ℕ → ℕ
most_parts None s = length s + 2
most_parts (Some n) s = if int_lt n (pos 1) then 1 else unsigned_abs n

-- the parts between the matches from the left, at most so many, the last of which holds the rest
abbrev pub split_by : List (List ℕ) → List ℕ → Tree → ℕ → List (List ℕ)
split_by sources s (string part) most = parts_between part (most - 1) s
split_by sources s (regex n) most = pieces (source_at n sources) s most
split_by sources s (integer n) most = []
split_by sources s (boolean b) most = []
split_by sources s null most = []
split_by sources s (timestamp nanos) most = []
split_by sources s (array ts) most = []
split_by sources s (object ms) most = []

abbrev pub split_row : Row
split_row = record {
  name = codes "split";
  parameters = parameter (codes "value") strings ∷ parameter (codes "pattern") patterns ∷ optional_parameter
      (codes "limit") integers ∷ [];
  accepts = any_literal;
  kind = λ givens sources. array_of (only_at tag.Text);
  may_fail = λ givens. false;
  means = λ arguments setting.
      let s = text_at 0 [] arguments in
      value (array (items_of_trees
      (map string (split_by setting.sources s (value_at 1 arguments)
      (most_parts (optional_integer 2 arguments) s)))));
}
