-- `is_empty`: whether a value has no byte or part.
use Rattle.std.specs.Prelude.{Bool, true, false, ◌==◌, [], ◌∷◌, codes, length}
use Rattle.vrl_value.specs.Parts.{count_of, members_count}
use Rattle.vrl_value.specs.Tree.{Tree, string, integer, boolean, null, timestamp, regex, array, object}
use Rattle.vrl_value.specs.declared.value.Tag.TheVariants as tag
use Rattle.vrl_builtin.specs.OneTag.{OneTagRow}
use Rattle.vrl_builtin.specs.Rows.{value, parameter, value_at}
use Rattle.vrl_builtin.specs.TagSets.{no_tags}

abbrev pub is_empty : Tree → Bool
is_empty (string s) = length s == 0
is_empty (array ts) = count_of ts == 0
is_empty (object ms) = members_count ms == 0
is_empty (integer n) = false
is_empty (boolean b) = false
is_empty null = false
is_empty (timestamp nanos) = false
is_empty (regex n) = false

abbrev pub is_empty_row : OneTagRow
is_empty_row = record {
  name = codes "is_empty";
  parameters = parameter (codes "value") (record no_tags { string = true; array = true; object = true }) ∷ [];
  tag = tag.Bool;
  may_fail = λ givens. false;
  means = λ arguments setting. value (boolean (is_empty (value_at 0 arguments)));
}
