-- `is_nullish`: whether a value says nothing.
use Rattle.std.specs.Prelude.{Bool, true, false, ◌||◌, [], ◌∷◌, codes, chars, bytes_eq}
use Rattle.std.specs.Char.{is_whitespace}
use Rattle.std.specs.List.{list_all}
use Rattle.vrl_value.specs.Tree.{Tree, string, integer, boolean, null, timestamp, regex, array, object}
use Rattle.vrl_value.specs.declared.value.Tag.TheVariants as tag
use Rattle.vrl_builtin.specs.OneTag.{OneTagRow}
use Rattle.vrl_builtin.specs.Rows.{value, parameter, value_at}
use Rattle.vrl_builtin.specs.TagSets.{any_tags}

-- null, `-`, and a string of which each character is white space, as the empty one
abbrev pub is_nullish : Tree → Bool
is_nullish null = true
is_nullish (string s) = bytes_eq s (codes "-") || list_all is_whitespace (chars s)
is_nullish (integer n) = false
is_nullish (boolean b) = false
is_nullish (timestamp nanos) = false
is_nullish (regex n) = false
is_nullish (array ts) = false
is_nullish (object ms) = false

abbrev pub is_nullish_row : OneTagRow
is_nullish_row = record {
  name = codes "is_nullish";
  parameters = parameter (codes "value") any_tags ∷ [];
  tag = tag.Bool;
  may_fail = λ givens. false;
  means = λ arguments setting. value (boolean (is_nullish (value_at 0 arguments)));
}
