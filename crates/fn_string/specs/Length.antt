-- `length`: how many bytes or parts a value has.
use Rattle.std.specs.Prelude.{ℕ, pos, true, false, [], ◌∷◌, codes, length}
use Rattle.vrl_value.specs.Parts.{count_of, members_count}
use Rattle.vrl_value.specs.Tree.{Tree, string, integer, boolean, null, timestamp, regex, array, object}
use Rattle.vrl_value.specs.declared.value.Tag.TheVariants.{Int}
use Rattle.vrl_builtin.specs.OneTag.{OneTagRow}
use Rattle.vrl_builtin.specs.Rows.{value, parameter, value_at}
use Rattle.vrl_builtin.specs.TagSets.{no_tags}

-- the bytes of a text in UTF-8, the places of an array, or the fields of an object; other values
-- aren't allowed
abbrev pub length_of : Tree → ℕ
length_of (string s) = length s
length_of (array ts) = count_of ts
length_of (object ms) = members_count ms
length_of (integer n) = 0
length_of (boolean b) = 0
length_of null = 0
length_of (timestamp nanos) = 0
length_of (regex n) = 0

abbrev pub length_row : OneTagRow
length_row = record {
  name = codes "length";
  parameters = parameter (codes "value") (record no_tags { string = true; array = true; object = true }) ∷ [];
  tag = Int;
  may_fail = λ givens. false;
  means = λ arguments setting. value (integer (pos (length_of (value_at 0 arguments))));
}
