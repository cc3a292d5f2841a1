-- `tally`: how many times each string stands in an array.
use Rattle.std.specs.Prelude.{ℕ, suc, pos, Bool, false, List, [], ◌∷◌, codes, bytes_eq, if◌then◌else◌}
use Rattle.vrl_value.specs.Tree.{Tree, string, integer, boolean, null, timestamp, regex, array, object, Members, no_members, put}
use Rattle.vrl_value.specs.declared.value.Tag.TheVariants as tag
use Rattle.vrl_kind.specs.Kinds.{only_at}
use Rattle.vrl_builtin.specs.Containers.{object_of}
use Rattle.vrl_builtin.specs.Rows.{Row, Answer, named, any_literal, kind_at, parameter, value_at}
use Rattle.vrl_builtin.specs.TagSets.{arrays, strings}
use Rattle.vrl_builtin.specs.Words.{first_other, unless_other}
use Rattle.vrl_builtin.specs.Listed.{items_in, trees_in}
use Rattle.vrl_builtin.specs.PartKinds.{part_allows_other}

abbrev pub is_text : List ℕ → Tree → Bool
is_text s (string u) = bytes_eq s u
is_text s (integer n) = false
is_text s (boolean b) = false
is_text s null = false
is_text s (timestamp nanos) = false
is_text s (regex n) = false
is_text s (array ts) = false
is_text s (object ms) = false

-- how many times the string stands in the list
abbrev pub count_in : List ℕ → List Tree → ℕ
count_in s [] = 0
count_in s (t ∷ ts) = if is_text s t then suc (count_in s ts) else count_in s ts

-- the count of a string in the whole list, put at its name
abbrev pub put_count : List Tree → Tree → Members → Members
put_count all (string s) ms = put s (integer (pos (count_in s all))) ms
put_count all (integer n) ms = ms
put_count all (boolean b) ms = ms
put_count all null ms = ms
put_count all (timestamp nanos) ms = ms
put_count all (regex n) ms = ms
put_count all (array ts) ms = ms
put_count all (object ns) ms = ms

-- each string of a list with its count in the whole
abbrev pub counted : List Tree → List Tree → Members
counted all [] = no_members
counted all (t ∷ ts) = put_count all t (counted all ts)

abbrev pub tallied : Tree → Answer
tallied v = let ts = trees_in (items_in v) in unless_other (first_other strings (items_in v)) (object (counted ts ts))

abbrev pub tally_row : Row
tally_row = record {
  name = codes "tally";
  parameters = parameter (codes "value") arrays ∷ [];
  accepts = any_literal;
  kind = λ givens sources. object_of (only_at tag.Int);
  may_fail = λ givens. part_allows_other strings (kind_at 0 givens);
  means = λ arguments setting. named (codes "tally") (tallied (value_at 0 arguments));
}
