-- `slice`: the characters of a text, or the parts of an array, from one place up to another.
use Rattle.std.specs.Prelude.{ℕ, zero, suc, ◌-◌, ℤ, pos, negsuc, ◌+ℤ◌, int_le, unsigned_abs, Bool, true, false, ◌&&◌, ◌||◌, List, [], ◌∷◌, Option, Some, None, codes, if◌then◌else◌}
use Rattle.vrl_value.specs.Parts.{count_of}
use Rattle.vrl_value.specs.Tree.{Tree, string, integer, boolean, null, timestamp, regex, array, object, Items, no_items, item}
use Rattle.vrl_value.specs.declared.value.Tag.TheVariants as tag
use Rattle.vrl_kind.specs.KindTree.{KindTree}
use Rattle.vrl_kind.specs.Kinds.{only_at, tags_at}
use Rattle.vrl_kind.specs.Sets.{Sets}
use Rattle.vrl_builtin.specs.Containers.{array_of}
use Rattle.vrl_builtin.specs.PartKinds.{array_parts_at}
use Rattle.vrl_builtin.specs.Rows.{Row, Answer, failure, named, told, parameter, optional_parameter, any_literal, integer_at, kind_at, optional_integer, value_at}
use Rattle.vrl_builtin.specs.TagSets.{integers, no_tags}
use Rattle.fn_string.specs.Characters.{first_characters, from_character}
use Rattle.fn_string.specs.StrLen.{count_of_characters}

-- a place that is negative counts from the end
abbrev pub place_of : ℕ → ℤ → ℤ
place_of count (pos n) = pos n
place_of count (negsuc n) = pos count +ℤ negsuc n

-- the end, where none is given that of the value
abbrev pub end_of : ℕ → Option ℤ → ℤ
end_of count None = pos count
end_of count (Some n) = place_of count n

-- 0 <= start <= end <= count
abbrev pub is_range : ℕ → ℤ → ℤ → Bool
is_range count start end = int_le (pos 0) start && (int_le start end && int_le end (pos count))

abbrev pub range_between : ℕ → ℤ → ℤ → Option (ℕ × ℕ)
range_between count start end = if is_range count start end then Some (unsigned_abs start, unsigned_abs end) else None

-- the first place, and the one behind the last, of so many; none where they are out of range
abbrev pub range_of : ℕ → ℤ → Option ℤ → Option (ℕ × ℕ)
range_of count start end = range_between count (place_of count start) (end_of count end)

-- the parts from a place on, and so many of the first ones
abbrev pub parts_from : ℕ → Items → Items
parts_from zero ts = ts
parts_from (suc n) no_items = no_items
parts_from (suc n) (item v ts) = parts_from n ts

abbrev pub first_parts : ℕ → Items → Items
first_parts zero ts = no_items
first_parts (suc n) no_items = no_items
first_parts (suc n) (item v ts) = item v (first_parts n ts)

abbrev pub text_between : List ℕ → ℕ × ℕ → Tree
text_between s range = string (first_characters (range.1 - range.0) (from_character range.0 s))

abbrev pub array_between : Items → ℕ × ℕ → Tree
array_between ts range = array (first_parts (range.1 - range.0) (parts_from range.0 ts))

-- places are counted in characters of a text, or in parts of an array; other values aren't allowed
abbrev pub sliced : Tree → ℤ → Option ℤ → Answer
sliced (string s) start end = told (text_between s) (codes "out of range") (range_of (count_of_characters s) start end)
sliced (array ts) start end = told (array_between ts) (codes "out of range") (range_of (count_of ts) start end)
sliced (integer n) start end = failure (codes "out of range")
sliced (boolean b) start end = failure (codes "out of range")
sliced null start end = failure (codes "out of range")
sliced (timestamp nanos) start end = failure (codes "out of range")
sliced (regex n) start end = failure (codes "out of range")
sliced (object ms) start end = failure (codes "out of range")

-- a text where the value may be one, and an array of the parts of its arrays where it may be an
-- array
abbrev pub text_kind : KindTree → Sets
text_kind K p t = tags_at K [] tag.Text && only_at tag.Text p t

abbrev pub array_kind : KindTree → Sets
array_kind K p t = tags_at K [] tag.List && array_of (array_parts_at (Some K)) p t

abbrev pub slice_kind : Option KindTree → Sets
slice_kind None p t = false
slice_kind (Some K) p t = text_kind K p t || array_kind K p t

abbrev pub slice_row : Row
slice_row = record {
  name = codes "slice";
  parameters = parameter (codes "value") (record no_tags { string = true; array = true }) ∷ parameter
      (codes "start") integers ∷ optional_parameter (codes "end") integers ∷ [];
  accepts = any_literal;
  kind = λ givens sources. slice_kind (kind_at 0 givens);
  may_fail = λ givens. true;
  means = λ arguments setting. named (codes "slice")
      (sliced (value_at 0 arguments) (integer_at 1 (pos 0) arguments) (optional_integer 2 arguments));
}
