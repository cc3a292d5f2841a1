-- The words of errors that name a tag, and the first part of an array that is of another.
use Rattle.std.specs.Prelude.{ℕ, suc, List, ◌++◌, Option, Some, None, codes, decimal, if◌then◌else◌}
use Rattle.vrl_value.specs.Tag.{tag_of, word_of}
use Rattle.vrl_value.specs.Tree.{Tree, Items, no_items, item}
use Rattle.vrl_value.specs.declared.value.Tag.{Tag}
use Rattle.vrl_builtin.specs.Rows.{Answer, value, failure}
use Rattle.vrl_builtin.specs.TagSets.{allows}
use Rattle.vrl_builtin.specs.declared.tags.Tags.{Tags}

-- an argument is of a tag that the function can't take
abbrev pub value_is : Tag → List ℕ
value_is t = codes "value is " ++ word_of t

-- so is a part, by its place from 0 on: one of an array, or of the array that is a path
abbrev pub part_is : List ℕ → ℕ → Tag → List ℕ
part_is part n t = part ++ (codes " " ++ (decimal n ++ (codes " is " ++ word_of t)))

abbrev pub element_is : ℕ → Tag → List ℕ
element_is n t = part_is (codes "element") n t

abbrev pub path_element_is : ℕ → Tag → List ℕ
path_element_is n t = part_is (codes "path element") n t

-- an element, by its place from 0 on, isn't what the function asks for
abbrev pub element : ℕ → List ℕ
element n = codes "element " ++ decimal n

-- the first part whose tag isn't in the set: its place, counted from the given one on, and its tag
abbrev pub first_other_from : ℕ → Tags → Items → Option (ℕ × Tag)
first_other_from n T no_items = None
first_other_from n T (item v ts) = if allows T (tag_of v) then first_other_from (suc n) T ts else Some (n, tag_of v)

abbrev pub first_other : Tags → Items → Option (ℕ × Tag)
first_other T ts = first_other_from 0 T ts

-- the error of such a part, or else a value
abbrev pub unless_other : Option (ℕ × Tag) → Tree → Answer
unless_other (Some other) v = failure (element_is other.0 other.1)
unless_other None v = value v
