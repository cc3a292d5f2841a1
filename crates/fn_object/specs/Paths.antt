-- Paths that are given as arrays: strings are fields and integers places.
use Rattle.std.specs.Prelude.{ℕ, pos, negsuc, Bool, true, false, leb, nat_lt, List, [], ◌∷◌, map, length, Option, Some, None, codes, if◌then◌else◌}
use Rattle.std.specs.List.{list_all}
use Rattle.vrl_value.specs.Tree.{Tree, string, integer, boolean, null, timestamp, regex, array, object}
use Rattle.vrl_value.specs.declared.value.Tag.{Tag}
use Rattle.vrl_path.specs.declared.path.Step.{Step}
use Rattle.vrl_path.specs.declared.path.Step.TheVariants.{Field, Place}
use Rattle.vrl_builtin.specs.Rows.{Answer, value, failure}
use Rattle.vrl_builtin.specs.TagSets.{no_tags}
use Rattle.vrl_builtin.specs.Listed.{items_in, trees_in}
use Rattle.vrl_builtin.specs.Words.{first_other, path_element_is}
use Rattle.vrl_builtin.specs.declared.tags.Tags.{Tags}

-- the tags that an element may have
abbrev pub step_tags : Tags
step_tags = record no_tags { string = true; integer = true }

-- the step of an element; one of another tag is at fault before it is asked for
abbrev pub step_of : Tree → Step
step_of (string s) = Field s
step_of (integer n) = Place n
step_of (boolean b) = Place (pos 0)
step_of null = Place (pos 0)
step_of (timestamp nanos) = Place (pos 0)
step_of (regex n) = Place (pos 0)
step_of (array ts) = Place (pos 0)
step_of (object ms) = Place (pos 0)

abbrev pub steps_of : List Tree → List Step
steps_of = map step_of

-- an element of another tag, by its place, or else other words, or else a value
abbrev pub path_answer : Option (ℕ × Tag) → Option (List ℕ) → Tree → Answer
path_answer (Some other) words v = failure (path_element_is other.0 other.1)
path_answer None (Some words) v = failure words
path_answer None None v = value v

abbrev pub is_empty : List Step → Bool
is_empty [] = true
is_empty (s ∷ p) = false

-- what can be written: a field, or a place from 0 to 65,535
abbrev pub is_writable : Step → Bool
is_writable (Field k) = true
is_writable (Place (pos i)) = leb i 65535
is_writable (Place (negsuc i)) = false

-- what can be removed: a field, or a place from 0 on
abbrev pub is_plain : Step → Bool
is_plain (Field k) = true
is_plain (Place (pos i)) = true
is_plain (Place (negsuc i)) = false

-- whether neither an element's tag nor other words tell against a path
abbrev pub is_faultless : Option (ℕ × Tag) → Option (List ℕ) → Bool
is_faultless (Some other) words = false
is_faultless None (Some words) = false
is_faultless None None = true

-- the words on a path at which nothing can be written, and on one at which nothing can be removed
abbrev pub write_fault : List Step → Option (List ℕ)
write_fault p = if is_empty p then Some (codes "empty path")
    else (if nat_lt 64 (length p) then Some (codes "path too long")
    else (if list_all is_writable p then None else Some (codes "index out of range")))

abbrev pub removal_fault : List Step → Option (List ℕ)
removal_fault p = if is_empty p then Some (codes "empty path")
    else (if list_all is_plain p then None else Some (codes "index out of range"))

-- whether such a path may be gone down for a value: each element is a name or a place, and no other
-- words tell against it
abbrev pub is_taken : (List Step → Option (List ℕ)) → Tree → Bool
is_taken fault path = is_faultless (first_other step_tags (items_in path)) (fault (steps_of (trees_in (items_in path))))
