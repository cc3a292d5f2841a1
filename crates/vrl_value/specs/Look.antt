-- Paths into a tree, and what look-up finds at them, as a JSON Pointer (RFC 6901) finds a value: a
-- name leads into an object and a place into an array.
use Rattle.std.specs.Prelude.{ℕ, zero, suc, List, [], ◌∷◌, Option, Some, None, ⊤}
use Rattle.vrl_value.specs.Tag.{tag_of}
use Rattle.vrl_value.specs.Tree.{Tree, string, integer, boolean, null, timestamp, regex, array, object, Items, no_items, item, no_members, find}
use Rattle.vrl_value.specs.declared.value.Tag.{Tag}
use Rattle.vrl_value.specs.declared.value.Tag.TheVariants as tag

pub data Step : Type 0 where
  -- the field of an object, by the bytes of its name
  field : List ℕ → Step
  -- the place of an array, from 0
  place : ℕ → Step

pub data Found : Type 0 where
  -- this sub-tree
  there : Tree → Found
  -- the container that the last step fits, without that part
  missing : Found
  -- no container that the last step fits
  no_place : Found

-- the part of an array at a place
abbrev pub item_at : ℕ → Items → Option Tree
item_at i no_items = None
item_at zero (item t ts) = Some t
item_at (suc i) (item t ts) = item_at i ts

abbrev pub found_if : Option Tree → Found
found_if None = missing
found_if (Some t) = there t

-- what one step finds
abbrev pub part_at : Tree → Step → Found
part_at (object ms) (field k) = found_if (find k ms)
part_at (array ts) (place i) = found_if (item_at i ts)
part_at t s = no_place

-- what the steps behind find in what the first one found, whatever steps they are
abbrev pub found_behind : {S : Type 0} → Found → List S → (Tree → Found) → Found
found_behind (there t) p look = look t
found_behind missing [] look = missing
found_behind missing (s ∷ p) look = no_place
found_behind no_place p look = no_place

-- what stands at a path
abbrev pub raw_at : Tree → List Step → Found
raw_at t [] = there t
raw_at t (s ∷ p) = found_behind (part_at t s) p (λ u. raw_at u p)

-- the tag of what stands there; none where there is no place
abbrev pub tag_found : Found → Option Tag
tag_found (there t) = Some (tag_of t)
tag_found missing = Some tag.Absent
tag_found no_place = None

-- a tree but for its parts: an array or an object is the empty one
abbrev pub bare : Tree → Tree
bare (string s) = string s
bare (integer n) = integer n
bare (boolean b) = boolean b
bare null = null
bare (timestamp nanos) = timestamp nanos
bare (regex n) = regex n
bare (array ts) = array no_items
bare (object ms) = object no_members

-- what was found, but for its parts
abbrev pub outline : Found → Found
outline (there t) = there (bare t)
outline missing = missing
outline no_place = no_place

-- a fact of the tree that was found, where one was
abbrev pub IfThere : Found → (Tree → Type 0) → Type 0
IfThere (there t) P = P t
IfThere missing P = ⊤
IfThere no_place P = ⊤
