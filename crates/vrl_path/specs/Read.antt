-- What a read finds at a path with negative places, which count from the end of an array.
use Rattle.std.specs.Prelude.{ℕ, ℤ, suc, ◌-◌, pos, negsuc, nat_lt, if◌then◌else◌, List, [], ◌∷◌, Option, Some, None}
use Rattle.vrl_value.specs.Look.{Found, there, missing, no_place, item_at, found_if, found_behind}
use Rattle.vrl_value.specs.Parts.{count_of}
use Rattle.vrl_value.specs.Tree.{Tree, array, object, Items, find}
use Rattle.vrl_path.specs.declared.path.Step.{Step}
use Rattle.vrl_path.specs.declared.path.Step.TheVariants.{Field, Place}

-- the place among this many, counted from the start: -1 is the last; none where it is before the
-- first
abbrev pub place_of : ℕ → ℤ → Option ℕ
place_of count (pos i) = Some i
place_of count (negsuc i) = (if nat_lt i count then Some (count - suc i) else None)

-- what stands at a place, if it is one
abbrev pub item_if : Option ℕ → Items → Found
item_if None ts = missing
item_if (Some i) ts = found_if (item_at i ts)

-- what one step finds; a place before the first of an array is missing
abbrev pub signed_part_at : Tree → Step → Found
signed_part_at (object ms) (Field k) = found_if (find k ms)
signed_part_at (array ts) (Place i) = item_if (place_of (count_of ts) i) ts
signed_part_at t s = no_place

-- what stands at a path
abbrev pub signed_raw_at : Tree → List Step → Found
signed_raw_at t [] = there t
signed_raw_at t (s ∷ p) = found_behind (signed_part_at t s) p (λ u. signed_raw_at u p)

-- the sub-tree that was found
abbrev pub tree_found : Found → Option Tree
tree_found (there t) = Some t
tree_found missing = None
tree_found no_place = None

-- the sub-tree at a path
abbrev pub read_at : Tree → List Step → Option Tree
read_at t p = tree_found (signed_raw_at t p)
