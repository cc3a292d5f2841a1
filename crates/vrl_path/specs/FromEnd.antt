-- What steps stand for in a tree where a value is set or removed: a negative place counts from the
-- end of its array.
use Rattle.std.specs.Prelude.{ℕ, zero, suc, ◌-◌, unsigned_abs, if◌then◌else◌, List, [], ◌∷◌, unwrap_or, is_some}
use Rattle.vrl_value.specs.Look.{Step, field, place, there}
use Rattle.vrl_value.specs.Parts.{count_of}
use Rattle.vrl_value.specs.Tree.{Tree, null, array, Items, item}
use Rattle.vrl_path.specs.Parts.{items_in, part_or_null, set_part}
use Rattle.vrl_path.specs.Read.{place_of}
use Rattle.vrl_path.specs.Steps.{has_negative}
use Rattle.vrl_path.specs.declared.path.Step.{Step as CodeStep}
use Rattle.vrl_path.specs.declared.path.Step.TheVariants.{Field, Place}

-- the items behind this many nulls
abbrev pub behind_nulls : ℕ → Items → Items
behind_nulls zero ts = ts
behind_nulls (suc n) ts = item null (behind_nulls n ts)

-- the tree, with nulls in front of its items where it has too few for a place that counts from the
-- end; what is no array counts as the empty one
abbrev pub front_padded : Tree → CodeStep → Tree
front_padded t (Field k) = t
front_padded t (Place i) =
    let ts = items_in (there t) in
    (if is_some (place_of (count_of ts) i) then t else array (behind_nulls (unsigned_abs i - count_of ts) ts))

-- the step from the start that the step stands for once the tree is padded so
abbrev pub step_in : Tree → CodeStep → Step
step_in t (Field k) = field k
step_in t (Place i) = place (unwrap_or (place_of (count_of (items_in (there t))) i) 0)

-- the part behind the step; null where none stands there
abbrev pub part_behind : Tree → CodeStep → Tree
part_behind t s = part_or_null (front_padded t s) (step_in t s)

-- the steps that the path stands for, one after the other
abbrev pub steps_in : Tree → List CodeStep → List Step
steps_in t [] = []
steps_in t (s ∷ p) = step_in t s ∷ steps_in (part_behind t s) p

-- The tree once each array on the path is padded so. Where no place of the path is negative, this
-- is the tree.
abbrev pub padded : Tree → List CodeStep → Tree
padded t [] = t
padded t (s ∷ p) =
    let u = front_padded t s in (if has_negative p then set_part (step_in t s) (padded (part_behind t s) p) u else u)
