-- The kind of what a read finds at a path, as what is allowed at each path. Where nothing is found, a read gives null.
use Rattle.std.specs.Prelude.{◌≡◌, ◌≢◌, ◌⊎◌, ◌↔◌, ℕ, pos, negsuc, List, [], ◌∷◌, IsTrue}
use Rattle.vrl_value.specs.Look.{Step, field, place}
use Rattle.vrl_value.specs.declared.value.Tag.{Tag}
use Rattle.vrl_value.specs.declared.value.Tag.TheVariants as tag
use Rattle.vrl_path.specs.declared.path.Step.{Step as CodeStep}
use Rattle.vrl_path.specs.declared.path.Step.TheVariants.{Field, Place}
use Rattle.vrl_kind.specs.Kinds.{step_tag}
use Rattle.vrl_kind.specs.Sets.{Sets}

-- what is allowed at each path, where no test decides it
abbrev pub Allowed : Type 1
Allowed = List Step → Tag → Type 0

abbrev pub allowed : Sets → Allowed
allowed A p t = IsTrue (A p t)

-- the sets have just what is allowed
abbrev pub HasJust : Sets → Allowed → Type 0
HasJust A B = (p : List Step) (t : Tag) → IsTrue (A p t) ↔ B p t

-- another tag than that of the step's container may stand there, or nothing
abbrev pub AllowsOther : Allowed → Step → Type 0
AllowsOther A s = (t : Tag) × (t ≢ step_tag s) × A [] t

-- the part behind a step; null where it may be absent, or where there may be no container that the step fits
abbrev pub read_part : Allowed → Step → Allowed
read_part A s [] t = ((t ≢ tag.Absent) × A (s ∷ []) t) ⊎ ((t ≡ tag.Null) × (A (s ∷ []) tag.Absent ⊎ AllowsOther A s))
read_part A s (q ∷ p) t = A (s ∷ q ∷ p) t

-- the parts at all places, or null
abbrev pub read_some_place : Allowed → Allowed
read_some_place A [] t = ((t ≢ tag.Absent) × ((i : ℕ) × A (place i ∷ []) t)) ⊎ (t ≡ tag.Null)
read_some_place A (q ∷ p) t = (i : ℕ) × A (place i ∷ q ∷ p) t

-- a negative place is told by no kind, so it may be any place, or none
abbrev pub read_step : Allowed → CodeStep → Allowed
read_step A (Field k) = read_part A (field k)
read_step A (Place (pos i)) = read_part A (place i)
read_step A (Place (negsuc i)) = read_some_place A

abbrev pub read : Allowed → List CodeStep → Allowed
read A [] = A
read A (s ∷ p) = read (read_step A s) p
