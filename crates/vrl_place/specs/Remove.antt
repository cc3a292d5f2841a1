-- The kind of a value after a removal at a path, as what it allows at each path.
use Rattle.std.specs.Prelude.{◌≡◌, ◌⊎◌, ◌&&◌, false, ℕ, ℤ, suc, pos, negsuc, List, [], ◌∷◌, MatchOption}
use Rattle.vrl_value.specs.Look.{Step, field, place}
use Rattle.vrl_value.specs.declared.value.Tag.TheVariants as tag
use Rattle.vrl_path.specs.Read.{place_of}
use Rattle.vrl_path.specs.declared.path.Step.{Step as CodeStep}
use Rattle.vrl_path.specs.declared.path.Step.TheVariants.{Field, Place}
use Rattle.vrl_kind.specs.Kinds.{is_absence}
use Rattle.vrl_kind.specs.Parts.{either_at}
use Rattle.vrl_kind.specs.Sets.{Sets, SameSets}
use Rattle.vrl_kind.specs.Tags.{Tags}
use Rattle.vrl_place.specs.FromEnd.{spread, AreSomePlaces, HasLength, HasNoLength}
use Rattle.vrl_place.specs.Sets.{part, or_absent_if, by_step}

-- what stands at a removed field: nothing, where there may be an object
abbrev pub gone : Tags → Sets
gone T p t = T tag.Object && is_absence p t

abbrev pub next_step : Step → Step
next_step (place i) = place (suc i)
next_step (field k) = field k

-- what stands at a place from which on all move down by one, which they do unless the place i was absent
abbrev pub moved : Sets → ℕ → Step → Sets
moved A i s = or_absent_if (A (place i ∷ []) tag.Absent) (part A (next_step s))

-- all but what the step leads to stays: a field is gone, and from a place on all move down
abbrev pub without_part : Sets → Step → Sets
without_part A s [] = A []
without_part A (field k) (t ∷ q) = by_step t (field k) (A (t ∷ q)) (gone (A []) q) (A (t ∷ q)) (A (t ∷ q))
without_part A (place i) (t ∷ q) = by_step t (place i) (A (t ∷ q)) (moved A i t q) (moved A i t q) (A (t ∷ q))

-- .. and there stands W
abbrev pub with_part : Sets → Step → Sets → Sets
with_part A s W [] = A []
with_part A s W (t ∷ q) = by_step t s (A (t ∷ q)) (W q) (A (t ∷ q)) (A (t ∷ q))

-- B is A without what stands behind a step at the rest of the path. `Behind C W` says that W is C without that
abbrev pub IsTakenAt : Sets → Step → List CodeStep → (Sets → Sets → Type 0) → Sets → Type 0
IsTakenAt A s [] Behind B = SameSets B (without_part A s)
IsTakenAt A s (u ∷ r) Behind B = (W : Sets) × Behind (part A s) W × SameSets B (with_part A s W)

-- W is what may stand at each place of P once one was removed, or what stands in one at the rest of the path
abbrev pub IsLeftSomewhere : Sets → List CodeStep → (Sets → Sets → Type 0) → Sets → Type 0
IsLeftSomewhere P [] Behind W = SameSets W P
IsLeftSomewhere P (u ∷ r) Behind W = (V : Sets) × Behind P V × SameSets W (either_at P V)

-- the same as `IsTakenAt` at a place that isn't known: each place may be what some place was, or that without what
-- stands there
pub record IsTakenSomewhere (A : Sets) (r : List CodeStep) (Behind : Sets → Sets → Type 0) (B : Sets) : Type 0 where
  pub places : Sets
  pub are : AreSomePlaces A places
  pub left : Sets
  pub behind : IsLeftSomewhere places r Behind left
  pub same : SameSets B (spread A left)

-- the same at a place from the end: nothing is removed where there is no array, or none that is long enough
abbrev pub IsTakenFromEnd : Sets → ℤ → List CodeStep → (Sets → Sets → Type 0) → Sets → Type 0
IsTakenFromEnd A at r Behind B =
    ((A [] tag.List ≡ false) × SameSets B A)
    ⊎ ((count : ℕ) × HasLength A count
    × MatchOption (place_of count at) (SameSets B A) (λ j. IsTakenAt A (place j) r Behind B))
    ⊎ (HasNoLength A × IsTakenSomewhere A r Behind B)

-- B is A without what stands at the path. A negative place counts from the end of its array
abbrev pub IsRemoval : Sets → List CodeStep → Sets → Type 0
IsRemoval A [] B = SameSets B A
IsRemoval A (Field k ∷ r) B = IsTakenAt A (field k) r (λ C W. IsRemoval C r W) B
IsRemoval A (Place (pos i) ∷ r) B = IsTakenAt A (place i) r (λ C W. IsRemoval C r W) B
IsRemoval A (Place (negsuc i) ∷ r) B = IsTakenFromEnd A (negsuc i) r (λ C W. IsRemoval C r W) B
