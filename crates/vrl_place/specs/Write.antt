-- The kind of a value after a write at a path, as what it allows at each path.
use Rattle.std.specs.Prelude.{◌≡◌, ◌⊎◌, not, ℕ, ℤ, pos, negsuc, List, [], ◌∷◌, ⊤}
use Rattle.vrl_value.specs.Look.{Step, field, place}
use Rattle.vrl_value.specs.declared.value.Tag.TheVariants as tag
use Rattle.vrl_path.specs.declared.path.Step.{Step as CodeStep}
use Rattle.vrl_path.specs.declared.path.Step.TheVariants.{Field, Place}
use Rattle.vrl_kind.specs.Change.{null_for_absent}
use Rattle.vrl_kind.specs.Kinds.{only_at, step_tag}
use Rattle.vrl_kind.specs.Parts.{either_at}
use Rattle.vrl_kind.specs.Sets.{Sets, SameSets}
use Rattle.vrl_kind.specs.Tags.{Tags, never, only}
use Rattle.vrl_place.specs.FromEnd.{spread, AreSomePlaces, IsSurePlace}
use Rattle.vrl_place.specs.Sets.{part, is_alone, or_absent_if, by_step}

-- what stands behind a step once there is its container: nothing may be there where something else could
-- stand in its place
abbrev pub opened : Sets → Step → Sets
opened A s = or_absent_if (not (is_alone (A []) (step_tag s))) (part A s)

-- the container of the step alone, with W behind that step; a lower place is filled up with null
abbrev pub put : Sets → Step → Sets → Sets
put A s W [] = only (step_tag s)
put A s W (t ∷ q) = by_step t s (null_for_absent (opened A t) q) (W q) (opened A t q) never

abbrev pub or_null : Sets → Sets
or_null P = either_at P (only_at tag.Null)

-- B is A with a write behind a step. `Behind C W` says that W is C after the write at the rest of the path
abbrev pub IsPut : Sets → Step → (Sets → Sets → Type 0) → Sets → Type 0
IsPut A s Behind B = (W : Sets) × Behind (opened A s) W × SameSets B (put A s W)

-- the same at a place that isn't known: each place may be what some place was, or null, or that after the write
pub record IsPutSomewhere (A : Sets) (Behind : Sets → Sets → Type 0) (B : Sets) : Type 0 where
  pub places : Sets
  pub are : AreSomePlaces A places
  pub written : Sets
  pub behind : Behind (or_null places) written
  pub same : SameSets B (spread (only_at tag.List) (either_at (or_null places) written))

-- the same at a place from the end, which is known where A allows arrays of one length alone that have it
abbrev pub IsPutFromEnd : Sets → ℤ → (Sets → Sets → Type 0) → Sets → Type 0
IsPutFromEnd A at Behind B =
    ((j : ℕ) × IsSurePlace A at j × IsPut A (place j) Behind B)
    ⊎ (((j : ℕ) → IsSurePlace A at j → ⊥) × IsPutSomewhere A Behind B)

-- B is A with N written at the path. A negative place counts from the end of its array
abbrev pub IsWrite : Sets → List CodeStep → Sets → Sets → Type 0
IsWrite A [] N B = SameSets B N
IsWrite A (Field k ∷ r) N B = IsPut A (field k) (λ C W. IsWrite C r N W) B
IsWrite A (Place (pos i) ∷ r) N B = IsPut A (place i) (λ C W. IsWrite C r N W) B
IsWrite A (Place (negsuc i) ∷ r) N B = IsPutFromEnd A (negsuc i) (λ C W. IsWrite C r N W) B

-- the container that the first step fits, and nothing else
abbrev pub IsContainerFor : List CodeStep → Tags → Type 0
IsContainerFor [] T = ⊤
IsContainerFor (Field k ∷ r) T = T ≡ only tag.Object
IsContainerFor (Place i ∷ r) T = T ≡ only tag.List
