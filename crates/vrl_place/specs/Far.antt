-- A write or a removal at a path with far places, from that with the places near the known ones.
use Rattle.std.specs.Prelude.{◌≡◌, ◌-◌, ◌+◌, ◌⊎◌, Bool, false, ℕ, suc, pos, negsuc, List, [], ◌∷◌, nat_lt, ⊤}
use Rattle.vrl_value.specs.Look.{Step, place}
use Rattle.vrl_path.specs.declared.path.Step.{Step as CodeStep}
use Rattle.vrl_path.specs.declared.path.Step.TheVariants.{Field, Place}
use Rattle.vrl_kind.specs.Canonical.{IsCanonical}
use Rattle.vrl_kind.specs.Cut.{IsCut}
use Rattle.vrl_kind.specs.KindTree.{KindTree}
use Rattle.vrl_kind.specs.Kinds.{tags_at}
use Rattle.vrl_kind.specs.Sets.{Sets, SameSets}
use Rattle.vrl_kind.specs.Stretch.{place_back, KnowsAtMost}
use Rattle.vrl_kind.specs.declared.stretch.Stretch.{Stretch}
use Rattle.vrl_place.specs.Remove.{IsRemoval}
use Rattle.vrl_place.specs.Sets.{part}
use Rattle.vrl_place.specs.Write.{IsWrite}

-- M is K with N written at the path, cut
pub record IsWrittenCut (K : KindTree) (p : List CodeStep) (N M : KindTree) : Type 0 where
  pub whole : KindTree
  pub canonical : IsCanonical whole
  pub write : IsWrite (tags_at K) p (tags_at N) (tags_at whole)
  pub cut : IsCut whole M

-- M is K without what stands at the path, cut
pub record IsRemovedCut (K : KindTree) (p : List CodeStep) (M : KindTree) : Type 0 where
  pub whole : KindTree
  pub canonical : IsCanonical whole
  pub removal : IsRemoval (tags_at K) p (tags_at whole)
  pub cut : IsCut whole M

-- ---- what inner functions promise

-- the step's place is that at which the second place behind the repeated one stands; with another step nothing is
-- repeated
abbrev pub IsStretchOf : CodeStep → Stretch → Type 0
IsStretchOf (Field k) z = z.more ≡ 0
IsStretchOf (Place (negsuc i)) z = z.more ≡ 0
IsStretchOf (Place (pos i)) z = (z.more ≡ 0) ⊎ (i ≡ suc (z.place + z.more))

-- each step has its stretch
abbrev pub AreStretchesOf : List CodeStep → List Stretch → Type 0
AreStretchesOf [] [] = ⊤
AreStretchesOf (s ∷ p) (z ∷ zs) = IsStretchOf s z × AreStretchesOf p zs
AreStretchesOf [] (z ∷ zs) = ⊥
AreStretchesOf (s ∷ p) [] = ⊥

abbrev pub near_step : Stretch → CodeStep → CodeStep
near_step z (Field k) = Field k
near_step z (Place (pos i)) = Place (pos (i - z.more))
near_step z (Place (negsuc i)) = Place (negsuc i)

abbrev pub near_steps : List Stretch → List CodeStep → List CodeStep
near_steps zs [] = []
near_steps [] (s ∷ p) = s ∷ p
near_steps (z ∷ zs) (s ∷ p) = near_step z s ∷ near_steps zs p

-- on the level of each stretch A says the same of all the places from the repeated one on
abbrev pub IsBlunt : List Stretch → Sets → Type 0
IsBlunt [] A = ⊤
IsBlunt (z ∷ zs) A = ((i : ℕ) → SameSets (part A (place (place_back z i))) (part A (place i)))
    × ((s : Step) → IsBlunt zs (part A s))

-- the stretch repeats no place that an array so many steps down in the kind knows by itself, if it repeats any
abbrev pub IsLevel : ℕ → Stretch → KindTree → Type 0
IsLevel d z K = (z.more ≡ 0) ⊎ KnowsAtMost d z.place K

-- the stretches are those of the levels from this one on
abbrev pub AreLevels : ℕ → List Stretch → KindTree → Type 0
AreLevels d [] K = ⊤
AreLevels d (z ∷ zs) K = IsLevel d z K × AreLevels (suc d) zs K

-- a place that may be far behind the known ones
abbrev pub is_far : CodeStep → Bool
is_far (Field k) = false
is_far (Place (pos i)) = nat_lt 16 i
is_far (Place (negsuc i)) = false
