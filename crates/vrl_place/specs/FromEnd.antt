-- Places that count from the end of an array, as kinds know them.
use Rattle.std.specs.Prelude.{◌≡◌, ◌<◌, ◌≤◌, ◌↔◌, not, false, true, ℕ, ℤ, Some, List, [], ◌∷◌, IsTrue}
use Rattle.vrl_value.specs.Look.{Step, field, place}
use Rattle.vrl_value.specs.declared.value.Tag.{Tag}
use Rattle.vrl_value.specs.declared.value.Tag.TheVariants as tag
use Rattle.vrl_path.specs.Read.{place_of}
use Rattle.vrl_kind.specs.Kinds.{is_absence}
use Rattle.vrl_kind.specs.Sets.{Sets}
use Rattle.vrl_kind.specs.Tags.{only}
use Rattle.vrl_place.specs.Sets.{is_alone, or_absent_if}

-- the arrays that A allows have all this length: no lower place may be absent, and nothing stands behind
pub record HasLength (A : Sets) (count : ℕ) : Type 0 where
  pub arrays : A [] tag.List ≡ true
  pub sure : (i : ℕ) → i < count → A (place i ∷ []) tag.Absent ≡ false
  pub behind : (i : ℕ) → count ≤ i → (t : Tag) → A (place i ∷ []) t ≡ only tag.Absent t

-- A allows arrays, and they have no one length
pub record HasNoLength (A : Sets) : Type 0 where
  pub arrays : A [] tag.List ≡ true
  pub none : (count : ℕ) → HasLength A count → ⊥

-- A allows arrays alone, in each of which the place `at`, from the end, is the place j
pub record IsSurePlace (A : Sets) (at : ℤ) (j : ℕ) : Type 0 where
  pub alone : is_alone (A []) tag.List ≡ true
  pub count : ℕ
  pub length : HasLength A count
  pub counted : place_of count at ≡ Some j

-- P is what A allows at some place, but for absent
pub record AreSomePlaces (A P : Sets) : Type 0 where
  pub at : (p : List Step) (t : Tag)
      → IsTrue (P p t) ↔ (((i : ℕ) × IsTrue (A (place i ∷ p) t)) × IsTrue (not (is_absence p t)))

-- A with arrays of any length in place of its own, with P at each place
abbrev pub spread : Sets → Sets → Sets
spread A P [] = A []
spread A P (place i ∷ q) = or_absent_if true P q
spread A P (field k ∷ q) = A (field k ∷ q)
