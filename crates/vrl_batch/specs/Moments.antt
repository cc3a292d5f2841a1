-- The moments of lines, as a clock tells them.
use Rattle.std.specs.Prelude.{◌≡◌, ℕ, suc, ◌+◌, ◌≤◌, ℤ, List, [], ◌∷◌, length, map, Option, Some, None, IfSome, IsSomeAnd}
use Rattle.std.specs.List.{enumerate_from}
use Rattle.vrl_value.specs.Moment.{IsInRange}
use Rattle.vrl_batch.specs.Lines.{line_at}
use Rattle.vrl_batch.specs.declared.line.Line.{Line}

-- the clock has told this many moments, if it tells those to come
abbrev pub MovesOn : Option (ℕ → ℤ) → ℕ → Option (ℕ → ℤ) → Type 0
MovesOn None count after = after ≡ None
MovesOn (Some ahead) count after = IsSomeAnd after (λ later. (i : ℕ) → later i ≡ ahead (count + i))

-- it has told no more moments than this
abbrev pub MovesAtMost : Option (ℕ → ℤ) → ℕ → Option (ℕ → ℤ) → Type 0
MovesAtMost ahead most after = (count : ℕ) × (count ≤ most) × MovesOn ahead count after

-- these moments come first
abbrev pub Begin : List ℤ → (ℕ → ℤ) → Type 0
Begin [] moments = Unit {0}
Begin (m ∷ ms) moments = (m ≡ moments 0) × Begin ms (λ i. moments (suc i))

abbrev pub AreInRange : List ℤ → Type 0
AreInRange [] = Unit {0}
AreInRange (m ∷ ms) = IsInRange m × AreInRange ms

-- the clock told these moments, one after another: its own, as far as it tells those to come, and
-- in the range of moments
pub record Tells (ahead : Option (ℕ → ℤ)) (moments : List ℤ) (ahead_after : Option (ℕ → ℤ)) : Type 0 where
  pub told : IfSome ahead (Begin moments)
  pub moved : MovesOn ahead (length moments) ahead_after
  pub in_range : AreInRange moments

-- lines, given as their numbers and bytes, each at the moment of its place
abbrev pub lines_at : List ℤ → List (ℕ × List ℕ) → List Line
lines_at [] lines = []
lines_at (m ∷ moments) [] = []
lines_at (m ∷ moments) (l ∷ lines) = line_at m l ∷ lines_at moments lines

-- the same, where the moments are told by place, from 0
abbrev pub lines_by : (ℕ → ℤ) → List (ℕ × List ℕ) → List Line
lines_by moments lines = map (λ l. line_at (moments l.0) l.1) (enumerate_from 0 lines)
