-- The moments that a clock will tell.
use Rattle.std.specs.Prelude.{◌≡◌, ℕ, suc, ℤ, Option, Some, None, IsSomeAnd}

-- the clock told the first of its moments, and has those behind it to come; one that doesn't tell
-- them goes on so
abbrev pub Advances : Option (ℕ → ℤ) → ℤ → Option (ℕ → ℤ) → Type 0
Advances None moment after = after ≡ None
Advances (Some ahead) moment after = (moment ≡ ahead 0) × IsSomeAnd after (λ later. (i : ℕ) → later i ≡ ahead (suc i))
