-- Texts that begin with a character, or with another.
use Rattle.std.proofs.Common.{◌≡◌, ◌≢◌, ◌==◌, ℕ, Bool, true, false, List, ◌∷◌, refl, ap}
use Rattle.std.proofs.lemmas.Bool.{eqb-true}

-- no text that begins with the character is this one
abbrev pub IsOther : ℕ → List ℕ → Type 0
IsOther first s = (rest : List ℕ) → s ≢ first ∷ rest

other_at : (c first : ℕ) (ds : List ℕ) (b : Bool) → (c == first) ≡ b → IsOther first (c ∷ ds) → b ≡ false
other_at c first ds true same other = absurd (other ds (ap (λ n. n ∷ ds) (eqb-true c first same)))
other_at c first ds false same other = refl

pub other_first : (c first : ℕ) (ds : List ℕ) → IsOther first (c ∷ ds) → (c == first) ≡ false
other_first c first ds other = other_at c first ds (c == first) refl other
