-- Words of the code for reading numbers; the spellings are those of `Numbers`.
use Rattle.std.specs.Prelude.{◌≡◌, ℕ, ◌+◌, ◌*◌, ◌-◌, ◌⊎◌, ◌==◌, if◌then◌else◌, List, ◌∷◌, ◌++◌, ◌≢◌}
use Rattle.vrl_token.specs.Numbers.{DigitsGoOn, IsDigits}

-- the value of digits with one more of them
abbrev pub value_with : ℕ → ℕ → ℕ
value_with n d = if d == 95 then n else 10 * n + (d - 48)

-- the text is digits, as many as can be, and a rest
pub record IsDigitsCut (text rest : List ℕ) : Type 0 where
  pub digits : List ℕ
  pub parts : text ≡ digits ++ rest
  pub is_digits : IsDigits digits
  pub ends : ¬ DigitsGoOn rest

-- the rest stands behind a sign, or where none is it is the text
abbrev pub PowerSign : List ℕ → List ℕ → Type 0
PowerSign text rest = (text ≡ 43 ∷ rest) ⊎ (text ≡ 45 ∷ rest)
    ⊎ ((text ≡ rest) × ((behind : List ℕ) → text ≢ 43 ∷ behind) × ((behind : List ℕ) → text ≢ 45 ∷ behind))

-- the rest stands behind `e` or `E`
abbrev pub PowerLetter : List ℕ → List ℕ → Type 0
PowerLetter text rest = (text ≡ 101 ∷ rest) ⊎ (text ≡ 69 ∷ rest)

abbrev pub NoPowerLetter : List ℕ → Type 0
NoPowerLetter text = (rest : List ℕ) → ¬ PowerLetter text rest
