-- Whole numbers, and the spellings of floats, which are told apart to be refused.
use Rattle.std.specs.Prelude.{◌≡◌, ℕ, ◌+◌, ◌*◌, ◌-◌, ◌<◌, ◌⊎◌, ◌==◌, if◌then◌else◌, ℤ, pos, neg_ℤ, Bool, true, false, FitsSigned, List, [], ◌∷◌, ◌++◌, length}
use Rattle.std.specs.Int.{w64}
use Rattle.vrl_token.specs.Lexical.{BeginsInside, IsDigit, IsLongestRun}

-- digits, with single `_` between them
abbrev pub IsDigits : List ℕ → Type 0
IsDigits [] = ⊥
IsDigits (d ∷ []) = IsDigit d
IsDigits (d ∷ e ∷ ds) = IsDigit d × (IsDigits (e ∷ ds) ⊎ ((e ≡ 95) × IsDigits ds))

-- digits go on with a digit, or with `_` and a digit
abbrev pub DigitsGoOn : List ℕ → Type 0
DigitsGoOn [] = ⊥
DigitsGoOn (b ∷ bs) = IsDigit b ⊎ ((b ≡ 95) × BeginsInside IsDigit bs)

-- the value of digits behind a value, where `_` counts for nothing
abbrev pub decimal_value : ℕ → List ℕ → ℕ
decimal_value n [] = n
decimal_value n (d ∷ ds) = decimal_value (if d == 95 then n else 10 * n + (d - 48)) ds

abbrev pub signed : Bool → ℕ → ℤ
signed true n = neg_ℤ (pos n)
signed false n = pos n

-- a number with its sign, which has at most 64 bits
pub record IsNumber (negative : Bool) (digits : List ℕ) (number : ℤ) : Type 0 where
  pub value : number ≡ signed negative (decimal_value 0 digits)
  pub fits : FitsSigned w64 number

-- the text behind an optional minus, which is there exactly where the flag says so
abbrev pub IsBehindSign : Bool → List ℕ → List ℕ → Type 0
IsBehindSign true text unsigned = text ≡ 45 ∷ unsigned
IsBehindSign false text unsigned = text ≡ unsigned

-- the text is the digits of a number, as many as can be, and a rest; a minus may stand before them
pub record IsNumeral (negative : Bool) (text digits rest : List ℕ) : Type 0 where
  pub unsigned : List ℕ
  pub sign : IsBehindSign negative text unsigned
  pub parts : unsigned ≡ digits ++ rest
  pub is_digits : IsDigits digits
  pub ends : ¬ DigitsGoOn rest

-- ---- floats

-- digits without `_`, at least one and as many as can be, and a rest
pub record IsDigitRun (text digits rest : List ℕ) : Type 0 where
  pub run : IsLongestRun IsDigit text digits rest
  pub some : 0 < length digits

-- the text is `.` and digits, and a rest
pub record IsFraction (text rest : List ℕ) : Type 0 where
  pub behind : List ℕ
  pub digits : List ℕ
  pub parts : text ≡ 46 ∷ behind
  pub is_run : IsDigitRun behind digits rest

-- none, `+` or `-`
abbrev pub IsPowerSign : List ℕ → Type 0
IsPowerSign sign = (sign ≡ []) ⊎ (sign ≡ 43 ∷ []) ⊎ (sign ≡ 45 ∷ [])

-- the text is `e` or `E`, digits that may have a sign, and a rest
pub record IsExponent (text rest : List ℕ) : Type 0 where
  pub letter : ℕ
  pub sign : List ℕ
  pub behind : List ℕ
  pub digits : List ℕ
  pub parts : text ≡ letter ∷ (sign ++ behind)
  pub is_letter : (letter ≡ 101) ⊎ (letter ≡ 69)
  pub is_sign : IsPowerSign sign
  pub is_run : IsDigitRun behind digits rest

-- what may follow a fraction: an exponent, where there is one
abbrev pub GoesOnFrom : List ℕ → List ℕ → Type 0
GoesOnFrom text rest = IsExponent text rest ⊎ ((text ≡ rest) × ((last : List ℕ) → ¬ IsExponent text last))

-- the text behind the digits of a number is the rest of a float, as far as it goes, and a rest
pub record IsFractional (text rest : List ℕ) : Type 0 where
  pub middle : List ℕ
  pub fraction : IsFraction text middle
  pub power : GoesOnFrom middle rest

abbrev pub IsFloat : List ℕ → List ℕ → Type 0
IsFloat text rest = IsExponent text rest ⊎ IsFractional text rest
