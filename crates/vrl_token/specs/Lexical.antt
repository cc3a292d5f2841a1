-- The characters, names and keywords of the Vector Remap Language.
use Rattle.std.specs.Prelude.{◌≡◌, ℕ, ◌≤◌, ◌⊎◌, List, [], ◌∷◌, ◌++◌, codes}
use Rattle.std.specs.List.{AllByRecursion}

-- space, tab or carriage return
abbrev pub IsBlank : ℕ → Type 0
IsBlank b = (b ≡ 32) ⊎ (b ≡ 9) ⊎ (b ≡ 13)

abbrev pub IsDigit : ℕ → Type 0
IsDigit b = (48 ≤ b) × (b ≤ 57)

-- an ASCII letter
abbrev pub IsLetter : ℕ → Type 0
IsLetter b = ((97 ≤ b) × (b ≤ 122)) ⊎ ((65 ≤ b) × (b ≤ 90))

-- a letter or `_`
abbrev pub IsNameStart : ℕ → Type 0
IsNameStart b = IsLetter b ⊎ (b ≡ 95)

-- a letter, a digit or `_`
abbrev pub IsNamePart : ℕ → Type 0
IsNamePart b = IsLetter b ⊎ IsDigit b ⊎ (b ≡ 95)

-- what stands in a field without quotes: a letter, a digit, `_` or `@`
abbrev pub IsFieldPart : ℕ → Type 0
IsFieldPart b = IsLetter b ⊎ IsDigit b ⊎ (b ≡ 95) ⊎ (b ≡ 64)

-- the text is empty, or its first byte is none of these
abbrev pub BeginsOutside : (ℕ → Type 0) → List ℕ → Type 0
BeginsOutside P [] = Unit {0}
BeginsOutside P (b ∷ bs) = ¬ P b

-- the text's first byte is one of these
abbrev pub BeginsInside : (ℕ → Type 0) → List ℕ → Type 0
BeginsInside P [] = ⊥
BeginsInside P (b ∷ bs) = P b

-- the text is a run of these bytes and a rest, and the run is as long as it can be
pub record IsLongestRun (P : ℕ → Type 0) (text run rest : List ℕ) : Type 0 where
  pub parts : text ≡ run ++ rest
  pub passes : AllByRecursion P run
  pub ends : BeginsOutside P rest

abbrev pub IsName : List ℕ → Type 0
IsName [] = ⊥
IsName (b ∷ bs) = IsNameStart b × AllByRecursion IsNamePart bs

-- names that no variable, function or path has
abbrev pub keywords : List (List ℕ)
keywords = codes "if" ∷ codes "else" ∷ codes "abort" ∷ codes "return" ∷ codes "true" ∷ codes "false" ∷ codes "null" ∷ []
