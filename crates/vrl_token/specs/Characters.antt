-- Characters between quotes, with their escapes.
use Rattle.std.specs.Prelude.{◌≡◌, ◌≢◌, ℕ, ◌⊎◌, ◌==◌, if◌then◌else◌, List, [], ◌∷◌, ◌++◌}
use Rattle.std.specs.List.{AllByRecursion}

-- a byte for itself, or the byte behind a backslash
pub data Character : Type 0 where
  plain : ℕ → Character
  escaped : ℕ → Character

abbrev pub spelling_of : List Character → List ℕ
spelling_of [] = []
spelling_of (plain b ∷ cs) = b ∷ spelling_of cs
spelling_of (escaped b ∷ cs) = 92 ∷ b ∷ spelling_of cs

-- bytes that stand for themselves
abbrev pub plains : List ℕ → List Character
plains [] = []
plains (b ∷ bs) = plain b ∷ plains bs

-- The character may stand between these quotes: neither the quote nor a backslash stands there for
-- itself.
abbrev pub IsInside : ℕ → Character → Type 0
IsInside quote (plain b) = (b ≢ quote) × (b ≢ 92)
IsInside quote (escaped b) = Unit {0}

-- the text behind an opening quote is these characters, the closing quote and a rest
pub record IsQuoted (quote : ℕ) (text : List ℕ) (characters : List Character) (rest : List ℕ) : Type 0 where
  pub parts : text ≡ spelling_of characters ++ quote ∷ rest
  pub inside : AllByRecursion (IsInside quote) characters

-- the text behind an opening quote is characters up to its end, where a backslash may stand alone
pub record IsUnclosed (quote : ℕ) (text : List ℕ) : Type 0 where
  pub characters : List Character
  pub parts : (text ≡ spelling_of characters) ⊎ (text ≡ spelling_of characters ++ 92 ∷ [])
  pub inside : AllByRecursion (IsInside quote) characters

-- ---- texts and quoted fields

-- `\n`, `\r`, `\t`, `\\`, `\"`, `\'`, `\0` and `\{`
abbrev pub IsEscape : ℕ → Type 0
IsEscape b = (b ≡ 110) ⊎ (b ≡ 114) ⊎ (b ≡ 116) ⊎ (b ≡ 92) ⊎ (b ≡ 34) ⊎ (b ≡ 39) ⊎ (b ≡ 48)
    ⊎ (b ≡ 123)

-- what the byte behind a backslash stands for: a backslash, a quote and `{` stand for themselves
abbrev pub escape_of : ℕ → ℕ
escape_of b = if b == 110 then 10 else if b == 114 then 13 else if b == 116 then 9 else if b == 48 then 0 else b

abbrev pub IsKnown : Character → Type 0
IsKnown (plain b) = Unit {0}
IsKnown (escaped b) = IsEscape b

abbrev pub text_of : List Character → List ℕ
text_of [] = []
text_of (plain b ∷ cs) = b ∷ text_of cs
text_of (escaped b ∷ cs) = escape_of b ∷ text_of cs

-- ---- raw texts, regexes and timestamps

-- `\'` is a quote, and any other byte behind a backslash stands for the backslash and itself
abbrev pub raw_of : List Character → List ℕ
raw_of [] = []
raw_of (plain b ∷ cs) = b ∷ raw_of cs
raw_of (escaped b ∷ cs) = (if b == 39 then 39 ∷ [] else 92 ∷ b ∷ []) ++ raw_of cs
