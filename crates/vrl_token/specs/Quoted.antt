-- Words of the code for cutting a text at its closing quote, and for reading its escapes; the
-- characters are those of `Characters`.
use Rattle.std.specs.Prelude.{◌≡◌, ◌≢◌, ℕ, ◌⊎◌, List, [], ◌∷◌, length}
use Rattle.std.specs.List.{AllByRecursion}
use Rattle.vrl_token.specs.Characters.{Character, IsInside, IsQuoted, spelling_of}

-- the closing quote stands behind so many bytes
pub record IsClosedAt (quote : ℕ) (text : List ℕ) (place : ℕ) : Type 0 where
  pub characters : List Character
  pub behind : List ℕ
  pub is_quoted : IsQuoted quote text characters behind
  pub at : length (spelling_of characters) ≡ place

-- the text is what stands before its closing quote, that quote, and a rest
pub record IsCut (quote : ℕ) (text inner rest : List ℕ) : Type 0 where
  pub characters : List Character
  pub is_quoted : IsQuoted quote text characters rest
  pub spelled : inner ≡ spelling_of characters

-- what the start of a text that stands behind a backslash means with it, and what goes on behind
-- that
abbrev pub RawPair : List ℕ → List ℕ → List ℕ → Type 0
RawPair escaped meaning behind =
    ((escaped ≡ 39 ∷ behind) × (meaning ≡ 39 ∷ []))
    ⊎ ((escaped ≡ 92 ∷ behind) × (meaning ≡ 92 ∷ 92 ∷ []))
    ⊎ ((escaped ≡ behind) × (meaning ≡ 92 ∷ []) × ((rest : List ℕ) → escaped ≢ 39 ∷ rest)
    × ((rest : List ℕ) → escaped ≢ 92 ∷ rest))

-- the bytes between quotes are these characters
pub record IsInner (quote : ℕ) (inner : List ℕ) (characters : List Character) : Type 0 where
  pub inside : AllByRecursion (IsInside quote) characters
  pub spelled : inner ≡ spelling_of characters
