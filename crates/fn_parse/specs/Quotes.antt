-- Texts between quotes, in which `\"` stands for a quote, and `\\` for a backslash.
use Rattle.std.specs.Prelude.{◌≡◌, ℕ, suc, take, drop, ◌==◌, Bool, ◌&&◌, ◌||◌, List, [], ◌∷◌, ◌++◌, Option, Some, None, option_map, if◌then◌else◌}

-- a quote or a backslash
abbrev pub is_mark : ℕ → Bool
is_mark c = c == 0x22 || c == 0x5C

-- what is left behind a byte; a backslash takes a quote or a backslash with it
abbrev pub behind_unit : ℕ → List ℕ → List ℕ
behind_unit b [] = []
behind_unit b (c ∷ s) = if b == 0x5C && is_mark c then s else c ∷ s

-- the place of the first quote before which no backslash takes it; a backslash takes a quote or a
-- backslash behind it
abbrev pub closing_place : List ℕ → Option ℕ
closing_place [] = None
closing_place (b ∷ []) = if b == 0x22 then Some 0 else None
closing_place (b ∷ (c ∷ s)) =
    if b == 0x22 then Some 0 else
    if b == 0x5C && is_mark c then option_map (λ n. suc (suc n)) (closing_place s)
    else option_map (λ n. suc n) (closing_place (c ∷ s))

-- a text cut at that quote
pub record IsClosed (s inner behind : List ℕ) : Type 0 where
  pub place : ℕ
  pub closes : closing_place s ≡ Some place
  pub before : inner ≡ take place s
  pub rest : behind ≡ drop (suc place) s

-- what a text between quotes stands for: each other backslash for itself
abbrev pub unescaped : List ℕ → List ℕ
unescaped [] = []
unescaped (b ∷ []) = b ∷ []
unescaped (b ∷ (c ∷ s)) = if b == 0x5C && is_mark c then c ∷ unescaped s else b ∷ unescaped (c ∷ s)

-- a text as it is written between quotes
abbrev pub escaped : List ℕ → List ℕ
escaped [] = []
escaped (b ∷ s) = if is_mark b then 0x5C ∷ b ∷ escaped s else b ∷ escaped s

abbrev pub in_quotes : List ℕ → List ℕ
in_quotes s = 0x22 ∷ (escaped s ++ 0x22 ∷ [])
