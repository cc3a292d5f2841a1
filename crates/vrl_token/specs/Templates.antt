-- Templates: variables in a text, as `{{ name }}`, over the characters between its quotes.
use Rattle.std.specs.Prelude.{◌≡◌, ℕ, ◌+◌, Contains, List, [], ◌∷◌, ◌++◌, length}
use Rattle.std.specs.List.{AllByRecursion}
use Rattle.vrl_token.specs.declared.token.Hole.{Hole}
use Rattle.vrl_token.specs.Lexical.{IsBlank, IsName, keywords}
use Rattle.vrl_token.specs.Characters.{Character, plain, plains, spelling_of, text_of}

-- a template opens in the characters: a `{` that isn't escaped, and another directly behind it
pub record HasOpening (characters : List Character) : Type 0 where
  pub before : List Character
  pub behind : List Character
  pub parts : characters ≡ before ++ plain 123 ∷ plain 123 ∷ behind

-- the first template opens behind the characters before it: none opens in them and its first `{`
pub record OpensAt (characters before behind : List Character) : Type 0 where
  pub parts : characters ≡ before ++ plain 123 ∷ plain 123 ∷ behind
  pub is_first : ¬ HasOpening (before ++ plain 123 ∷ [])

-- Behind the braces of an opening stand blanks, a name that is no keyword, blanks and `}}`. The
-- distance is the number of bytes from the name to the end of the spelling, the closing quote with
-- them.
pub record IsHole (characters : List Character) (name : List ℕ) (distance : ℕ) (behind : List Character) : Type 0 where
  pub lead : List ℕ
  pub trail : List ℕ
  pub named : List Character
  pub parts : characters ≡ plains lead ++ named
  pub goes_on : named ≡ plains name ++ (plains trail ++ plain 125 ∷ plain 125 ∷ behind)
  pub lead_is : AllByRecursion IsBlank lead
  pub trail_is : AllByRecursion IsBlank trail
  pub is_name : IsName name
  pub is_free : ¬ Contains keywords name
  pub at : distance ≡ length (spelling_of named) + 1

-- the characters are a text in which no template opens, and templates that have a text behind each
abbrev pub IsParted : List Character → List ℕ → List Hole → Type 0
IsParted characters first [] = (¬ HasOpening characters) × (first ≡ text_of characters)
IsParted characters first (hole ∷ holes) = (before : List Character) × (inside : List Character)
    × (behind : List Character) × OpensAt characters before inside × IsHole inside hole.name hole.distance behind
    × (first ≡ text_of before) × IsParted behind hole.behind holes

-- each template that opens in the characters is well formed
abbrev pub IsWellFormed : List Character → Type 0
IsWellFormed characters = (first : List ℕ) × (holes : List Hole) × IsParted characters first holes
