-- Words of the code for reading the variables of a text; the templates are those of `Templates`.
use Rattle.std.specs.Prelude.{◌≡◌, ℕ, ◌+◌, ◌<◌, ◌==◌, if◌then◌else◌, Option, Some, None, List, [], ◌∷◌, ◌++◌, length}
use Rattle.std.specs.List.{AllByRecursion}
use denote.Ref.{Bor}
use Rattle.vrl_token.specs.declared.template.Pending.{Pending}
use Rattle.vrl_token.specs.declared.template.Pending.TheVariants.{Escape, Brace, Nothing}
use Rattle.vrl_token.specs.declared.token.Hole.{Hole}
use Rattle.vrl_token.specs.declared.token.Token.{Token}
use Rattle.vrl_token.specs.declared.token.Token.TheVariants as token
use Rattle.vrl_token.specs.Lexical.{IsBlank, IsLongestRun}
use Rattle.vrl_token.specs.Characters.{Character, escaped, plain, spelling_of}
use Rattle.vrl_token.specs.Templates.{HasOpening, IsHole, IsParted, OpensAt}
use Rattle.vrl_token.specs.Words.{IsFreeName}

-- a template opens with the byte
abbrev pub Opens : Pending → ℕ → Type 0
Opens Brace b = b ≡ 123
Opens _ b = ⊥

-- what is open behind the byte
abbrev pub pending_behind : Pending → ℕ → Pending
pending_behind Escape b = Nothing
pending_behind Brace b = if b == 92 then Escape else if b == 123 then Brace else Nothing
pending_behind Nothing b = if b == 92 then Escape else if b == 123 then Brace else Nothing

-- no backslash stands for itself
abbrev pub IsUnslashed : Character → Type 0
IsUnslashed (plain b) = ¬ (b ≡ 92)
IsUnslashed (escaped b) = Unit {0}

-- the first template opens behind so many bytes of the text
pub record IsOpenedAt (text : List ℕ) (place : ℕ) : Type 0 where
  pub before : List Character
  pub behind : List ℕ
  pub parts : text ≡ spelling_of before ++ 123 ∷ 123 ∷ behind
  pub unslashed : AllByRecursion IsUnslashed before
  pub is_first : ¬ HasOpening (before ++ plain 123 ∷ [])
  pub at : length (spelling_of before) ≡ place

-- the characters before the first template that opens, and those behind its braces, as they are
-- spelled
abbrev pub CutsOpening : List Character → List ℕ → Option (Bor (List ℕ)) → Type 0
CutsOpening characters before None = (before ≡ spelling_of characters) × ¬ HasOpening characters
CutsOpening characters before (Some behind) = (front : List Character) × (inside : List Character)
    × OpensAt characters front inside × (before ≡ spelling_of front) × (behind.now ≡ spelling_of inside)

-- the text is blanks, `}}` and a rest
pub record IsClosing (text rest : List ℕ) : Type 0 where
  pub blanks : List ℕ
  pub run : IsLongestRun IsBlank text blanks (125 ∷ 125 ∷ rest)

-- the text is blanks, a name that is no keyword, blanks, `}}` and a rest
pub record IsHoleText (text name : List ℕ) (distance : ℕ) (rest : List ℕ) : Type 0 where
  pub lead : List ℕ
  pub named : List ℕ
  pub behind : List ℕ
  pub run : IsLongestRun IsBlank text lead named
  pub is_free : IsFreeName named name behind
  pub closes : IsClosing behind rest
  pub at : distance ≡ length named + 1

-- behind the braces of an opening the characters are these variables, with a text behind each
abbrev pub AreHoles : List Character → List Hole → Type 0
AreHoles characters [] = ⊥
AreHoles characters (hole ∷ holes) = (behind : List Character) × IsHole characters hole.name hole.distance behind
    × IsParted behind hole.behind holes

-- the token of the characters between the quotes of a text
abbrev pub IsTextToken : List Character → Token → Type 0
IsTextToken characters (token.Text value) = IsParted characters value []
IsTextToken characters (token.Template first holes) = IsParted characters first holes × (0 < length holes)
IsTextToken characters _ = ⊥
