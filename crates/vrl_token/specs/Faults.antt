-- What can be wrong with the text at a place, and how far the spelling at fault goes.
use Rattle.std.specs.Prelude.{◌≡◌, ℕ, ◌≤◌, ◌⊎◌, ℤ, Bool, true, IsTrue, List, [], ◌∷◌}
use Rattle.std.specs.List.{AllByRecursion}
use Rattle.vrl_diag.specs.Rendering.{is_continuation}
use Rattle.vrl_value.specs.Rfc3339.{IsReading}
use Rattle.vrl_token.specs.declared.piece.Piece.{Piece}
use Rattle.vrl_token.specs.Lexical.{BeginsInside, BeginsOutside, IsBlank, IsDigit, IsLongestRun, IsNameStart}
use Rattle.vrl_token.specs.Characters.{Character, IsKnown, IsUnclosed, raw_of}
use Rattle.vrl_token.specs.Templates.{IsWellFormed}
use Rattle.vrl_token.specs.Numbers.{IsFloat, IsNumber, IsNumeral}
use Rattle.vrl_token.specs.Paths.{HasFlaw, RootSegments, Segment, Segments}
use Rattle.vrl_token.specs.Context.{closes_before, regexes_before}
use Rattle.vrl_token.specs.Words.{BeginsWithout, IsFreeName, IsNonempty, IsNumberToken, IsRaw, IsRawLetter, IsTextSpelling, MayHaveSign, NoSuffix}

-- newline, `#`, `"`, `.`, `=`, `|`, `!`, `<`, `>`, `+`, `-`, `*`, `?`, `&`, `(`, `)`, `[`, `]`,
-- `{`, `}`, `,`, `:`, `;`, `/` or `%`
abbrev pub IsMark : ℕ → Type 0
IsMark b = (b ≡ 10) ⊎ (b ≡ 35) ⊎ (b ≡ 34) ⊎ (b ≡ 46) ⊎ (b ≡ 61) ⊎ (b ≡ 124) ⊎ (b ≡ 33) ⊎ (b ≡ 60) ⊎ (b ≡ 62) ⊎ (b ≡ 43)
    ⊎ (b ≡ 45) ⊎ (b ≡ 42) ⊎ (b ≡ 63) ⊎ (b ≡ 38) ⊎ (b ≡ 40) ⊎ (b ≡ 41)
    ⊎ (b ≡ 91) ⊎ (b ≡ 93) ⊎ (b ≡ 123) ⊎ (b ≡ 125) ⊎ (b ≡ 44) ⊎ (b ≡ 58) ⊎ (b ≡ 59) ⊎ (b ≡ 47) ⊎ (b ≡ 37)

-- what a spelling can begin with
abbrev pub IsStart : ℕ → Type 0
IsStart b = IsBlank b ⊎ IsNameStart b ⊎ IsDigit b ⊎ IsMark b

-- the character at the start of the text is part of no spelling
abbrev pub IsStray : List ℕ → Type 0
IsStray [] = ⊥
IsStray (b ∷ bs) = (¬ IsStart b) ⊎ ((b ≡ 63) × BeginsWithout 63 bs) ⊎ ((b ≡ 38) × BeginsWithout 38 bs)

-- a byte that goes on with a character of several bytes
abbrev pub IsContinuation : ℕ → Type 0
IsContinuation b = IsTrue (is_continuation b)

-- the rest behind the first character of a text
pub record IsBehindCharacter (text rest : List ℕ) : Type 0 where
  pub first : ℕ
  pub behind : List ℕ
  pub others : List ℕ
  pub parts : text ≡ first ∷ behind
  pub run : IsLongestRun IsContinuation behind others rest

-- at the start of the text a spelling is at fault, and this is its code and what stands behind it
pub data IsFault (before : List Piece) (text : List ℕ) (code : ℕ) (rest : List ℕ) : Type 0 where
  -- a text without its closing quote
  unclosed_text : (behind : List ℕ) → text ≡ 34 ∷ behind → IsUnclosed 34 behind → rest ≡ [] → code ≡ 203
      → IsFault before text code rest
  -- a raw text, a regex or a timestamp without its closing quote
  unclosed_raw : (letter : ℕ) (behind : List ℕ) → IsRawLetter letter → text ≡ letter ∷ 39 ∷ behind
      → IsUnclosed 39 behind → rest ≡ [] → code ≡ 203 → IsFault before text code rest
  -- a text with an escape that isn't known
  unknown_escape : (characters : List Character) → IsTextSpelling text characters rest
      → ¬ AllByRecursion IsKnown characters → code ≡ 203 → IsFault before text code rest
  -- a text with a malformed template
  template : (characters : List Character) → IsTextSpelling text characters rest → AllByRecursion IsKnown characters
      → ¬ IsWellFormed characters → code ≡ 1016 → IsFault before text code rest
  -- a regex literal behind 256 others
  many_regexes : (characters : List Character) → IsRaw 114 text characters rest → 256 ≤ regexes_before before
      → code ≡ 1016 → IsFault before text code rest
  -- a timestamp that RFC 3339 doesn't read
  no_moment : (characters : List Character) → IsRaw 116 text characters rest
      → ((moment : ℤ) → ¬ IsReading (raw_of characters) moment) → code ≡ 1014 → IsFault before text code rest
  -- a float
  float : (negative : Bool) (digits behind : List ℕ) → MayHaveSign before negative
      → IsNumeral negative text digits behind → IsFloat behind rest → code ≡ 1001 → IsFault before text code rest
  -- a number with a letter or `_` directly behind it
  joined_number : (negative : Bool) (digits : List ℕ) → IsNumberToken before text digits rest negative
      → BeginsInside IsNameStart rest → code ≡ 203 → IsFault before text code rest
  -- a number of more than 64 bits
  large_number : (negative : Bool) (digits : List ℕ) → IsNumberToken before text digits rest negative
      → BeginsOutside IsNameStart rest → ((number : ℤ) → ¬ IsNumber negative digits number) → code ≡ 1002
      → IsFault before text code rest
  -- a path of the event or of the metadata, a path behind a name, or a suffix, with an unknown
  -- escape or an index of more than 64 bits
  event_path : (segments : List Segment) → RootSegments 46 text segments rest → NoSuffix before text
      → HasFlaw segments code → IsFault before text code rest
  metadata_path : (segments : List Segment) → RootSegments 37 text segments rest → HasFlaw segments code
      → IsFault before text code rest
  name_path : (name behind : List ℕ) (segments : List Segment) → IsFreeName text name behind
      → Segments behind segments rest → IsNonempty segments → HasFlaw segments code → IsFault before text code rest
  suffix : (segments : List Segment) → closes_before before ≡ true → Segments text segments rest → IsNonempty segments
      → HasFlaw segments code → IsFault before text code rest
  -- operators that the language has and this compiler leaves out
  division : text ≡ 47 ∷ rest → code ≡ 1003 → IsFault before text code rest
  coalescing_assignment : text ≡ 63 ∷ 63 ∷ 61 ∷ rest → code ≡ 1003 → IsFault before text code rest
  -- a character that is part of no spelling
  stray : IsStray text → IsBehindCharacter text rest → code ≡ 203 → IsFault before text code rest

-- the codes that a fault of a spelling can have
abbrev pub spelling_codes : List ℕ
spelling_codes = 203 ∷ 1001 ∷ 1002 ∷ 1003 ∷ 1014 ∷ 1016 ∷ []
