-- The spellings of tokens: how a text that begins with a token goes on. No spelling could be
-- longer.
use Rattle.std.specs.Prelude.{◌≡◌, ℕ, ◌<◌, ◌⊎◌, Bool, true, false, Contains, List, [], ◌∷◌, codes, length}
use Rattle.std.specs.List.{AllByRecursion}
use Rattle.vrl_value.specs.Rfc3339.{IsReading}
use Rattle.vrl_token.specs.declared.piece.Piece.{Piece}
use Rattle.vrl_token.specs.declared.token.Token.{Token}
use Rattle.vrl_token.specs.declared.token.Token.TheVariants as token
use Rattle.vrl_token.specs.Lexical.{BeginsInside, BeginsOutside, IsDigit, IsLongestRun, IsName, IsNamePart, IsNameStart, keywords}
use Rattle.vrl_token.specs.Characters.{Character, IsKnown, IsQuoted, raw_of}
use Rattle.vrl_token.specs.Templates.{IsParted}
use Rattle.vrl_token.specs.Numbers.{IsFloat, IsNumber, IsNumeral}
use Rattle.vrl_token.specs.Paths.{BeginsDotted, HasSteps, RootSegments, Segment, Segments}
use Rattle.vrl_token.specs.Context.{closes_before, operand_before, regexes_before}

abbrev pub BeginsWith : ℕ → List ℕ → Type 0
BeginsWith mark = BeginsInside (λ b. b ≡ mark)

abbrev pub BeginsWithout : ℕ → List ℕ → Type 0
BeginsWithout mark = BeginsOutside (λ b. b ≡ mark)

-- ---- names

-- the text is a name or keyword, as long as it can be, and a rest
pub record IsNameRun (text name rest : List ℕ) : Type 0 where
  pub is_name : IsName name
  pub run : IsLongestRun IsNamePart text name rest

-- the same, where the name is no keyword
pub record IsFreeName (text name rest : List ℕ) : Type 0 where
  pub is_name : IsName name
  pub run : IsLongestRun IsNamePart text name rest
  pub free : ¬ Contains keywords name

-- a call goes on behind its function's name: with `(`, or with `!(`
abbrev pub IsCallRest : List ℕ → Type 0
IsCallRest [] = ⊥
IsCallRest (b ∷ bs) = (b ≡ 40) ⊎ ((b ≡ 33) × BeginsWith 40 bs)

-- `s`, `r` and `t` begin a raw text, a regex and a timestamp directly before a quote
abbrev pub IsRawLetter : ℕ → Type 0
IsRawLetter letter = (letter ≡ 115) ⊎ (letter ≡ 114) ⊎ (letter ≡ 116)

abbrev pub BeginsRaw : List ℕ → Type 0
BeginsRaw [] = ⊥
BeginsRaw (letter ∷ text) = IsRawLetter letter × BeginsWith 39 text

-- no path goes on with this text
abbrev pub NoSegment : List ℕ → Type 0
NoSegment text = (segment : Segment) (behind : List ℕ) → ¬ BeginsDotted text segment behind

-- the text is a letter and characters between `'`, and a rest
pub record IsRaw (letter : ℕ) (text : List ℕ) (characters : List Character) (rest : List ℕ) : Type 0 where
  pub behind : List ℕ
  pub parts : text ≡ letter ∷ 39 ∷ behind
  pub is_quoted : IsQuoted 39 behind characters rest

pub record IsTextSpelling (text : List ℕ) (characters : List Character) (rest : List ℕ) : Type 0 where
  pub behind : List ℕ
  pub parts : text ≡ 34 ∷ behind
  pub is_quoted : IsQuoted 34 behind characters rest

-- ---- contexts

-- a minus belongs to the number behind it unless an operand ends before it
abbrev pub MayHaveSign : List Piece → Bool → Type 0
MayHaveSign before true = operand_before before ≡ false
MayHaveSign before false = Unit {0}

-- no suffix begins here: neither `)` nor `]` stands directly before, or no segment follows
abbrev pub NoSuffix : List Piece → List ℕ → Type 0
NoSuffix before text = (closes_before before ≡ false) ⊎ NoSegment text

-- ---- tokens

pub record IsNumberToken (before : List Piece) (text digits rest : List ℕ) (negative : Bool) : Type 0 where
  pub sign : MayHaveSign before negative
  pub numeral : IsNumeral negative text digits rest
  pub whole : (last : List ℕ) → ¬ IsFloat rest last

abbrev pub IsNonempty : List Segment → Type 0
IsNonempty [] = ⊥
IsNonempty (segment ∷ segments) = Unit {0}

-- the text is this token behind the pieces before it, as long as it can be, and a rest
abbrev pub BeginsWithToken : List Piece → Token → List ℕ → List ℕ → Type 0
BeginsWithToken before (token.Text value) text rest = (characters : List Character)
    × IsTextSpelling text characters rest × AllByRecursion IsKnown characters × IsParted characters value []
BeginsWithToken before (token.Template first holes) text rest = (characters : List Character)
    × IsTextSpelling text characters rest × AllByRecursion IsKnown characters × IsParted characters first holes
    × (0 < length holes)
BeginsWithToken before (token.RawText value) text rest =
    (characters : List Character) × IsRaw 115 text characters rest × (value ≡ raw_of characters)
BeginsWithToken before (token.Regex source) text rest = (characters : List Character) × IsRaw 114 text characters rest
    × (source ≡ raw_of characters) × (regexes_before before < 256)
BeginsWithToken before (token.Timestamp moment) text rest =
    (characters : List Character) × IsRaw 116 text characters rest × IsReading (raw_of characters) moment
BeginsWithToken before (token.Number number) text rest = (negative : Bool) × (digits : List ℕ)
    × IsNumberToken before text digits rest negative × BeginsOutside IsNameStart rest × IsNumber negative digits number
BeginsWithToken before token.True text rest = IsNameRun text (codes "true") rest
BeginsWithToken before token.False text rest = IsNameRun text (codes "false") rest
BeginsWithToken before token.Null text rest = IsNameRun text (codes "null") rest
BeginsWithToken before token.If text rest = IsNameRun text (codes "if") rest
BeginsWithToken before token.Else text rest = IsNameRun text (codes "else") rest
BeginsWithToken before token.Abort text rest = IsNameRun text (codes "abort") rest
BeginsWithToken before token.Return text rest = IsNameRun text (codes "return") rest
BeginsWithToken before (token.Name name) text rest =
    IsFreeName text name rest × ¬ BeginsRaw text × ¬ IsCallRest rest × NoSegment rest
BeginsWithToken before (token.Function name) text rest = IsFreeName text name rest × BeginsWith 40 rest
BeginsWithToken before (token.BangFunction name) text rest = IsFreeName text name (33 ∷ rest) × BeginsWith 40 rest
BeginsWithToken before (token.EventPath path) text rest =
    (segments : List Segment) × RootSegments 46 text segments rest × HasSteps segments path × NoSuffix before text
BeginsWithToken before (token.MetadataPath path) text rest =
    (segments : List Segment) × RootSegments 37 text segments rest × HasSteps segments path
BeginsWithToken before (token.NamePath name path) text rest = (behind : List ℕ) × (segments : List Segment)
    × IsFreeName text name behind × Segments behind segments rest × IsNonempty segments × HasSteps segments path
BeginsWithToken before (token.Suffix path) text rest = (segments : List Segment) × (closes_before before ≡ true)
    × Segments text segments rest × IsNonempty segments × HasSteps segments path
BeginsWithToken before token.Assign text rest = (text ≡ 61 ∷ rest) × BeginsWithout 61 rest
BeginsWithToken before token.MergeAssign text rest = text ≡ 124 ∷ 61 ∷ rest
BeginsWithToken before token.Coalesce text rest = (text ≡ 63 ∷ 63 ∷ rest) × BeginsWithout 61 rest
BeginsWithToken before token.Or text rest = text ≡ 124 ∷ 124 ∷ rest
BeginsWithToken before token.And text rest = text ≡ 38 ∷ 38 ∷ rest
BeginsWithToken before token.Equal text rest = text ≡ 61 ∷ 61 ∷ rest
BeginsWithToken before token.Unequal text rest = text ≡ 33 ∷ 61 ∷ rest
BeginsWithToken before token.Less text rest = (text ≡ 60 ∷ rest) × BeginsWithout 61 rest
BeginsWithToken before token.AtMost text rest = text ≡ 60 ∷ 61 ∷ rest
BeginsWithToken before token.More text rest = (text ≡ 62 ∷ rest) × BeginsWithout 61 rest
BeginsWithToken before token.AtLeast text rest = text ≡ 62 ∷ 61 ∷ rest
BeginsWithToken before token.Merge text rest = ⊥
BeginsWithToken before token.Plus text rest = text ≡ 43 ∷ rest
BeginsWithToken before token.Minus text rest =
    (text ≡ 45 ∷ rest) × BeginsWithout 62 rest × ((operand_before before ≡ true) ⊎ BeginsOutside IsDigit rest)
BeginsWithToken before token.Times text rest = text ≡ 42 ∷ rest
BeginsWithToken before token.Not text rest = (text ≡ 33 ∷ rest) × BeginsWithout 61 rest
BeginsWithToken before token.OpenParenthesis text rest = text ≡ 40 ∷ rest
BeginsWithToken before token.CloseParenthesis text rest = text ≡ 41 ∷ rest
BeginsWithToken before token.OpenBracket text rest = (text ≡ 91 ∷ rest) × NoSuffix before text
BeginsWithToken before token.CloseBracket text rest = text ≡ 93 ∷ rest
BeginsWithToken before token.OpenBlock text rest = ⊥
BeginsWithToken before token.OpenObject text rest = ⊥
BeginsWithToken before token.CloseBrace text rest = text ≡ 125 ∷ rest
BeginsWithToken before token.OpenBars text rest = ⊥
BeginsWithToken before token.CloseBars text rest = ⊥
BeginsWithToken before token.Comma text rest = text ≡ 44 ∷ rest
BeginsWithToken before token.Colon text rest = text ≡ 58 ∷ rest
BeginsWithToken before token.Arrow text rest = text ≡ 45 ∷ 62 ∷ rest
BeginsWithToken before token.Separator text rest = text ≡ 59 ∷ rest
