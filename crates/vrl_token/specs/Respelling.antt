-- A text that is written again with other blanks and newlines: which pieces stay what they are, and
-- what may stand behind them. Pieces before a place are listed from the nearest on.
use Rattle.std.specs.Prelude.{◌≡◌, ◌≢◌, ℕ, ◌≤◌, ◌⊎◌, Bool, true, false, List, [], ◌∷◌, ◌++◌}
use Rattle.std.specs.List.{AllByRecursion}
use Rattle.vrl_token.specs.declared.piece.Piece.{Piece}
use Rattle.vrl_token.specs.declared.piece.Piece.TheVariants.{Blank, Comment, Newline, Brace, Bar, Word}
use Rattle.vrl_token.specs.declared.token.Token.TheVariants as token
use Rattle.vrl_token.specs.Lexical.{BeginsInside, BeginsOutside, IsBlank}
use Rattle.vrl_token.specs.Context.{closes_before, operand_before, regexes_before}
use Rattle.vrl_token.specs.Words.{BeginsWith, BeginsWithout}
use Rattle.vrl_token.specs.Pieces.{Begins}

-- a blank, a newline, `)`, `]`, `,`, `:`, `}` or `|`
abbrev pub IsStop : ℕ → Type 0
IsStop b = IsBlank b ⊎ (b ≡ 10) ⊎ (b ≡ 41) ⊎ (b ≡ 93) ⊎ (b ≡ 44) ⊎ (b ≡ 58) ⊎ (b ≡ 125) ⊎ (b ≡ 124)

-- the text is empty, or begins with one of these
abbrev pub Stops : List ℕ → Type 0
Stops [] = Unit {0}
Stops (b ∷ bs) = IsStop b

-- the text is empty, or begins with a newline
abbrev pub EndsLine : List ℕ → Type 0
EndsLine [] = Unit {0}
EndsLine (b ∷ bs) = b ≡ 10

-- Directly before such a text the piece ends where its spelling ends. A suffix may stand behind `)`
-- and `]`.
abbrev pub MayStandBefore : Piece → List ℕ → Type 0
MayStandBefore Blank text = BeginsOutside IsBlank text
MayStandBefore Comment text = EndsLine text
MayStandBefore Newline text = Unit {0}
MayStandBefore Brace text = Unit {0}
MayStandBefore Bar text = BeginsWithout 61 text × BeginsWithout 124 text
MayStandBefore (Word (token.Function name)) text = BeginsWith 40 text
MayStandBefore (Word (token.BangFunction name)) text = BeginsWith 40 text
MayStandBefore (Word token.Not) text = BeginsWithout 61 text
MayStandBefore (Word token.OpenParenthesis) text = Unit {0}
MayStandBefore (Word token.OpenBracket) text = Unit {0}
MayStandBefore (Word token.CloseParenthesis) text = Unit {0}
MayStandBefore (Word token.CloseBracket) text = Unit {0}
MayStandBefore (Word t) text = Stops text

-- What the piece asks of the pieces before it, where it stood behind the first ones, holds of the
-- others too.
abbrev pub KeepsContext : Piece → List Piece → List Piece → Type 0
KeepsContext (Word (token.Number number)) before after = operand_before before ≡ false → operand_before after ≡ false
KeepsContext (Word (token.Regex source)) before after = regexes_before after ≤ regexes_before before
KeepsContext (Word (token.EventPath path)) before after = closes_before after ≡ false
KeepsContext (Word token.OpenBracket) before after = closes_before after ≡ false
KeepsContext (Word (token.Suffix path)) before after = closes_before after ≡ true
KeepsContext p before after = Unit {0}

-- a piece is that piece again, behind other pieces and before another rest
abbrev pub PiecesAreRespelled : Type 0
PiecesAreRespelled = (p : Piece) (before after : List Piece) (spelling rest other : List ℕ)
    → Begins before p (spelling ++ rest) rest → KeepsContext p before after → MayStandBefore p other
    → Begins after p (spelling ++ other) other

-- a comment without blanks at its end is a comment, where its line ends there
abbrev pub TrimmedCommentsStay : Type 0
TrimmedCommentsStay = (before after : List Piece) (spelling kept blanks rest other : List ℕ)
    → spelling ≡ kept ++ blanks → AllByRecursion IsBlank blanks → Begins before Comment (spelling ++ rest) rest
    → EndsLine other → Begins after Comment (kept ++ other) other

-- how the spelling of a piece begins
abbrev pub StartsPiece : Piece → ℕ → Type 0
StartsPiece Blank b = IsBlank b
StartsPiece Newline b = b ≡ 10
StartsPiece p b = (¬ IsBlank b) × (b ≢ 10)

-- no spelling is empty; only that of blanks begins with a blank, and only a newline's with a newline
abbrev pub SpellingsBegin : Type 0
SpellingsBegin = (p : Piece) (before : List Piece) (spelling rest : List ℕ) → Begins before p (spelling ++ rest) rest
    → BeginsInside (StartsPiece p) spelling

-- the spelling begins with `=` or `|`, with which a sign before it may go on
abbrev pub lengthens : Piece → Bool
lengthens Bar = true
lengthens (Word token.Assign) = true
lengthens (Word token.MergeAssign) = true
lengthens (Word token.Or) = true
lengthens (Word token.Equal) = true
lengthens p = false

-- no other spelling begins so
abbrev pub SignsAreApart : Type 0
SignsAreApart = (p : Piece) (before : List Piece) (spelling rest : List ℕ) → Begins before p (spelling ++ rest) rest
    → lengthens p ≡ false → BeginsInside (λ b. (b ≢ 61) × (b ≢ 124)) spelling

-- what is known of pieces that are written again
pub record RespellingLaws : Type 0 where
  pub pieces : PiecesAreRespelled
  pub comments : TrimmedCommentsStay
  pub spellings : SpellingsBegin
  pub signs : SignsAreApart
