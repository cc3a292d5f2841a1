-- Words of the code for cutting off one piece; the pieces are those of `Pieces`, and the faults
-- those of `Faults`.
use Rattle.std.specs.Prelude.{◌≡◌, ◌≢◌, ℕ, ◌-◌, ◌<◌, ◌⊎◌, true, List, ◌∷◌, length, codes, Option, MatchOption}
use denote.Ref.{Bor}
use Rattle.vrl_token.specs.declared.context.Context.{Context}
use Rattle.vrl_token.specs.declared.cut.Cut.{Cut}
use Rattle.vrl_token.specs.declared.cut.Cut.TheVariants as cut
use Rattle.vrl_token.specs.declared.piece.Piece.{Piece}
use Rattle.vrl_token.specs.declared.piece.Piece.TheVariants.{Word}
use Rattle.vrl_token.specs.declared.token.Token.{Token}
use Rattle.vrl_token.specs.declared.token.Token.TheVariants as token
use Rattle.vrl_token.specs.Context.{closes_before, operand_before, regexes_before}
use Rattle.vrl_token.specs.Faults.{IsContinuation, IsFault}
use Rattle.vrl_token.specs.Lexical.{BeginsOutside, IsBlank, IsDigit, IsLongestRun, IsNameStart}
use Rattle.vrl_token.specs.Pieces.{Begins}
use Rattle.vrl_token.specs.Words.{BeginsWithout}

-- at the start of the text a spelling is at fault, and so many bytes stand behind it
pub record FaultsBefore (before : List Piece) (text : List ℕ) (code left : ℕ) : Type 0 where
  pub rest : List ℕ
  pub is_fault : IsFault before text code rest
  pub length_is : left ≡ length rest

-- the piece that a text begins with, or what is wrong there
abbrev pub IsCutOf : List Piece → List ℕ → Cut → Type 0
IsCutOf before text (cut.Piece piece rest) = Begins before piece text rest.now
IsCutOf before text (cut.Fault code left) = FaultsBefore before text code left

-- the cut is the token before a rest, or where something is wrong with its path the fault
abbrev pub IsPathCut : Token → Option ℕ → Bor (List ℕ) → Cut → Type 0
IsPathCut t fault rest c =
    MatchOption fault (c ≡ cut.Piece (Word t) rest) (λ code. c ≡ cut.Fault code (length rest.now))

-- what the pieces before a place say
pub record IsContext (before : List Piece) (context : Context) : Type 0 where
  pub operand : context.operand ≡ operand_before before
  pub closes : context.closes ≡ closes_before before
  pub regexes : context.regexes_left ≡ 256 - regexes_before before

-- the token is the keyword that is spelled so
abbrev pub IsKeyword : List ℕ → Token → Type 0
IsKeyword name token.True = name ≡ codes "true"
IsKeyword name token.False = name ≡ codes "false"
IsKeyword name token.Null = name ≡ codes "null"
IsKeyword name token.If = name ≡ codes "if"
IsKeyword name token.Else = name ≡ codes "else"
IsKeyword name token.Abort = name ≡ codes "abort"
IsKeyword name token.Return = name ≡ codes "return"
IsKeyword name _ = ⊥

-- behind its first byte a sign goes on with `=`, or it doesn't
abbrev pub IsEqualsCut : List ℕ → Token → Token → Cut → Type 0
IsEqualsCut rest alone joined (cut.Piece (Word t) behind) =
    ((t ≡ joined) × (rest ≡ 61 ∷ behind.now)) ⊎ ((t ≡ alone) × (rest ≡ behind.now) × BeginsWithout 61 rest)
IsEqualsCut rest alone joined _ = ⊥

-- the sign of one character that the byte is, with which no other sign begins
abbrev pub IsSingle : ℕ → Token → Type 0
IsSingle b token.Plus = b ≡ 43
IsSingle b token.Times = b ≡ 42
IsSingle b token.OpenParenthesis = b ≡ 40
IsSingle b token.CloseParenthesis = b ≡ 41
IsSingle b token.CloseBracket = b ≡ 93
IsSingle b token.CloseBrace = b ≡ 125
IsSingle b token.Comma = b ≡ 44
IsSingle b token.Colon = b ≡ 58
IsSingle b token.Separator = b ≡ 59
IsSingle b _ = ⊥

-- a minus at the place is an operator: an operand ends before it, or no digit follows
abbrev pub MayBeMinus : List Piece → List ℕ → Type 0
MayBeMinus before behind = (operand_before before ≡ true) ⊎ BeginsOutside IsDigit behind

-- so many bytes stand behind a character whose first byte stands before the text
pub record LeavesBehind (text : List ℕ) (left : ℕ) : Type 0 where
  pub others : List ℕ
  pub rest : List ℕ
  pub run : IsLongestRun IsContinuation text others rest
  pub length_is : left ≡ length rest

-- a byte with which a sign begins, or none: no blank, newline, comment, literal, name, path or
-- square bracket does
abbrev pub IsNoOther : ℕ → Type 0
IsNoOther b =
    (b < 128) × ¬ IsBlank b × ¬ IsDigit b × ¬ IsNameStart b × (b ≢ 10) × (b ≢ 35) × (b ≢ 34) × (b ≢ 46) × (b ≢ 91)
    × (b ≢ 37)
