-- The pieces that a text is cut into: blanks, comments, newlines and tokens. What `{` and `|` are
-- is told by the tokens around them.
use Rattle.std.specs.Prelude.{◌≡◌, ◌≢◌, ℕ, ◌<◌, List, ◌∷◌, length}
use Rattle.vrl_token.specs.declared.piece.Piece.{Piece}
use Rattle.vrl_token.specs.declared.piece.Piece.TheVariants.{Blank, Comment, Newline, Brace, Bar, Word}
use Rattle.vrl_token.specs.Lexical.{IsBlank, IsLongestRun}
use Rattle.vrl_token.specs.Words.{BeginsWithToken, BeginsWithout}

-- blanks, at least one and as many as can be
pub record IsGap (text rest : List ℕ) : Type 0 where
  pub gap : List ℕ
  pub some : 0 < length gap
  pub run : IsLongestRun IsBlank text gap rest

-- `#` and all that stands before the newline, or before the end
pub record IsRemark (text rest : List ℕ) : Type 0 where
  pub behind : List ℕ
  pub remark : List ℕ
  pub parts : text ≡ 35 ∷ behind
  pub run : IsLongestRun (λ b. b ≢ 10) behind remark rest

-- the text is this piece behind the pieces before it, and a rest
abbrev pub Begins : List Piece → Piece → List ℕ → List ℕ → Type 0
Begins before Blank text rest = IsGap text rest
Begins before Comment text rest = IsRemark text rest
Begins before Newline text rest = text ≡ 10 ∷ rest
Begins before Brace text rest = text ≡ 123 ∷ rest
Begins before Bar text rest = (text ≡ 124 ∷ rest) × BeginsWithout 61 rest × BeginsWithout 124 rest
Begins before (Word token) text rest = BeginsWithToken before token text rest
