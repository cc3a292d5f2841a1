-- A word that is told by the tokens before it is one of a few pieces with their tokens.
use Rattle.std.proofs.Common.{◌≡◌, refl, ℕ, suc, sym, ap, subst, Bool, true, false, ◌&&◌, not, if◌then◌else◌, List, ◌∷◌, true≢false}
use Rattle.std.specs.List.{list_any}
use Rattle.vrl_token.specs.declared.piece.Piece.{Piece}
use Rattle.vrl_token.specs.declared.piece.Piece.TheVariants.{Blank, Comment, Newline, Brace, Bar, Word}
use Rattle.vrl_token.specs.declared.token.Token.{Token}
use Rattle.vrl_token.specs.declared.token.Token.TheVariants as token
use Rattle.vrl_token.specs.Context.{regexes_before}
use Rattle.vrl_token.specs.Brackets.{arrow_before, block_follows, is_bars, open_behind}
use Rattle.vrl_format.proofs.Joining.{fits, is_wanted, may_follow}
use Rattle.vrl_format.proofs.Elements.{Element, IsTold, object_follows, with_regex}

pub no_false : {A : Type 0} → false ≡ true → A
no_false wrong = absurd (true≢false (sym wrong))

pub no_true : {A : Type 0} → true ≡ false → A
no_true wrong = absurd (true≢false wrong)

-- what holds of a brace, of a bar and of each other token with its piece holds of a word
pub record Holds (Q : Piece → Token → Type 0) : Type 0 where
  pub object : Q Brace token.OpenObject
  pub block : Q Brace token.OpenBlock
  pub opening : Q Bar token.OpenBars
  pub closing : Q Bar token.CloseBars
  pub merge : Q Bar token.Merge
  pub token : (u : Token) → Q (Word u) u

brace : (Q : Piece → Token → Type 0) → Holds Q → (object : Bool)
    → Q Brace (if object then token.OpenObject else token.OpenBlock)
brace Q holds true = holds.object
brace Q holds false = holds.block

bar : (Q : Piece → Token → Type 0) → Holds Q → (opening closing : Bool)
    → Q Bar (if opening then token.OpenBars else if closing then token.CloseBars else token.Merge)
bar Q holds true closing = holds.opening
bar Q holds false true = holds.closing
bar Q holds false false = holds.merge

pub by_told : (Q : Piece → Token → Type 0) → Holds Q
    → (bare : Bool) (before : List Token) (p : Piece) (t : Token) (es : List Element)
    → IsTold bare before p t es → Q p t
by_told Q holds bare before Brace t es told =
    subst (λ u. Q Brace u) (sym told) (brace Q holds (not (block_follows before) && object_follows es))
by_told Q holds bare before Bar t es told =
    subst (λ u. Q Bar u) (sym told) (bar Q holds (arrow_before before) (list_any is_bars (open_behind before)))
by_told Q holds bare before (Word token.Separator) t es told =
    subst (λ u. Q (Word token.Separator) u) (sym told.0) (holds.token token.Separator)
by_told Q holds bare before (Word u) t es told = subst (λ v. Q (Word u) v) (sym told) (holds.token u)
by_told Q holds bare before Blank t es told = elim told [ ]
by_told Q holds bare before Comment t es told = elim told [ ]
by_told Q holds bare before Newline t es told = elim told [ ]

-- ---- what may follow

both : (x y : Bool) → x && y ≡ true → (x ≡ true) × (y ≡ true)
both true true hold = (refl, refl)
both true false hold = no_false hold
both false y hold = no_false hold

pub fits_here : (before : List Token) (t : Token) → may_follow before t ≡ true → fits before t ≡ true
fits_here before t may = (both (fits before t) (is_wanted before t) may).0

pub wanted_here : (before : List Token) (t : Token) → may_follow before t ≡ true → is_wanted before t ≡ true
wanted_here before t may = (both (fits before t) (is_wanted before t) may).1

-- ---- regex literals

pub token_counts : (pieces : List Piece) (n : ℕ) → regexes_before pieces ≡ n → (u : Token)
    → regexes_before (Word u ∷ pieces) ≡ with_regex (Word u) n
token_counts pieces n are (token.Regex source) = ap suc are
token_counts pieces n are u = are
