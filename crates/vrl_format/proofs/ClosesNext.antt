-- Whether a brace closes next is told by the elements as by the tokens.
use Rattle.std.proofs.Common.{◌≡◌, refl, ap, ℕ, Bool, true, false, ◌&&◌, not, if◌then◌else◌, List, [], ◌∷◌, Option, Some, None}
use Rattle.std.specs.List.{list_any}
use Rattle.vrl_diag.specs.declared.diagnostic.Span.{Span}
use Rattle.vrl_token.specs.declared.piece.Lexeme.{Lexeme}
use Rattle.vrl_token.specs.declared.piece.Piece.{Piece}
use Rattle.vrl_token.specs.declared.piece.Piece.TheVariants.{Blank, Comment, Newline, Brace, Bar, Word}
use Rattle.vrl_token.specs.declared.token.Spanned.{Spanned}
use Rattle.vrl_token.specs.declared.token.Token.{Token}
use Rattle.vrl_token.specs.declared.token.Token.TheVariants as token
use Rattle.vrl_token.specs.Brackets.{arrow_before, bar_token, begins_object, block_follows, brace_token, is_bars, newline_parts, open_behind, tokens_from, with_spanned, with_token}
use Rattle.vrl_token.specs.Division.{kept}
use Rattle.vrl_format.specs.Pieces.{closes_next}
use Rattle.vrl_format.proofs.Cuts.{Cut, placed}
use Rattle.vrl_format.proofs.Elements.{Behind, closes_next_word, element_at, elements, line_element, stop_element}

-- ---- elements behind a piece

abbrev pub at_cuts : ℕ → List Cut → Behind
at_cuts total cs braces bare before = elements total braces bare before cs

abbrev pub parting : Bool → Option Token
parting q = if q then Some token.Separator else None

-- ---- a brace that closes next

abbrev ClosesSame : List Lexeme → Behind → Type 0
ClosesSame ls go =
    (bs : List Bool) (b : Bool) (ts : List Token) → closes_next (tokens_from ts ls) ≡ closes_next_word (go bs b ts)

line_closes : (braces : List Bool) (bare : Bool) (before : List Token) (span : Span) (ls : List Lexeme) (go : Behind)
    → ClosesSame ls go → (q : Bool)
    → closes_next (with_spanned (parting q) span (tokens_from (with_token (parting q) before) ls))
    ≡ closes_next_word (line_element braces bare before go (parting q))
line_closes braces bare before span ls go same true = same braces bare (token.Separator ∷ before)
line_closes braces bare before span ls go same false = same braces bare before

stop_closes : (braces : List Bool) (before : List Token) (x : List ℕ) (span : Span) (ls : List Lexeme) (go : Behind)
    → ClosesSame ls go → (bare : Bool)
    → closes_next (with_spanned (Some token.Separator) span (tokens_from (token.Separator ∷ before) ls))
    ≡ closes_next_word (stop_element braces before x ls go bare)
stop_closes braces before x span ls go same true = same braces false (token.Separator ∷ before)
stop_closes braces before x span ls go same false = same braces false (token.Separator ∷ before)

brace_closes : (span : Span) (ts : List Token → List Spanned) (before : List Token) (object : Bool)
    → (t : Token) → t ≡ (if object then token.OpenObject else token.OpenBlock)
    → closes_next (record { token = t; span = span } ∷ ts (t ∷ before)) ≡ false
brace_closes span ts before true t is = ap (λ u. closes_next (record { token = u; span = span } ∷ ts (u ∷ before))) is
brace_closes span ts before false t is = ap (λ u. closes_next (record { token = u; span = span } ∷ ts (u ∷ before))) is

bar_closes : (span : Span) (ts : List Token → List Spanned) (before : List Token) (opens closes : Bool)
    → (t : Token) → t ≡ (if opens then token.OpenBars else if closes then token.CloseBars else token.Merge)
    → closes_next (record { token = t; span = span } ∷ ts (t ∷ before)) ≡ false
bar_closes span ts before true closes t is =
    ap (λ u. closes_next (record { token = u; span = span } ∷ ts (u ∷ before))) is
bar_closes span ts before false true t is =
    ap (λ u. closes_next (record { token = u; span = span } ∷ ts (u ∷ before))) is
bar_closes span ts before false false t is =
    ap (λ u. closes_next (record { token = u; span = span } ∷ ts (u ∷ before))) is

piece_closes : (braces : List Bool) (bare : Bool) (before : List Token) (x : List ℕ) (span : Span) (ps : List Lexeme)
    (go : Behind)
    → ClosesSame (kept ps) go → (p : Piece)
    → closes_next (tokens_from before (kept (record { piece = p; span = span } ∷ ps)))
    ≡ closes_next_word (element_at braces bare before x (kept ps) go p)
piece_closes braces bare before x span ps go same Blank = same braces bare before
piece_closes braces bare before x span ps go same Comment = same braces bare before
piece_closes braces bare before x span ps go same Newline =
    line_closes braces bare before span (kept ps) go same (newline_parts before (kept ps))
piece_closes braces bare before x span ps go same Brace = brace_closes span (λ ts. tokens_from ts (kept ps)) before
    (not (block_follows before) && begins_object (kept ps)) (brace_token before (kept ps)) refl
piece_closes braces bare before x span ps go same Bar = bar_closes span (λ ts. tokens_from ts (kept ps)) before
    (arrow_before before) (list_any is_bars (open_behind before)) (bar_token before) refl
piece_closes braces bare before x span ps go same (Word token.Separator) =
    stop_closes braces before x span (kept ps) go same bare
piece_closes braces bare before x span ps go same (Word t) = refl

pub closes_same : (total : ℕ) (braces : List Bool) (bare : Bool) (before : List Token) (cs : List Cut)
    → closes_next (tokens_from before (kept (placed total cs)))
    ≡ closes_next_word (elements total braces bare before cs)
closes_same total braces bare before [] = refl
closes_same total braces bare before (c ∷ cs) = piece_closes braces bare before c.spelling _ (placed total cs)
    (at_cuts total cs) (λ bs b ts. closes_same total bs b ts cs) c.piece
