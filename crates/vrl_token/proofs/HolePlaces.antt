-- The variables of a text stand in its span: they stand between its quotes, one behind another.
use Rattle.std.proofs.Common.{◌≡◌, ℕ, ◌+◌, ◌-◌, ◌<◌, ◌≤◌, Bool, true, false, if◌then◌else◌, IfSome, Option, Some, None, List, [], ◌∷◌, ◌++◌, length, length-append, sym, ap, ◌∙◌, subst, arith}
use Rattle.std.specs.List.{AllByRecursion}
use Rattle.vrl_diag.specs.declared.diagnostic.Span.{Span}
use Rattle.vrl_token.specs.declared.piece.Lexeme.{Lexeme}
use Rattle.vrl_token.specs.declared.piece.Piece.{Piece}
use Rattle.vrl_token.specs.declared.piece.Piece.TheVariants.{Blank, Comment, Newline, Brace, Bar, Word}
use Rattle.vrl_token.specs.declared.token.Hole.{Hole}
use Rattle.vrl_token.specs.declared.token.Spanned.{Spanned}
use Rattle.vrl_token.specs.declared.token.Token.{Token}
use Rattle.vrl_token.specs.declared.token.Token.TheVariants as token
use Rattle.vrl_token.specs.Brackets.{arrow_before, begins_object, block_follows, is_bars, newline_parts, open_behind, token_of, tokens_from, with_spanned, with_token}
use Rattle.vrl_token.specs.Characters.{Character, plain, escaped, plains, spelling_of}
use Rattle.vrl_token.specs.Division.{Leads, is_kept, kept, span_between}
use Rattle.vrl_token.specs.Lexical.{IsName}
use Rattle.vrl_token.specs.Pieces.{Begins}
use Rattle.vrl_token.specs.Placing.{HolesFit, HolesStand}
use Rattle.vrl_token.specs.Reading.{HasTokens}
use Rattle.vrl_token.specs.Templates.{IsParted}
use Rattle.vrl_token.specs.Words.{BeginsWithToken}
use Rattle.vrl_token.proofs.Ends.{is_shorter}
use Rattle.vrl_token.proofs.Taking.{piece_takes}

-- ---- sizes of spellings

abbrev size : List Character → ℕ
size characters = length (spelling_of characters)

size_both : (cs ds : List Character) → size (cs ++ ds) ≡ size cs + size ds
size_both [] ds = omega arith
size_both (plain b ∷ cs) ds = let more = size_both cs ds in omega (arith, more)
size_both (escaped b ∷ cs) ds = let more = size_both cs ds in omega (arith, more)

size_plains : (bs : List ℕ) → size (plains bs) ≡ length bs
size_plains [] = omega arith
size_plains (b ∷ bs) = let more = size_plains bs in omega (arith, more)

-- ---- the variables between two quotes

-- what stands in the last bytes stands in more of them
fit_in_more : (n m : ℕ) (holes : List Hole) → n ≤ m → HolesFit n holes → HolesFit m holes
fit_in_more n m [] less fit = let some : 0 < n = fit in omega (arith, less, some)
fit_in_more n m (h ∷ holes) less fit = (let first = fit.0 in omega (arith, less, first), fit.1, fit.2, fit.3)

name_some : (name : List ℕ) → IsName name → 0 < length name
name_some [] is = absurd is
name_some (b ∷ bs) is = omega arith

-- the closing quote is the last byte
parted_fit : (characters : List Character) (first : List ℕ) (holes : List Hole) → IsParted characters first holes → HolesFit (size characters + 1) holes
parted_fit characters first [] parted = omega arith
parted_fit characters first (h ∷ holes) parted =
    let before : List Character = parted.0 in
    let inside : List Character = parted.1 in
    let behind : List Character = parted.2 in
    let opens = parted.3 in
    let hole = parted.4 in
    let outer = ap size opens.parts ∙ size_both before (plain 123 ∷ plain 123 ∷ inside) in
    let inner = ap size hole.parts ∙ size_both (plains hole.lead) hole.named in
    let named = ap size hole.goes_on ∙ size_both (plains h.name) (plains hole.trail ++ plain 125 ∷ plain 125 ∷ behind) in
    let closed = size_both (plains hole.trail) (plain 125 ∷ plain 125 ∷ behind) in
    let lead = size_plains hole.lead in
    let name = size_plains h.name in
    let trail = size_plains hole.trail in
    let is_at = hole.at in (
      omega (arith, outer, inner, lead, is_at),
      name_some h.name hole.is_name,
      omega (arith, is_at, named, name),
      fit_in_more (size behind + 1) (h.distance - length h.name) holes (omega (arith, is_at, named, name, closed, trail)) (parted_fit behind h.behind holes parted.6),
    )

token_fits : (before : List Piece) (t : Token) (text rest : List ℕ) (s : Span) (total : ℕ) → BeginsWithToken before t text rest → s ≡ span_between total text rest → length text ≤ total → HolesStand t s
token_fits before (token.Template first holes) text rest s total is at within =
    let opening = ap length is.1.parts in
    let quoted = ap length is.1.is_quoted.parts ∙ length-append (spelling_of is.0) (34 ∷ rest) in
    let from = ap (λ p. p.start) at in
    let to = ap (λ p. p.«end») at in
    fit_in_more (size is.0 + 1) (s.«end» - s.start) holes (omega (arith, opening, quoted, from, to, within)) (parted_fit is.0 first holes is.3)
token_fits before t text rest s total is at within = tt

-- ---- pieces

abbrev PieceFits : Piece → Span → Type 0
PieceFits (Word t) s = HolesStand t s
PieceFits _ s = Unit {0}

abbrev AllFit : List Lexeme → Type 0
AllFit ps = AllByRecursion (λ p. PieceFits p.piece p.span) ps

piece_fits : (before : List Piece) (p : Piece) (text rest : List ℕ) (s : Span) (total : ℕ) → Begins before p text rest → s ≡ span_between total text rest → length text ≤ total → PieceFits p s
piece_fits before (Word t) text rest s total is at within = token_fits before t text rest s total is at within
piece_fits before p text rest s total is at within = tt

led_fit : (total : ℕ) (before : List Piece) (text : List ℕ) (ps : List Lexeme) (rest : List ℕ) → length text ≤ total → Leads total before text ps rest → AllFit ps
led_fit total before text [] rest within leads = tt
led_fit total before text (p ∷ ps) rest within leads =
    let shorter : length leads.0 < length text = is_shorter (piece_takes before p.piece text leads.0 leads.1) in
    (piece_fits before p.piece text leads.0 p.span total leads.1 leads.2 within, led_fit total (p.piece ∷ before) leads.0 ps rest (omega (arith, shorter, within)) leads.3)

kept_fit : (ps : List Lexeme) → AllFit ps → AllFit (kept ps)
kept_fit [] fit = fit
kept_fit (p ∷ ps) fit =
    let first = fit.0 in
    let more = kept_fit ps fit.1 in
    elim (is_kept p) as (λ b. AllFit (if b then p ∷ kept ps else kept ps)) [ true ↦ (first, more) | false ↦ more ]

-- ---- tokens

abbrev TokenFits : Spanned → Type 0
TokenFits t = HolesStand t.token t.span

separator_fits : (parts : Bool) (s : Span) → IfSome (if parts then Some token.Separator else None) (λ t. HolesStand t s)
separator_fits true s = tt
separator_fits false s = tt

brace_fits : (object : Bool) (s : Span) → HolesStand (if object then token.OpenObject else token.OpenBlock) s
brace_fits true s = tt
brace_fits false s = tt

bar_fits : (arrow bars : Bool) (s : Span) → HolesStand (if arrow then token.OpenBars else if bars then token.CloseBars else token.Merge) s
bar_fits true bars s = tt
bar_fits false true s = tt
bar_fits false false s = tt

told_fits : (before : List Token) (p : Piece) (behind : List Lexeme) (s : Span) → PieceFits p s → IfSome (token_of before p behind) (λ t. HolesStand t s)
told_fits before Blank behind s fit = tt
told_fits before Comment behind s fit = tt
told_fits before Newline behind s fit = separator_fits (newline_parts before behind) s
told_fits before Brace behind s fit = brace_fits _ s
told_fits before Bar behind s fit = bar_fits _ _ s
told_fits before (Word t) behind s fit = fit

spanned_fit : (o : Option Token) (s : Span) (ts : List Spanned) → IfSome o (λ t. HolesStand t s) → AllByRecursion TokenFits ts → AllByRecursion TokenFits (with_spanned o s ts)
spanned_fit None s ts fit more = more
spanned_fit (Some t) s ts fit more = (fit, more)

tokens_fit : (before : List Token) (ps : List Lexeme) → AllFit ps → AllByRecursion TokenFits (tokens_from before ps)
tokens_fit before [] fit = tt
tokens_fit before (p ∷ ps) fit =
    let t : Option Token = token_of before p.piece ps in
    spanned_fit t p.span (tokens_from (with_token t before) ps) (told_fits before p.piece ps p.span fit.0) (tokens_fit (with_token t before) ps fit.1)

-- the variables of each text among the tokens of a text
pub holes_stand : (text : List ℕ) (tokens : List Spanned) → HasTokens text tokens → AllByRecursion (λ t. HolesStand t.token t.span) tokens
holes_stand text tokens has =
    subst (AllByRecursion TokenFits) (sym has.tells) (tokens_fit [] (kept has.pieces) (kept_fit has.pieces (led_fit (length text) [] text has.pieces [] (omega arith) has.division)))
