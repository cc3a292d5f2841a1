-- Where tokens stand: the pieces of a text stand in order, and tokens where their pieces do.
use Rattle.std.proofs.Common.{◌≡◌, ℕ, ◌-◌, ◌<◌, ◌≤◌, true, false, if◌then◌else◌, Option, Some, None, All, IsCharBoundary, IsUtf8, List, [], ◌∷◌, ◌++◌, length, length-append, map, sym, ap, ◌∙◌, subst, arith}
use Rattle.std.specs.List.{AllByRecursion}
use Rattle.std.proofs.lemmas.List.Elements.{All-from_recursion}
use Rattle.std.proofs.lemmas.Str.{IsCharBoundary-at_seam}
use Rattle.vrl_diag.specs.declared.diagnostic.Span.{Span}
use Rattle.vrl_token.specs.declared.piece.Piece.{Piece}
use Rattle.vrl_token.specs.declared.piece.Lexeme.{Lexeme}
use Rattle.vrl_token.specs.declared.token.Spanned.{Spanned}
use Rattle.vrl_token.specs.declared.token.Token.{Token}
use Rattle.vrl_token.specs.Brackets.{tokens_from, token_of, with_spanned, with_token}
use Rattle.vrl_token.specs.Division.{Leads, is_kept, kept, span_between}
use Rattle.vrl_token.specs.Placing.{InOrderFrom, IsOnCharacters, spans_of}
use Rattle.vrl_token.specs.Reading.{HasTokens}
use Rattle.vrl_token.proofs.Ends.{EndsWith, is_shorter}
use Rattle.vrl_token.proofs.Quotes.{all-append}
use Rattle.vrl_token.proofs.Taking.{piece_takes}

abbrev pieces_at : List Lexeme → List Span
pieces_at ps = map (λ p. p.span) ps

-- what stands in order from a place does from each place before it
from_before : (a b stop : ℕ) (ss : List Span) → a ≤ b → InOrderFrom b stop ss → InOrderFrom a stop ss
from_before a b stop [] less is = omega arith
from_before a b stop (s ∷ ss) less is = (let first = is.0 in omega arith, is.1, is.2)

led_in_order : (total : ℕ) (before : List Piece) (text : List ℕ) (ps : List Lexeme) (rest : List ℕ) (start stop : ℕ) → start ≡ total - length text → stop ≡ total - length rest → length text ≤ total → Leads total before text ps rest
    → InOrderFrom start stop (pieces_at ps)
led_in_order total before text [] rest start stop starts stops within leads = let same = ap length leads in omega arith
led_in_order total before text (p ∷ ps) rest start stop starts stops within leads =
    let shorter : length leads.0 < length text = is_shorter (piece_takes before p.piece text leads.0 leads.1) in
    let from : p.span.start ≡ total - length text = ap (λ s. s.start) leads.2 in
    let to : p.span.«end» ≡ total - length leads.0 = ap (λ s. s.«end») leads.2 in
    let within_next : length leads.0 ≤ total = omega arith in
    (omega arith, omega arith, led_in_order total (p.piece ∷ before) leads.0 ps rest p.span.«end» stop to stops within_next leads.3)

kept_in_order : (start stop : ℕ) (ps : List Lexeme) → InOrderFrom start stop (pieces_at ps) → InOrderFrom start stop (pieces_at (kept ps))
kept_in_order start stop [] is = is
kept_in_order start stop (p ∷ ps) is =
    let more = kept_in_order p.span.«end» stop ps is.2 in
    let first = is.0 in
    let some = is.1 in
    elim (is_kept p) as (λ b. InOrderFrom start stop (pieces_at (if b then p ∷ kept ps else kept ps))) [
      | true ↦ (first, some, more)
      | false ↦ from_before start p.span.«end» stop (pieces_at (kept ps)) (omega arith) more
    ]

with_in_order : (o : Option Token) (s : Span) (start stop : ℕ) (ts : List Spanned) → start ≤ s.start → s.start < s.«end» → InOrderFrom s.«end» stop (spans_of ts) → InOrderFrom start stop (spans_of (with_spanned o s ts))
with_in_order None s start stop ts first some more = from_before start s.«end» stop (spans_of ts) (omega arith) more
with_in_order (Some t) s start stop ts first some more = (first, some, more)

told_in_order : (start stop : ℕ) (before : List Token) (ps : List Lexeme) → InOrderFrom start stop (pieces_at ps) → InOrderFrom start stop (spans_of (tokens_from before ps))
told_in_order start stop before [] is = is
told_in_order start stop before (p ∷ ps) is =
    let token = token_of before p.piece ps in
    with_in_order token p.span start stop (tokens_from (with_token token before) ps) is.0 is.1 (told_in_order p.span.«end» stop (with_token token before) ps is.2)

-- the tokens of a text stand in it in order
pub tokens_in_order : (text : List ℕ) (tokens : List Spanned) → HasTokens text tokens → InOrderFrom 0 (length text) (spans_of tokens)
tokens_in_order text tokens has =
    let pieces = led_in_order (length text) [] text has.pieces [] 0 (length text) (omega arith) (omega arith) (omega arith) has.division in
    subst (λ ts. InOrderFrom 0 (length text) (spans_of ts)) (sym has.tells) (told_in_order 0 (length text) [] (kept has.pieces) (kept_in_order 0 (length text) has.pieces pieces))

-- ---- characters

abbrev pub AreOnCharacters : List ℕ → List Lexeme → Type 0
AreOnCharacters text ps = AllByRecursion (λ p. IsOnCharacters text p.span) ps

-- a character of a text begins where its end does
boundary : {text rest : List ℕ} (n : ℕ) → EndsWith text rest → IsUtf8 rest → n ≡ length text - length rest → IsCharBoundary text n
boundary {text} {rest} n ends utf8 is =
    let size = ap length ends.parts ∙ length-append ends.front rest in
    let front : length ends.front ≡ n = omega arith in
    subst (IsCharBoundary text) front (IsCharBoundary-at_seam text ends.front rest ends.parts utf8)

-- one more piece, between two ends of the text
pub kept_on_characters : {text rest next : List ℕ} (found : List Lexeme) {more : List Lexeme} (p : Lexeme) → AreOnCharacters text found → EndsWith text rest → EndsWith text next → IsUtf8 rest → IsUtf8 next → p.span ≡ span_between (length text) rest next
    → more ≡ found ++ kept (p ∷ []) → AreOnCharacters text more
kept_on_characters {text} {rest} {next} found {more} p so_far starts ends utf8 utf8_next span keeps =
    let on : IsOnCharacters text p.span = (boundary p.span.start starts utf8 (ap (λ s. s.start) span), boundary p.span.«end» ends utf8_next (ap (λ s. s.«end») span)) in
    let one : AreOnCharacters text (kept (p ∷ [])) = elim (is_kept p) as (λ b. AreOnCharacters text (if b then p ∷ [] else [])) [ true ↦ (on, tt) | false ↦ tt ] in
    subst (AreOnCharacters text) (sym keeps) (all-append (λ l. IsOnCharacters text l.span) found (kept (p ∷ [])) so_far one)

with_on_characters : (text : List ℕ) (o : Option Token) (s : Span) (ts : List Spanned) → IsOnCharacters text s → AllByRecursion (λ t. IsOnCharacters text t.span) ts → AllByRecursion (λ t. IsOnCharacters text t.span) (with_spanned o s ts)
with_on_characters text None s ts on more = more
with_on_characters text (Some t) s ts on more = (on, more)

told_on_characters : (text : List ℕ) (before : List Token) (ps : List Lexeme) → AreOnCharacters text ps → AllByRecursion (λ t. IsOnCharacters text t.span) (tokens_from before ps)
told_on_characters text before [] on = tt
told_on_characters text before (p ∷ ps) on =
    let token = token_of before p.piece ps in
    with_on_characters text token p.span (tokens_from (with_token token before) ps) on.0 (told_on_characters text (with_token token before) ps on.1)

-- tokens stand on characters where their pieces do
pub tokens_on_characters : (text : List ℕ) (tokens : List Spanned) (ps : List Lexeme) → tokens ≡ tokens_from [] ps → AreOnCharacters text ps → All (λ t. IsOnCharacters text t.span) tokens
tokens_on_characters text tokens ps tells on = All-from_recursion (λ t. IsOnCharacters text t.span) tokens (subst (AllByRecursion (λ t. IsOnCharacters text t.span)) (sym tells) (told_on_characters text [] ps on))
