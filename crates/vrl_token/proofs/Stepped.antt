-- Paths behind a name or an operand have a step, since their spelling has a segment.
use Rattle.std.proofs.Common.{ℕ, ◌<◌, ◌&&◌, not, Bool, true, false, if◌then◌else◌, Option, Some, None, All, List, [], ◌∷◌, length, sym, subst, arith}
use Rattle.std.specs.List.{AllByRecursion, list_any}
use Rattle.std.proofs.lemmas.List.Elements.{All-from_recursion}
use Rattle.vrl_diag.specs.declared.diagnostic.Span.{Span}
use Rattle.vrl_path.specs.declared.path.Step.{Step}
use Rattle.vrl_token.specs.declared.piece.Piece.{Piece}
use Rattle.vrl_token.specs.declared.piece.Piece.TheVariants.{Blank, Comment, Newline, Brace, Bar, Word}
use Rattle.vrl_token.specs.declared.piece.Lexeme.{Lexeme}
use Rattle.vrl_token.specs.declared.token.Spanned.{Spanned}
use Rattle.vrl_token.specs.declared.token.Token.{Token}
use Rattle.vrl_token.specs.declared.token.Token.TheVariants as token
use Rattle.vrl_token.specs.Brackets.{begins_object, arrow_before, block_follows, is_bars, newline_parts, open_behind, tokens_from, token_of, with_spanned, with_token}
use Rattle.vrl_token.specs.Division.{Leads, is_kept, kept}
use Rattle.vrl_token.specs.Paths.{HasSteps, Segment}
use Rattle.vrl_token.specs.Pieces.{Begins}
use Rattle.vrl_token.specs.Placing.{HasStep}
use Rattle.vrl_token.specs.Reading.{HasTokens}
use Rattle.vrl_token.specs.Words.{BeginsWithToken, IsNonempty}

abbrev PieceHasStep : Piece → Type 0
PieceHasStep (Word t) = HasStep t
PieceHasStep _ = Unit {0}

abbrev HaveSteps : List Lexeme → Type 0
HaveSteps ps = AllByRecursion (λ p. PieceHasStep p.piece) ps

some_step : (ss : List Segment) (steps : List Step) → IsNonempty ss → HasSteps ss steps → 0 < length steps
some_step [] steps some has = absurd some
some_step (s ∷ ss) steps some has = rw has.gives (omega arith)

token_has_step : (before : List Piece) (t : Token) (text rest : List ℕ) → BeginsWithToken before t text rest → HasStep t
token_has_step before (token.NamePath name path) text rest is = some_step is.1 path is.4 is.5
token_has_step before (token.Suffix path) text rest is = some_step is.0 path is.3 is.4
token_has_step before _ text rest is = tt

begun_has_step : (before : List Piece) (p : Piece) (text rest : List ℕ) → Begins before p text rest → PieceHasStep p
begun_has_step before (Word t) text rest is = token_has_step before t text rest is
begun_has_step before _ text rest is = tt

led_have_steps : (total : ℕ) (before : List Piece) (text : List ℕ) (ps : List Lexeme) (rest : List ℕ) → Leads total before text ps rest → HaveSteps ps
led_have_steps total before text [] rest leads = tt
led_have_steps total before text (p ∷ ps) rest leads = (begun_has_step before p.piece text leads.0 leads.1, led_have_steps total (p.piece ∷ before) leads.0 ps rest leads.3)

kept_have_steps : (ps : List Lexeme) → HaveSteps ps → HaveSteps (kept ps)
kept_have_steps [] is = tt
kept_have_steps (p ∷ ps) is =
    let first = is.0 in
    let more = kept_have_steps ps is.1 in
    elim (is_kept p) as (λ b. HaveSteps (if b then p ∷ kept ps else kept ps)) [ true ↦ (first, more) | false ↦ more ]

-- ---- tokens of pieces

abbrev OnToken : Option Token → Type 0
OnToken None = Unit {0}
OnToken (Some t) = HasStep t

brace_has_step : (object : Bool) → HasStep (if object then token.OpenObject else token.OpenBlock)
brace_has_step true = tt
brace_has_step false = tt

bar_has_step : (opens closes : Bool) → HasStep (if opens then token.OpenBars else if closes then token.CloseBars else token.Merge)
bar_has_step true closes = tt
bar_has_step false true = tt
bar_has_step false false = tt

newline_has_step : (parts : Bool) → OnToken (if parts then Some token.Separator else None)
newline_has_step true = tt
newline_has_step false = tt

told_token_has_step : (before : List Token) (p : Piece) (behind : List Lexeme) → PieceHasStep p → OnToken (token_of before p behind)
told_token_has_step before Blank behind is = tt
told_token_has_step before Comment behind is = tt
told_token_has_step before Newline behind is = newline_has_step (newline_parts before behind)
told_token_has_step before Brace behind is = brace_has_step (not (block_follows before) && begins_object behind)
told_token_has_step before Bar behind is = bar_has_step (arrow_before before) (list_any is_bars (open_behind before))
told_token_has_step before (Word t) behind is = is

with_steps : (o : Option Token) (s : Span) (ts : List Spanned) → OnToken o → AllByRecursion (λ t. HasStep t.token) ts → AllByRecursion (λ t. HasStep t.token) (with_spanned o s ts)
with_steps None s ts is more = more
with_steps (Some t) s ts is more = (is, more)

told_have_steps : (before : List Token) (ps : List Lexeme) → HaveSteps ps → AllByRecursion (λ t. HasStep t.token) (tokens_from before ps)
told_have_steps before [] is = tt
told_have_steps before (p ∷ ps) is =
    let token = token_of before p.piece ps in
    with_steps token p.span (tokens_from (with_token token before) ps) (told_token_has_step before p.piece ps is.0) (told_have_steps (with_token token before) ps is.1)

-- each path of the tokens of a text behind a name or an operand has a step
pub tokens_have_steps : (text : List ℕ) (tokens : List Spanned) → HasTokens text tokens → All (λ t. HasStep t.token) tokens
tokens_have_steps text tokens has =
    let pieces = kept_have_steps has.pieces (led_have_steps (length text) [] text has.pieces [] has.division) in
    All-from_recursion (λ t. HasStep t.token) tokens (subst (AllByRecursion (λ t. HasStep t.token)) (sym has.tells) (told_have_steps [] (kept has.pieces) pieces))
