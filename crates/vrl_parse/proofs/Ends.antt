-- What the script's program says of all tokens.
use Rattle.std.proofs.Common.{◌≡◌, ℕ, List, [], ◌∷◌, Option, Some, None, MatchOption, refl, sym, ap, ◌∙◌, subst}
use Rattle.vrl_diag.specs.declared.diagnostic.Diagnostic.{Diagnostic}
use Rattle.vrl_diag.specs.declared.diagnostic.Span.{Span}
use Rattle.vrl_syntax.specs.Limits.{exprs_faults, KeepsLimits}
use Rattle.vrl_syntax.specs.Tree.{Exprs, Script}
use Rattle.vrl_token.specs.TokenList.{TokenList}
use Rattle.vrl_token.specs.declared.token.Spanned.{Spanned}
use Rattle.vrl_token.specs.OnFault.{OnFault}
use Rattle.vrl_token.specs.declared.fault.SyntaxFault.{SyntaxFault}
use Rattle.vrl_token.specs.declared.fault.SyntaxFault.TheVariants.{Fault, Memory}
use Rattle.vrl_word.specs.Words.{Word, words_from}
use Rattle.vrl_parse.specs.declared.stop.Stop.{Stop}
use Rattle.vrl_parse.specs.declared.stop.Stop.TheVariants as stop
use Rattle.vrl_parse.specs.Descent.{at_end, refused, RuleRefuses, RuleTakes, script, Sees, took}
use Rattle.vrl_parse.specs.FirstWords.{fault_of, OnRefusal, place_at}
use Rattle.vrl_parse.specs.Reading.{IsScriptFault, no_script, path_fault, Reads, sources_of}
use Rattle.vrl_parse.proofs.Places.{error_place}
use Rattle.vrl_parse.proofs.Scripts.{read_whole, unread_refusal, unread_rest}

pub read_all : (ts : List Spanned) (s : Script) (ws : List Word) → Sees at_end ws → RuleTakes script (words_from 0 ts) s.items ws → s.patterns ≡ sources_of ts → Reads ts s
read_all ts s [] end run patterns = read_whole ts s run patterns
read_all ts s (w ∷ ws) end run patterns = absurd end

pub unread : (ts : List Spanned) (es : Exprs) (ws : List Word) → ¬ Sees at_end ws → RuleTakes script (words_from 0 ts) es ws → (s : Script) → ¬ Reads ts s
unread ts es [] more run s = λ _. more tt
unread ts es (w ∷ ws) more run s = unread_rest ts es w ws run s

-- what is told where the program stopped at a place
refusal_fault : (tokens : TokenList) (f : Stop) (vs : List Word) → OnRefusal (RuleRefuses script (words_from 0 tokens.tokens) vs) f → OnFault (IsScriptFault tokens) (fault_of f (place_at vs tokens.«end»))
refusal_fault tokens stop.Refused vs run = no_script refl (unread_refusal tokens.tokens vs run) (error_place tokens (refused vs) run)
refusal_fault tokens stop.Memory vs run = tt

fault_is : (f : Stop) (vs : List Word) {ends last : ℕ} {span : Span} {told : SyntaxFault} → ends ≡ last → span ≡ place_at vs ends → told ≡ fault_of f span → told ≡ fault_of f (place_at vs last)
fault_is f vs same place is = is ∙ ap (fault_of f) (place ∙ ap (place_at vs) same)

pub refusal_told : (tokens : TokenList) (f : Stop) (vs : List Word) {ends : ℕ} {span : Span} {told : SyntaxFault} → ends ≡ tokens.«end» → span ≡ place_at vs ends → told ≡ fault_of f span
    → OnRefusal (RuleRefuses script (words_from 0 tokens.tokens) vs) f → OnFault (IsScriptFault tokens) told
refusal_told tokens f vs same place is run = subst (OnFault (IsScriptFault tokens)) (sym (fault_is f vs same place is)) (refusal_fault tokens f vs run)

pub rest_told : (tokens : TokenList) (es : Exprs) (vs : List Word) {ends : ℕ} {span : Span} {told : SyntaxFault} → ends ≡ tokens.«end» → span ≡ place_at vs ends → told ≡ fault_of stop.Refused span
    → ¬ Sees at_end vs → RuleTakes script (words_from 0 tokens.tokens) es vs → OnFault (IsScriptFault tokens) told
rest_told tokens es vs same place is more run =
    subst (OnFault (IsScriptFault tokens)) (sym (fault_is stop.Refused vs same place is)) (no_script refl (unread tokens.tokens es vs more run) (error_place tokens (took es vs) run))

-- what holds of a fault that is told
pub on_fault : (P Q : Diagnostic → Type 0) (f : SyntaxFault) → ((d : Diagnostic) → P d → Q d) → OnFault P f → OnFault Q f
on_fault P Q (Fault d) step h = step d h
on_fault P Q Memory step h = tt

-- the first fault of the paths, where the words are a script
pub wrong_path : (tokens : TokenList) (s : Script) (found : Option Diagnostic) (d : Diagnostic) → Reads tokens.tokens s → found ≡ Some d → MatchOption found (KeepsLimits s.items) (λ fault. (others : List Diagnostic) × (exprs_faults s.items ≡ fault ∷ others)) → IsScriptFault tokens d
wrong_path tokens s None d reads is h = cc
wrong_path tokens s (Some e) d reads is h = let same : e ≡ d = cc in subst (IsScriptFault tokens) same (path_fault reads h.1)
