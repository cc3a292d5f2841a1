-- What `compile` answers, by what was read and judged.
use Rattle.std.proofs.Common.{◌≡◌, ◌==◌, not, ℕ, Bool, true, false, List, [], ◌∷◌, ◌++◌, if◌then◌else◌, length, ◌≢◌, Result, Ok, Err, IfOk, IfErr, IsErrAnd, refl, sym, ap, ◌∙◌, subst}
use Rattle.std.specs.List.{Contains, list_all, list_any}
use Rattle.std.proofs.lemmas.Bool.{or_left}
use Rattle.std.proofs.lemmas.List.Sorted.{list_any-IsPermutation}
use Rattle.std.proofs.lemmas.List.Sums.{AllPass-from_list_all}
use Rattle.vrl_diag.specs.declared.diagnostic.Diagnostic.{Diagnostic}
use Rattle.vrl_diag.specs.declared.diagnostic.Span.{Span}
use Rattle.vrl_kind.specs.KindTree.{KindTree}
use Rattle.vrl_syntax.specs.Limits.{KeepsLimits}
use Rattle.vrl_syntax.specs.Tree.{Script}
use Rattle.vrl_token.specs.Reading.{IsTokenized, IsTextFault, lexical_codes}
use Rattle.vrl_token.specs.OnFault.{OnFault}
use Rattle.vrl_token.specs.TokenList.{TokenList}
use Rattle.vrl_token.specs.declared.fault.SyntaxFault.{SyntaxFault}
use Rattle.vrl_token.specs.declared.fault.SyntaxFault.TheVariants.{Fault, Memory}
use Rattle.vrl_token.specs.declared.token.Spanned.{Spanned}
use Rattle.vrl_pattern.specs.Malformed.{is_malformed}
use Rattle.vrl_word.specs.Words.{regex_of}
use Rattle.vrl_parse.specs.Reading.{IsErrorPlace, IsScriptFault, no_script, parse_codes, path_fault}
use Rattle.vrl_diag.specs.Refusal.{is_error}
use Rattle.vrl_judge.specs.Rules.{Judgement}
use Rattle.vrl_check.specs.Judgement.{JudgesScript}
use Rattle.vrl_check.specs.OpenRules.{language_rules}
use Rattle.vrl_judge.specs.Ordered.{AreOrdered}
use Rattle.vrl_value.specs.declared.memory.Memory.{Memory as WantOfMemory}
use Rattle.vrl_compile.specs.declared.literals.LiteralFault.{LiteralFault}
use Rattle.vrl_compile.specs.declared.literals.LiteralFault.TheVariants as literals
use Rattle.vrl_compile.specs.declared.script.Compiled.{Compiled}
use Rattle.vrl_compile.specs.Literals.{IsRefusedFor, OnMalformed}
use Rattle.vrl_compile.specs.Answer.{CanBeJudged, IsAccepted, IsAnswer, IsRefused, IsScript, IsUngrammatical, beyond, judged, malformed, malformed_at, malformed_literals, of_script, unread, unread_at, wrong}

-- ---- refusals before the judgement

-- a diagnostic is an error where each code that it may have is one
listed_is_error : (listed : List ℕ) (d : Diagnostic) → list_all (λ n. not (n == 651)) listed ≡ true → Contains listed d.code → list_any is_error (d ∷ []) ≡ true
listed_is_error listed d all among = or_left _ _ (subst (λ n. not (n == 651) ≡ true) among.2 (AllPass-from_list_all (λ n. not (n == 651)) listed all among.0 d.code among.1))

refused_text : (text : List ℕ) (fault : Diagnostic) → IsTextFault text fault → Contains lexical_codes fault.code → (declared : KindTree) → IsRefused declared text (fault ∷ [])
refused_text text fault is among declared = record { are = wrong fault is refl; error = listed_is_error lexical_codes fault refl among }

unread_diagnostic : (fault : Diagnostic) → fault.code ≡ 203 → (fault ∷ []) ≡ unread_at fault.span
unread_diagnostic fault is =
    let made : ℕ → Diagnostic = λ code. record { code = code; span = fault.span } in
    ap (λ code. made code ∷ []) is

refused_tokens : (text : List ℕ) (tokens : TokenList) (fault : Diagnostic) → IsTokenized text tokens.tokens → tokens.«end» ≡ length text → IsScriptFault tokens fault → Contains parse_codes fault.code → (declared : KindTree) → IsRefused declared text (fault ∷ [])
refused_tokens text tokens fault tokenized ends (no_script is none place) among declared =
    let before : ℕ → TokenList = λ n. record { tokens = tokens.tokens; «end» = n } in
    let unread_text : IsUngrammatical text fault.span = record { tokens = tokens.tokens; tokenized = tokenized; unread = none; place = subst (λ n. IsErrorPlace (before n) fault.span) ends place } in
    record { are = unread fault.span unread_text (unread_diagnostic fault is); error = listed_is_error parse_codes fault refl among }
refused_tokens text tokens fault tokenized ends (path_fault {s} {ds} reads faults) among declared =
    record { are = of_script tokens.tokens s (record { tokenized = tokenized; reads = reads }) (beyond fault ds faults refl); error = listed_is_error parse_codes fault refl among }

-- the same of a fault that is handed on
pub text_fault : (text : List ℕ) (f : SyntaxFault) → OnFault (IsTextFault text) f → OnFault (λ d. Contains lexical_codes d.code) f → OnFault (λ d. (declared : KindTree) → IsRefused declared text (d ∷ [])) f
text_fault text (Fault d) is among = refused_text text d is among
text_fault text Memory is among = tt

pub tokens_fault : (text : List ℕ) (tokens : TokenList) (f : SyntaxFault) → IsTokenized text tokens.tokens → tokens.«end» ≡ length text → OnFault (IsScriptFault tokens) f → OnFault (λ d. Contains parse_codes d.code) f
    → OnFault (λ d. (declared : KindTree) → IsRefused declared text (d ∷ [])) f
tokens_fault text tokens (Fault d) tokenized ends is among = refused_tokens text tokens d tokenized ends is among
tokens_fault text tokens Memory tokenized ends is among = tt

pub handed_on : {X : Type 0} (result : Result X SyntaxFault) (f : SyntaxFault) (P : SyntaxFault → Type 0) → IsErrAnd result (λ g. g ≡ f) → P f → IfErr result P
handed_on (Ok x) f P is holds = tt
handed_on (Err g) f P is holds = subst P (sym is) holds

-- ---- scripts

-- a malformed literal is an error
literal_is_error : (span : Span) (told : Bool) (ds : List Diagnostic) (first : Diagnostic) (others : List Diagnostic) → (if told then record { code = 101; span = span } ∷ [] else []) ++ ds ≡ first ∷ others → (ds ≡ first ∷ others → is_error first ≡ true)
    → is_error first ≡ true
literal_is_error span true ds first others is behind = subst (λ d. is_error d ≡ true) (first_is is) refl where
  first_is : (record { code = 101; span = span }) ∷ ds ≡ first ∷ others → record { code = 101; span = span } ≡ first
  first_is same = cc
literal_is_error span false ds first others is behind = behind is

at_is_error : (span : Span) (sources : List (List ℕ)) (ds : List Diagnostic) (first : Diagnostic) (others : List Diagnostic) → malformed_at span sources ++ ds ≡ first ∷ others → (ds ≡ first ∷ others → is_error first ≡ true) → is_error first ≡ true
at_is_error span [] ds first others is behind = behind is
at_is_error span (source ∷ sources) ds first others is behind = literal_is_error span (is_malformed source) ds first others is behind

malformed_is_error : (tokens : List Spanned) (first : Diagnostic) (others : List Diagnostic) → malformed_literals tokens ≡ first ∷ others → is_error first ≡ true
malformed_is_error [] first others is = cc
malformed_is_error (t ∷ ts) first others is = at_is_error t.span (regex_of t.token) (malformed_literals ts) first others is (malformed_is_error ts first others)

pub refused_malformed : (declared : KindTree) (text : List ℕ) (tokens : List Spanned) (script : Script) (found : List Diagnostic) → IsScript text tokens script → KeepsLimits script.items → found ≡ malformed_literals tokens
    → found ≢ [] → IsRefused declared text found
refused_malformed declared text tokens script [] is limits found some = absurd (some refl)
refused_malformed declared text tokens script (first ∷ others) is limits found some =
    record { are = of_script tokens script is (malformed limits first others (sym found) refl); error = or_left _ _ (malformed_is_error tokens first others (sym found)) }

-- and what is answered for a fault of literals is that
pub refused_for : (declared : KindTree) (text : List ℕ) (tokens : List Spanned) (script : Script) (fault : LiteralFault) (result : Result Compiled WantOfMemory) → IsRefusedFor fault result → OnMalformed (λ found. (found ≡ malformed_literals tokens) × (found ≢ [])) fault
    → IsScript text tokens script → KeepsLimits script.items → IfOk result (IsAnswer declared text)
refused_for declared text tokens script (literals.Malformed found) result answered told is limits =
    subst (λ r. IfOk r (IsAnswer declared text)) (sym answered) (refused_malformed declared text tokens script found.items is limits told.0 told.1)
refused_for declared text tokens script literals.Memory (Ok compiled) answered told is limits = absurd answered
refused_for declared text tokens script literals.Memory (Err refused) answered told is limits = tt

pub refused : (declared : KindTree) (text : List ℕ) (tokens : List Spanned) (script : Script) (j : Judgement) (shown : List Diagnostic) → IsScript text tokens script → CanBeJudged tokens script → JudgesScript (language_rules script.patterns) declared script.items j → AreOrdered j.codes shown
    → list_any is_error shown ≡ true → IsRefused declared text shown
refused declared text tokens script j shown is can judges ordered error = record { are = of_script tokens script is (judged can j judges ordered); error = error }

pub accepted : (declared : KindTree) (text : List ℕ) (tokens : List Spanned) (script : Script) (j : Judgement) (shown : List Diagnostic) → IsScript text tokens script → CanBeJudged tokens script → JudgesScript (language_rules script.patterns) declared script.items j → AreOrdered j.codes shown
    → list_any is_error shown ≡ false → IsAccepted declared text script j
accepted declared text tokens script j shown is can judges ordered none = record {
  tokens = tokens;
  is_script = is;
  can_be_judged = can;
  judges = judges;
  no_error = list_any-IsPermutation is_error j.codes shown ordered.same ∙ none;
}
