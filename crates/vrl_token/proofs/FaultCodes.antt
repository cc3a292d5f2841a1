-- The codes and places of faults, and what a fault excludes.
use Rattle.std.proofs.Common.{◌≡◌, ℕ, suc, ◌-◌, ◌≤◌, Contains, IsErrAnd, IfErr, Result, Ok, Err, List, length, inl, inr, sym, ap, subst, arith}
use Rattle.vrl_diag.specs.declared.diagnostic.Diagnostic.{Diagnostic}
use Rattle.vrl_token.specs.declared.fault.SyntaxFault.{SyntaxFault}
use Rattle.vrl_token.specs.declared.fault.SyntaxFault.TheVariants.{Fault, Memory}
use Rattle.vrl_token.specs.declared.piece.Piece.{Piece}
use Rattle.vrl_token.specs.declared.token.Spanned.{Spanned}
use Rattle.vrl_token.specs.Division.{IsFirstFault}
use Rattle.vrl_token.specs.Faults.{IsFault, spelling_codes, unclosed_text, unclosed_raw, unknown_escape, template, many_regexes, no_moment, float, joined_number, large_number, event_path, metadata_path, name_path, suffix, division, coalescing_assignment, stray}
use Rattle.vrl_token.specs.Laws.{TokensAreDetermined}
use Rattle.vrl_token.specs.OnFault.{OnFault}
use Rattle.vrl_token.specs.Paths.{HasFlaw, Segment}
use Rattle.vrl_token.specs.Placing.{IsWithin}
use Rattle.vrl_token.proofs.Ends.{is_no_longer}
use Rattle.vrl_token.proofs.Taking.{fault_end}
use Rattle.vrl_token.specs.Reading.{IsTokenized, IsTextFault, lexical_codes}

is_203 : {code : ℕ} → code ≡ 203 → Contains spelling_codes code
is_203 is = (0, omega arith, sym is)

is_1001 : {code : ℕ} → code ≡ 1001 → Contains spelling_codes code
is_1001 is = (1, omega arith, sym is)

is_1002 : {code : ℕ} → code ≡ 1002 → Contains spelling_codes code
is_1002 is = (2, omega arith, sym is)

is_1003 : {code : ℕ} → code ≡ 1003 → Contains spelling_codes code
is_1003 is = (3, omega arith, sym is)

is_1014 : {code : ℕ} → code ≡ 1014 → Contains spelling_codes code
is_1014 is = (4, omega arith, sym is)

is_1016 : {code : ℕ} → code ≡ 1016 → Contains spelling_codes code
is_1016 is = (5, omega arith, sym is)

flaw_code : {code : ℕ} (segments : List Segment) → HasFlaw segments code → Contains spelling_codes code
flaw_code segments flaw = elim flaw [ inl escape ↦ is_203 escape.0 | inr range ↦ is_1002 range.0 ]

fault_code : {before : List Piece} {text rest : List ℕ} {code : ℕ} → IsFault before text code rest → Contains spelling_codes code
fault_code (unclosed_text behind opens un none code) = is_203 code
fault_code (unclosed_raw letter behind is opens un none code) = is_203 code
fault_code (unknown_escape cs is bad code) = is_203 code
fault_code (template cs is known malformed code) = is_1016 code
fault_code (many_regexes cs is many code) = is_1016 code
fault_code (no_moment cs is none code) = is_1014 code
fault_code (float negative digits behind may is tail code) = is_1001 code
fault_code (joined_number negative digits is joined code) = is_203 code
fault_code (large_number negative digits is apart large code) = is_1002 code
fault_code (event_path segments walk apart flaw) = flaw_code segments flaw
fault_code (metadata_path segments walk flaw) = flaw_code segments flaw
fault_code (name_path name behind segments free walk some flaw) = flaw_code segments flaw
fault_code (suffix segments closes walk some flaw) = flaw_code segments flaw
fault_code (division is code) = is_1003 code
fault_code (coalescing_assignment is code) = is_1003 code
fault_code (stray is behind code) = is_203 code

spelling_is_lexical : {code : ℕ} → Contains spelling_codes code → Contains lexical_codes code
spelling_is_lexical is = (suc is.0, let below = is.1 in omega arith, is.2)

-- what is wrong with a text has a code of the lexical rules
pub wrong_code : (text : List ℕ) (d : Diagnostic) → IsTextFault text d → Contains lexical_codes d.code
wrong_code text d (inl first) = spelling_is_lexical (fault_code first.is_fault)
wrong_code text d (inr nested) = (0, omega arith, sym (ap (λ x. x.code) nested.fault_is))

-- and stands in the text
pub wrong_within : (text : List ℕ) (d : Diagnostic) → IsTextFault text d → IsWithin (length text) d.span
wrong_within text d (inl first) =
    let shorter : length first.rest ≤ length first.place = is_no_longer (fault_end first.is_fault) in
    let start : d.span.start ≡ length text - length first.place = ap (λ s. s.start) first.span in
    let stop : d.span.«end» ≡ length text - length first.rest = ap (λ s. s.«end») first.span in
    (omega arith, omega arith)
wrong_within text d (inr nested) =
    let start : d.span.start ≡ 0 = ap (λ x. x.span.start) nested.fault_is in
    let stop : d.span.«end» ≡ 0 = ap (λ x. x.span.«end») nested.fault_is in
    (omega arith, omega arith)

-- the first fault of a text, which has then no tokens
pub first_codes : (text : List ℕ) (f : SyntaxFault) → OnFault (IsFirstFault text) f → OnFault (λ d. Contains lexical_codes d.code) f
first_codes text (Fault d) is = wrong_code text d (inl is)
first_codes text Memory is = tt

pub first_within : (text : List ℕ) (f : SyntaxFault) → OnFault (IsFirstFault text) f → OnFault (λ d. IsWithin (length text) d.span) f
first_within text (Fault d) is = wrong_within text d (inl is)
first_within text Memory is = tt

pub first_excludes : TokensAreDetermined → (text : List ℕ) (f : SyntaxFault) → OnFault (IsFirstFault text) f → OnFault (λ d. (tokens : List Spanned) → ¬ IsTokenized text tokens) f
first_excludes law text (Fault d) is = λ tokens has. law.not_both text tokens d has (inl is)
first_excludes law text Memory is = tt

-- what holds of a fault holds of what hands it on
pub passed_on : {X : Type 0} (result : Result X SyntaxFault) (f : SyntaxFault) (P : SyntaxFault → Type 0) → IsErrAnd result (λ g. g ≡ f) → P f → IfErr result P
passed_on (Ok x) f P is holds = tt
passed_on (Err g) f P is holds = subst P (sym is) holds
