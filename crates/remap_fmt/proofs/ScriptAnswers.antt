-- What is left in the sinks by the answer to a script.
use Rattle.std.proofs.Common.{◌≡◌, ℕ, List, ◌++◌, [], ◌∷◌, Option, ap, subst, ◌∙◌, ◌⊎◌}
use Rattle.std.specs.Prelude.{codes}
use Rattle.vrl_batch.specs.Sinks.{Appends, AppendsFront}
use Rattle.vrl_diag.specs.declared.diagnostic.Diagnostic.{Diagnostic}
use Rattle.vrl_token.specs.Reading.{IsNoScript}
use Rattle.vrl_format.specs.Formatting.{IsAnswer as IsFormatted}
use Rattle.vrl_format.specs.declared.formatting.Formatted.{Formatted}
use Rattle.vrl_format.specs.declared.formatting.Formatted.TheVariants as formatted
use Rattle.remap_fmt.specs.Answer.{AnswersScript, answer_by, laid_out, no_text, refused, to_bytes, to_text}
use Rattle.remap_fmt.specs.Call.{LeavesAnswer, Written, sinks}
use Rattle.remap_fmt.specs.Status.{IsAnswer}
use Rattle.remap_fmt.specs.declared.status.FmtStatus.{FmtStatus}
use Rattle.remap_fmt.specs.declared.status.FmtStatus.TheVariants.{Done, TooLong, WriteFault}
use Rattle.remap_fmt.proofs.Leaving.{left_as, reported_as, written}

-- bytes that are no text
pub no_text_left : (bytes : List ℕ) (fault : Diagnostic) (result : FmtStatus)
    (before after : Written)
    → IsNoScript bytes → fault ≡ no_text
    → LeavesAnswer (λ answer. answer ≡ refused bytes fault) result before after
    → LeavesAnswer (AnswersScript bytes) result before after
no_text_left bytes fault result before after none fault_is leaves =
    left_as (λ answer. answer ≡ refused bytes fault) (AnswersScript bytes) result before after
    (λ answer is. to_bytes none (is ∙ ap (refused bytes) fault_is)) leaves

-- a text, by what the formatter answers to it
text_left : (bytes text : List ℕ) (found : Formatted) (result : FmtStatus) (before after : Written)
    → ¬ IsNoScript bytes → text ≡ bytes → IsFormatted text found
    → LeavesAnswer (λ answer. answer ≡ answer_by bytes found) result before after
    → LeavesAnswer (AnswersScript bytes) result before after
text_left bytes text found result before after is_text same is_found leaves =
    left_as (λ answer. answer ≡ answer_by bytes found) (AnswersScript bytes) result before after
    (λ answer is. to_text is_text found (subst (λ t. IsFormatted t found) same is_found) is) leaves

pub refused_left : (bytes text : List ℕ) (found : Formatted) (fault : Diagnostic)
    (result : FmtStatus) (before after : Written)
    → ¬ IsNoScript bytes → text ≡ bytes → IsFormatted text found → found ≡ formatted.Refused fault
    → LeavesAnswer (λ answer. answer ≡ refused bytes fault) result before after
    → LeavesAnswer (AnswersScript bytes) result before after
refused_left bytes text found fault result before after is_text same is_found found_is leaves =
    text_left bytes text (formatted.Refused fault) result before after is_text same
    (subst (IsFormatted text) found_is is_found) leaves

pub layout_left : (bytes text : List ℕ) (found : Formatted) (layout given : List ℕ)
    (result : FmtStatus)
    (output output_after report : Option (List ℕ))
    → ¬ IsNoScript bytes → text ≡ bytes → IsFormatted text found → found ≡ formatted.Text layout
    → given ≡ layout
    → (IsAnswer result → Appends output output_after given) → AppendsFront output output_after given
    → (result ≡ Done) ⊎ (result ≡ WriteFault)
    → LeavesAnswer (AnswersScript bytes) result (sinks output report) (sinks output_after report)
layout_left bytes text found layout given result output output_after report is_text same is_found
    found_is given_is whole front either =
    text_left bytes text (formatted.Text layout) result (sinks output report)
    (sinks output_after report) is_text same
    (subst (IsFormatted text) found_is is_found)
    (subst (λ g. LeavesAnswer (λ answer. answer ≡ laid_out g) result (sinks output report)
    (sinks output_after report)) given_is
    (written result given output output_after report whole front either))

pub too_long_left : (bytes text : List ℕ) (found : Formatted) (given : List ℕ) (result : FmtStatus)
    (output report report_after : Option (List ℕ))
    → ¬ IsNoScript bytes → text ≡ bytes → IsFormatted text found → found ≡ formatted.TooLong
    → given ≡ codes "too long" ++ 10 ∷ []
    → (IsAnswer result → Appends report report_after given) → AppendsFront report report_after given
    → (result ≡ TooLong) ⊎ (result ≡ WriteFault)
    → LeavesAnswer (AnswersScript bytes) result (sinks output report) (sinks output report_after)
too_long_left bytes text found given result output report report_after is_text same is_found
    found_is given_is whole front either =
    text_left bytes text formatted.TooLong result (sinks output report) (sinks output report_after)
    is_text same
    (subst (IsFormatted text) found_is is_found)
    (reported_as TooLong result given (codes "too long" ++ 10 ∷ []) output report report_after
    given_is whole front either)
