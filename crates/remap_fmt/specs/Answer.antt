-- What answers a call: the status, and the bytes that belong to it.
use Rattle.std.specs.Prelude.{◌≡◌, ℕ, ◌==◌, if◌then◌else◌, List, [], ◌∷◌, ◌++◌, codes, map, Option, Some, None, IsSomeAnd, String, string_bytes}
use Rattle.std.specs.declared.alloc.Global.{Global}
use Rattle.vrl_diag.specs.Rendering.{diagnostic_lines}
use Rattle.vrl_diag.specs.declared.diagnostic.Diagnostic.{Diagnostic}
use Rattle.vrl_token.specs.Reading.{IsNoScript}
use Rattle.vrl_format.specs.Formatting.{IsAnswer as IsFormatted}
use Rattle.vrl_format.specs.declared.formatting.Formatted.{Formatted}
use Rattle.vrl_format.specs.declared.formatting.Formatted.TheVariants as formatted
use Rattle.remap_fmt.specs.declared.status.FmtStatus.{FmtStatus}
use Rattle.remap_fmt.specs.declared.status.FmtStatus.TheVariants.{Done, Refused, Usage, TooLong}

-- ---- the words

-- the bytes of each word
abbrev pub texts : List (String Global) → List (List ℕ)
texts words = map (λ word. string_bytes word) words

-- the script that words name: they are one word, which is not empty and does not begin with `-`
abbrev pub script_in : List (List ℕ) → Option (List ℕ)
script_in ((b ∷ bs) ∷ []) = if b == 45 then None else Some (b ∷ bs)
script_in words = None

-- ---- the answer

pub record Answer : Type 0 where
  pub status : FmtStatus
  pub output : List ℕ
  pub report : List ℕ

-- where there is no layout, nothing goes to the output
abbrev pub refusal : FmtStatus → List ℕ → Answer
refusal status report = record { status = status; output = []; report = report }

abbrev pub usage : Answer
usage = refusal Usage (codes "usage: remap_fmt SCRIPT" ++ 10 ∷ [])

abbrev pub too_long : Answer
too_long = refusal TooLong (codes "too long" ++ 10 ∷ [])

-- the line of a diagnostic of these bytes
abbrev pub refused : List ℕ → Diagnostic → Answer
refused bytes fault = refusal Refused (diagnostic_lines bytes (fault ∷ []))

abbrev pub laid_out : List ℕ → Answer
laid_out layout = record { status = Done; output = layout; report = [] }

-- 1009, script too long or not UTF-8
abbrev pub no_text : Diagnostic
no_text = record { code = 1009; span = record { start = 0; «end» = 0 } }

-- the answer to a text, by what the formatter answers to it
abbrev pub answer_by : List ℕ → Formatted → Answer
answer_by text (formatted.Text layout) = laid_out layout
answer_by text (formatted.Refused fault) = refused text fault
answer_by text formatted.TooLong = too_long

-- what answers a script of these bytes
pub data AnswersScript (bytes : List ℕ) (answer : Answer) : Type 0 where
  to_bytes : IsNoScript bytes → answer ≡ refused bytes no_text → AnswersScript bytes answer
  to_text : ¬ IsNoScript bytes → (found : Formatted) → IsFormatted bytes found
      → answer ≡ answer_by bytes found
      → AnswersScript bytes answer

-- What answers a call whose words name this script, if any, and whose script has these bytes, if it
-- is there.
abbrev pub Answers : (name bytes : Option (List ℕ)) → Answer → Type 0
Answers None bytes answer = answer ≡ usage
Answers (Some name) bytes answer = IsSomeAnd bytes (λ script. AnswersScript script answer)

-- there is one answer at most
abbrev pub AnswersAreDetermined : Type 0
AnswersAreDetermined = (name bytes : Option (List ℕ)) (a b : Answer)
    → Answers name bytes a → Answers name bytes b → a ≡ b
