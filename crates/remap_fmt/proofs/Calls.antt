-- What a call comes to, by its parts.
use Rattle.std.proofs.Common.{◌≡◌, ℕ, List, [], ◌∷◌, ◌++◌, take, Option, Some, None, ◌⊎◌, refl, sym, subst}
use Rattle.std.specs.Prelude.{codes, option_map}
use Rattle.vrl_batch.specs.Sinks.{Appends, AppendsFront}
use Rattle.remap_fmt.specs.Answer.{Answers, AnswersScript}
use Rattle.remap_fmt.specs.Call.{AreHeld, Held, IsCall, LeavesAnswer, Written, load_limit, sinks}
use Rattle.remap_fmt.specs.Status.{IsAnswer}
use Rattle.remap_fmt.specs.declared.status.FmtStatus.{FmtStatus}
use Rattle.remap_fmt.specs.declared.status.FmtStatus.TheVariants.{Memory, ReadFault, Usage, WriteFault}
use Rattle.remap_fmt.proofs.Leaving.{nothing_left, reported_as}

-- words that are refused
pub refused_call : (held : Held) (name : Option (List ℕ)) (result : FmtStatus) (given : List ℕ)
    (output report report_after : Option (List ℕ)) → name ≡ None
    → given ≡ codes "usage: remap_fmt SCRIPT" ++ 10 ∷ []
    → (IsAnswer result → Appends report report_after given) → AppendsFront report report_after given
    → (result ≡ Usage) ⊎ (result ≡ WriteFault)
    → IsCall held name result (sinks output report) (sinks output report_after)
refused_call held name result given output report report_after none given_is whole front either =
    subst (λ n. IsCall held n result (sinks output report) (sinks output report_after)) (sym none)
    (record {
      bytes = None;
      are_held = tt;
      leaves = reported_as Usage result given (codes "usage: remap_fmt SCRIPT" ++ 10 ∷ []) output
          report report_after given_is whole front either;
    })

-- words that name a script with these bytes
pub script_call : (held : Held) (name : Option (List ℕ)) (script : List ℕ) (bytes given : List ℕ)
    (result : FmtStatus)
    (before after : Written) → Some script ≡ name → AreHeld held script (Some bytes) → given ≡ bytes
    → LeavesAnswer (AnswersScript given) result before after → IsCall held name result before after
script_call held name script bytes given result before after named loaded given_is leaves =
    subst (λ n. IsCall held n result before after) named
    (record {
      bytes = Some bytes;
      are_held = loaded;
      leaves = subst (λ g. LeavesAnswer (AnswersScript g) result before after) given_is leaves;
    })

-- the bytes that the store tells, where it tells them
abbrev told : Held → List ℕ → Option (List ℕ)
told None name = None
told (Some held) name = option_map (take load_limit) (held name)

is_told : (held : Held) (name : List ℕ) → AreHeld held name (told held name)
is_told None name = tt
is_told (Some held) name = refl

-- no bytes are there, or no memory for them
unanswered_call : (held : Held) (name : Option (List ℕ)) (script : List ℕ) (result : FmtStatus)
    (at : Written)
    → Some script ≡ name → ¬ IsAnswer result → ¬ (result ≡ WriteFault)
    → IsCall held name result at at
unanswered_call held name script result at named no_answer no_fault =
    subst (λ n. IsCall held n result at at) named
    (record {
      bytes = told held script;
      are_held = is_told held script;
      leaves = nothing_left (Answers (Some script) (told held script)) result at at no_answer
          no_fault;
    })

pub unloaded_call : (held : Held) (name : Option (List ℕ)) (script : List ℕ) (at : Written)
    → Some script ≡ name
    → IsCall held name ReadFault at at
unloaded_call held name script at named =
    unanswered_call held name script ReadFault at named (λ is. is) (λ is. absurd cc)

pub wanting_call : (held : Held) (name : Option (List ℕ)) (script : List ℕ) (at : Written)
    → Some script ≡ name
    → IsCall held name Memory at at
wanting_call held name script at named =
    unanswered_call held name script Memory at named (λ is. is) (λ is. absurd cc)
