-- What is asked with the bytes of a script and of a kind file.
use Rattle.std.proofs.Common.{◌≡◌, ◌≢◌, ◌≤◌, ℕ, List, Option, Some, None, Result, Ok, Err, arith, inl, inr, length, refl, sym, ap, subst}
use Rattle.std.specs.Prelude.{IfErr, IfOk, IsUtf8}
use Rattle.vrl_value.specs.declared.memory.Memory.{Memory}
use Rattle.vrl_diag.specs.declared.diagnostic.Diagnostic.{Diagnostic}
use Rattle.vrl_kind.specs.KindTree.{KindTree}
use Rattle.vrl_kindfile.specs.Files.{IsDeclared, IsRefused as IsFileRefused}
use Rattle.vrl_kindfile.specs.declared.fault.KindFault.{KindFault}
use Rattle.vrl_kindfile.specs.declared.fault.KindFault.TheVariants as fault
use Rattle.vrl_state.specs.States.{json_object}
use Rattle.vrl_token.specs.Placing.{script_limit}
use Rattle.vrl_token.specs.Reading.{IsNoScript}
use Rattle.vrl_check.specs.Answer.{IsEnding}
use Rattle.vrl_check.specs.declared.judged.Ending.{Ending}
use Rattle.vrl_check.specs.declared.judged.Judged.{Judged}
use Rattle.vrl_compile.specs.Answer.{IsAcceptedAs, IsRefused as IsRefusedText}
use Rattle.vrl_compile.specs.declared.script.Accepted.{Accepted as AcceptedScript}
use Rattle.vrl_run.specs.Request.{bad_kind, bad_script, request_of, tell_kinds}
use Rattle.vrl_run.specs.declared.request.Request.{Request as Asked}
use Rattle.remap_words.specs.Words.{Invocation, check}
use Rattle.remap_call.specs.Loading.{IsFileOf}
use Rattle.remap_call.specs.Request.{AsksByScript, IsDeclaredKind, IsKindRefused, has_error, no_script_request, no_text}
use Rattle.remap_call.proofs.Accepting.{known_as_told}

-- ---- the text

-- what keeps the limit and is UTF-8 is the text of a script
pub read_is_text : (text : List ℕ) → (length text ≤ script_limit) × IsUtf8 text → ¬ IsNoScript text
read_is_text text fits (inl large) = let within = fits.0 in omega (arith, large, within)
read_is_text text fits (inr other) = other fits.1

-- ---- the declared kind

pub declared_with : (bytes : List ℕ) (result : Result KindTree KindFault) → IfOk result (IsDeclared bytes)
    → IfOk result (λ K. (name : Option (List ℕ)) → IsFileOf name (Some bytes) → IsDeclaredKind name (Some bytes) K)
declared_with bytes (Err f) is = tt
declared_with bytes (Ok K) is = by_name where
  by_name : (name : Option (List ℕ)) → IsFileOf name (Some bytes) → IsDeclaredKind name (Some bytes) K
  by_name None of = absurd of
  by_name (Some name) of = is

pub refused_with : (bytes : List ℕ) (result : Result KindTree KindFault) → IfErr result (IsFileRefused bytes)
    → IfErr result (λ f. f ≢ fault.Memory → (name : Option (List ℕ)) → IsFileOf name (Some bytes) → IsKindRefused name (Some bytes) f)
refused_with bytes (Ok K) is = tt
refused_with bytes (Err f) is = by_name where
  by_name : f ≢ fault.Memory → (name : Option (List ℕ)) → IsFileOf name (Some bytes) → IsKindRefused name (Some bytes) f
  by_name other None of = absurd of
  by_name other (Some name) of = (other, is)

pub declared_without : (K : KindTree) → K ≡ json_object → (name : Option (List ℕ)) → IsFileOf name None
    → IsDeclaredKind name None K
declared_without K is None of = is
declared_without K is (Some name) of = absurd of

-- ---- what is asked

module _ (i : Invocation) (file : Option (List ℕ)) (script : List ℕ) where
  -- with the bytes of the kind file, where the script is a text
  abbrev pub AreAsked : Result Asked Memory → Type 0
  AreAsked result = IfOk result (λ request. (told : Option (List ℕ)) → (¬ IsNoScript script → told ≡ file) → AsksByScript i told script (request_of request))

  pub no_text_asked : (result : Result Asked Memory) → IsNoScript script
      → IfOk result (λ request. request_of request ≡ no_script_request script) → AreAsked result
  no_text_asked (Err refused) none is = tt
  no_text_asked (Ok request) none is = λ told same. subst (AsksByScript i told script) (sym is) (refl, no_text none refl)

  pub kind_asked : (f : KindFault) (result : Result Asked Memory) → ¬ IsNoScript script → IsFileOf i.kind file
      → (f ≢ fault.Memory → (name : Option (List ℕ)) → IsFileOf name file → IsKindRefused name file f)
      → IfOk result (λ request. (request_of request ≡ bad_kind f) × (f ≢ fault.Memory)) → AreAsked result
  kind_asked f (Err refused) is_text of refused_by is = tt
  kind_asked f (Ok request) is_text of refused_by is = λ told same.
      subst (λ t. AsksByScript i t script (request_of request)) (sym (same is_text))
      (subst (AsksByScript i file script) (sym is.0) (is_text, refused_by is.1 i.kind of))

  pub refused_asked : (declared : KindTree) (diagnostics : List Diagnostic) → ¬ IsNoScript script
      → IsDeclaredKind i.kind file declared → IsRefusedText declared script diagnostics
      → (told : Option (List ℕ)) → (¬ IsNoScript script → told ≡ file) → AsksByScript i told script (bad_script script diagnostics)
  refused_asked declared diagnostics is_text of_kind is told same =
      subst (λ t. AsksByScript i t script (bad_script script diagnostics)) (sym (same is_text)) (refl, has_error is_text declared of_kind is)

  pub accepted_asked : (declared : KindTree) (result : Result Asked Memory) → ¬ IsNoScript script
      → IsDeclaredKind i.kind file declared
      → IfOk result (λ request. (file : Option (List ℕ)) → IsDeclaredKind i.kind file declared → AsksByScript i file script (request_of request)) → AreAsked result
  accepted_asked declared (Err refused) is_text of_kind is = tt
  accepted_asked declared (Ok request) is_text of_kind is = λ told same.
      subst (λ t. AsksByScript i t script (request_of request)) (sym (same is_text)) (is file of_kind)

-- the kinds are to be told
pub kinds_told : (i : Invocation) {declared : KindTree} {script : List ℕ} {accepted : AcceptedScript} {told : Judged}
    (result : Result Asked Memory) → ¬ IsNoScript script → IsAcceptedAs declared script accepted
    → i.mode ≡ check → told ≡ accepted.judged
    → IfOk result (λ request. (ending : Ending) × IsEnding told ending × (request_of request ≡ tell_kinds script told.diagnostics ending.kind ending.state i.envelope))
    → IfOk result (λ request. (file : Option (List ℕ)) → IsDeclaredKind i.kind file declared → AsksByScript i file script (request_of request))
kinds_told i (Err refused) is_text is mode same ends = tt
kinds_told i {script = script} {told = told} (Ok request) is_text is mode same ends = λ file declared.
    subst (AsksByScript i file script) (sym ends.2)
    (mode, refl, refl, known_as_told i file ends.0 told.diagnostics is_text is declared (ap (λ j. j.diagnostics) same) (subst (λ j. IsEnding j ends.0) same ends.1))
