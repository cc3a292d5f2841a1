-- What a call asks whose script is accepted.
use Rattle.std.proofs.Common.{◌≡◌, ℕ, Bool, true, false, List, [], Option, Some, None, refl, sym, ap, ◌∙◌, subst}
use Rattle.vrl_value.specs.declared.value.Tag.TheVariants as tag
use Rattle.vrl_diag.specs.declared.diagnostic.Diagnostic.{Diagnostic}
use Rattle.vrl_kind.specs.Canonical.{allows_absent}
use Rattle.vrl_kind.specs.KindTree.{KindTree, kind}
use Rattle.vrl_kind.specs.Kinds.{tags_at}
use Rattle.vrl_state.specs.States.{IsEither, IsJoined, RootMap}
use Rattle.vrl_token.specs.Reading.{IsNoScript}
use Rattle.vrl_judge.specs.Returns.{return_kind, return_state, returning}
use Rattle.vrl_check.specs.Answer.{IsEnding}
use Rattle.vrl_check.specs.declared.judged.Ending.{Ending}
use Rattle.vrl_compile.specs.Answer.{AcceptedScriptsAreSound, IsAcceptedAs}
use Rattle.vrl_compile.specs.declared.script.Accepted.{Accepted as AcceptedScript}
use Rattle.vrl_resolve.specs.Program.{program_of}
use Rattle.vrl_run.specs.LineResult.{HandlesErrors}
use Rattle.vrl_run.specs.Request.{ScriptRun}
use Rattle.remap_words.specs.Words.{Invocation}
use Rattle.remap_call.specs.Request.{IsAccepted, IsDeclaredKind, IsKnown, IsRun, options_of}
use Rattle.remap_call.proofs.RunSound.{accepted_handles}

-- ---- the declared kind

-- nothing of it is absent
absent_tag : (K : KindTree) → tags_at K [] tag.Absent ≡ allows_absent K
absent_tag (kind s l o) = refl

not_absent : (K : KindTree) (b : Bool) → allows_absent K ≡ b → ¬ (b ≡ true) → allows_absent K ≡ false
not_absent K true is other = absurd (other refl)
not_absent K false is other = is

pub declared_is_present : (name file : Option (List ℕ)) (K : KindTree) → IsDeclaredKind name file K → allows_absent K ≡ false
declared_is_present None file K is = ap allows_absent is
declared_is_present (Some name) None K is = absurd is
declared_is_present (Some name) (Some bytes) K is = not_absent K (allows_absent K) refl (λ holds. let wrong : false ≡ true = is.allowed.objects [] tag.Absent (absent_tag K ∙ holds) in cc)

-- ---- an accepted script

pub accepted_as : {declared : KindTree} {text : List ℕ} {answer : AcceptedScript} → ¬ IsNoScript text → (is : IsAcceptedAs declared text answer) → IsAccepted declared text is.script is.judgement answer.judged.diagnostics
accepted_as is_text is = record { is_text = is_text; accepted = is.accepted; ordered = is.judged.diagnostics }

pub sources_as : {declared : KindTree} {text : List ℕ} {answer : AcceptedScript} → IsAcceptedAs declared text answer → answer.sources ≡ (program_of answer.program).sources
sources_as is = is.sources ∙ ap (λ p. p.sources) (sym is.program)

pub handles_as : AcceptedScriptsAreSound → {declared : KindTree} {text : List ℕ} {answer : AcceptedScript} → ¬ IsNoScript text → IsAcceptedAs declared text answer → HandlesErrors declared (program_of answer.program)
handles_as sound {declared = declared} is_text is = subst (HandlesErrors declared) (sym is.program) (accepted_handles sound (accepted_as is_text is))

pub run_as : (i : Invocation) (file : Option (List ℕ)) {text : List ℕ} {answer : AcceptedScript} (run : ScriptRun) → ¬ IsNoScript text → IsAcceptedAs run.declared text answer → IsDeclaredKind i.kind file run.declared → run.text ≡ text → run.program ≡ program_of answer.program
    → run.options ≡ options_of i → run.warnings ≡ answer.judged.diagnostics → IsRun i file text run
run_as i file {text} {answer} run is_text is declared same program options warnings = record {
  text_is = same;
  declared = declared;
  script = is.script;
  judgement = is.judgement;
  accepted = subst (IsAccepted run.declared text is.script is.judgement) (sym warnings) (accepted_as is_text is);
  program_is = program ∙ is.program;
  options_are = options;
}

state_of_returning : (K : KindTree) (known : Option RootMap) → return_state (returning [] K known) ≡ known
state_of_returning K None = refl
state_of_returning K (Some roots) = refl

pub known_as_told : (i : Invocation) (file : Option (List ℕ)) {declared : KindTree} {text : List ℕ} {answer : AcceptedScript} (ending : Ending) (warnings : List Diagnostic) → ¬ IsNoScript text → IsAcceptedAs declared text answer → IsDeclaredKind i.kind file declared
    → warnings ≡ answer.judged.diagnostics → IsEnding answer.judged ending → IsKnown i file text warnings ending.kind ending.state
known_as_told i file {declared} {text} {answer} ending warnings is_text is is_declared same ends =
    let judgement = is.judgement in
    let kinds : IsEither judgement.kind judgement.returned ending.kind = subst (λ L. IsEither judgement.kind L ending.kind) is.judged.returned (subst (λ K. IsEither K (return_kind answer.judged.ret) ending.kind) is.judged.kind ends.kind) in
    let ok : answer.judged.ok.known ≡ judgement.ok = ap (λ s. s.known) is.judged.ok in
    let ret : return_state answer.judged.ret ≡ judgement.ret = ap return_state is.judged.ret ∙ state_of_returning judgement.returned judgement.ret in
    record {
      declared = declared;
      is_declared = is_declared;
      script = is.script;
      judgement = judgement;
      accepted = subst (IsAccepted declared text is.script judgement) (sym same) (accepted_as is_text is);
      kind = kinds;
      roots = ends.known;
      joined = subst (λ b. IsJoined judgement.ok b ends.known) ret (subst (λ a. IsJoined a (return_state answer.judged.ret) ends.known) ok ends.joined);
      known_is = ends.state;
    }
