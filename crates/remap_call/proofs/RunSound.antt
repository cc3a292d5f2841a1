-- A script that was accepted handles each of its errors over each event of the declared kind and its metadata.
use Rattle.std.proofs.Common.{◌≡◌, ℕ, List, Option, Some, None, length, inl, inr, sym, subst}
use Rattle.vrl_value.specs.Tree.{Tree}
use Rattle.vrl_diag.specs.declared.diagnostic.Diagnostic.{Diagnostic}
use Rattle.vrl_kind.specs.KindTree.{KindTree}
use Rattle.vrl_store.specs.WellFormed.{IsWellFormed}
use Rattle.vrl_syntax.specs.Tree.{Script}
use Rattle.vrl_judge.specs.Rules.{Judgement}
use Rattle.vrl_check.specs.Judgement.{JudgesScript}
use Rattle.vrl_check.specs.OpenRules.{language_rules}
use Rattle.vrl_compile.specs.Answer.{AcceptedScriptsAreSound, IsSoundlyEnded}
use Rattle.vrl_compile.specs.Program.{program_for}
use Rattle.vrl_compile.specs.Sound.{ends_of}
use Rattle.vrl_resolve.specs.Program.{ended_over}
use Rattle.vrl_run.specs.Laws.{IsOfLine}
use Rattle.vrl_run.specs.LineResult.{HandlesErrors}
use Rattle.vrl_run.specs.Request.{ScriptRun}
use Rattle.remap_call.specs.Request.{AcceptedScriptsRunSoundly, AsksToRun, IsAccepted, IsRun, RunsSoundly, Texts}
use Rattle.remap_call.specs.Laws.{Laws}
use Rattle.remap_words.specs.Words.{Invocation}

-- so it handles each of its errors
pub accepted_handles : AcceptedScriptsAreSound → {declared : KindTree} {text : List ℕ} {script : Script} {judgement : Judgement} {warnings : List Diagnostic} → IsAccepted declared text script judgement warnings → HandlesErrors declared (program_for script judgement)
accepted_handles sound {declared} {text} {script} {judgement} is moment event beside of_kind of_object formed beside_formed = (sound declared text script judgement is.accepted moment event beside of_kind of_object formed beside_formed).handled

-- what a line stands for is well-formed
part_formed : Laws → (count : ℕ) (part : Tree) → IsOfLine part → IsWellFormed count part
part_formed laws count part is = record { ordered = is.ordered; below = laws.below count part is.json }

-- and whatever the judgement of the script is, it holds of its run over each line that stands for an event of the kind
pub runs_soundly : Laws → AcceptedScriptsRunSoundly
runs_soundly laws declared text script judgement warnings is s written other judges envelope line event beside stands of_kind moment =
    let parts = laws.lines envelope line (event, beside) stands in
    let same : s ≡ script = (laws.readings text written.tokens is.accepted.tokens s script written.is_script is.accepted.is_script).script_is in
    let told : JudgesScript (language_rules script.patterns) declared script.items other = subst (λ x. JudgesScript (language_rules x.patterns) declared x.items other) same judges in
    let sources = script.patterns in
    subst (λ j. IsSoundlyEnded (ends_of j) (ended_over (program_for script judgement) moment event beside)) (laws.judgements.script (language_rules sources) (laws.judgements.language sources) declared script.items judgement other is.accepted.judges told)
    (laws.sound declared text script judgement is.accepted moment event beside of_kind parts.object (part_formed laws (length sources) event parts.event) (part_formed laws (length sources) beside parts.metadata))

of_run : AcceptedScriptsRunSoundly → (i : Invocation) (file : Option (List ℕ)) (text : List ℕ) (run : ScriptRun) → IsRun i file text run → RunsSoundly run.declared run.text run.program
of_run accepted i file text run is =
    subst (λ p. RunsSoundly run.declared run.text p) (sym is.program_is) (subst (λ t. RunsSoundly run.declared t (program_for is.script is.judgement)) (sym is.text_is) (accepted run.declared text is.script is.judgement run.warnings is.accepted))

-- what is asked to run was accepted
pub asked_runs_soundly : AcceptedScriptsRunSoundly → (invocation : Option Invocation) (texts : Texts) (run : ScriptRun) → AsksToRun invocation texts run → RunsSoundly run.declared run.text run.program
asked_runs_soundly accepted invocation texts run asks = by_texts invocation texts.script texts.kind_file asks where
  by_texts : (invocation : Option Invocation) (text file : Option (List ℕ)) → AsksToRun invocation (record { script = text; kind_file = file }) run → RunsSoundly run.declared run.text run.program
  by_texts None text file (inl asks) = absurd (cc)
  by_texts None text file (inr asks) = let none = asks.2 in absurd (cc)
  by_texts (Some i) None file (inl asks) = absurd asks
  by_texts (Some i) None file (inr asks) = absurd asks.2
  by_texts (Some i) (Some text) file (inl asks) = of_run accepted i file text run asks.1
  by_texts (Some i) (Some text) file (inr asks) = of_run accepted i file text run asks.2.1
