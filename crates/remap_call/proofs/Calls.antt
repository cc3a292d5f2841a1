-- What a call comes to, by what it did.
use Rattle.std.proofs.Common.{◌≡◌, ◌⊎◌, ⊎_elim, inl, inr, ℕ, ℤ, List, Option, Some, None, IfSome, IsTrue, false, refl, sym, ap, subst, ◌∙◌}
use Rattle.vrl_io.specs.declared.fault.LoadFault.{LoadFault}
use Rattle.vrl_io.specs.declared.fault.LoadFault.TheVariants as fault
use Rattle.vrl_run.specs.Answer.{answer_to}
use Rattle.vrl_run.specs.Answered.{IsAnswered, IsWhole}
use Rattle.vrl_run.specs.Devices.{Devices, Held}
use Rattle.vrl_run.specs.Request.{IsSame, MayCome, ReadsLines as Reads, Request, ScriptRun, bad_kind, bad_script, bad_words, map_lines, map_made, tell_kinds}
use Rattle.vrl_run.specs.Status.{IsAnswer, IsFinished, IsInterrupted, TellsRefusal, meaning_of}
use Rattle.vrl_run.specs.declared.status.Status.{Status}
use Rattle.vrl_run.specs.declared.status.Status.TheVariants.{Done, Refused, Usage, ReadFault, WriteFault, Memory, KindRefused, Marked, TooMuch}
use Rattle.remap_words.specs.Words.{Invocation, check, generate, lines}
use Rattle.remap_call.specs.Call.{IsCall}
use Rattle.remap_call.specs.Laws.{Laws}
use Rattle.remap_call.specs.Loading.{IsReady, IsUnready}
use Rattle.remap_call.specs.Request.{AcceptedScriptsRunSoundly, Asks, AsksByScript, HasLoadedBy, IsUnloaded, ReadsLines, Texts, none_failed}
use Rattle.vrl_run.proofs.AnswerLemmas.{undone}
use Rattle.remap_call.proofs.AnswerLemmas.{answered}
use Rattle.remap_call.proofs.OneAnswer.{comes_of_each, one_answer}
use Rattle.remap_call.proofs.RunSound.{asked_runs_soundly}
use Rattle.remap_call.proofs.ToldOnce.{told_once}

-- a device that failed, and want of memory, may come of whatever is asked
interrupts_each : (request : Request) (s : Status) → IsInterrupted s → MayCome request s
interrupts_each bad_words s is = inr is
interrupts_each (bad_kind f) s is = inr is
interrupts_each (bad_script text ds) s is = inr is
interrupts_each (map_lines run) s is = inr (inl is)
interrupts_each (map_made run count seed) s is = inr is
interrupts_each (tell_kinds text warnings K known envelope) s is = inr is

comes : Laws → (invocation : Option Invocation) (texts : Texts) (s : Status) → IsInterrupted s ⊎ ((request : Request) × Asks invocation texts request × MayCome request s) → (request : Request) → Asks invocation texts request → MayCome request s
comes laws invocation texts s (inl is) request asks = interrupts_each request s is
comes laws invocation texts s (inr came) request asks = comes_of_each laws invocation texts came.0 request s came.1 came.2 asks

finished_answers : (s : Status) → IsFinished s → IsAnswer s
finished_answers Done finished = tt
finished_answers Marked finished = tt
finished_answers s finished = absurd finished

-- where lines are to be read, what is finished was read
read_if_finished : (i : Invocation) (file : Option (List ℕ)) (text : List ℕ) (request : Request) (input : List ℕ) (moments : ℕ → ℤ) (s : Status) {E : Type 0} → i.mode ≡ lines → IsFinished s → s ≡ (answer_to request input moments).status → AsksByScript i file text request → (Reads request → E) → E
read_if_finished i file text bad_words input moments s mode finished is asks read = absurd asks
read_if_finished i file text (bad_kind f) input moments s mode finished is asks read = absurd (subst IsFinished is finished)
read_if_finished i file text (bad_script told ds) input moments s mode finished is asks read = absurd (subst IsFinished is finished)
read_if_finished i file text (map_lines run) input moments s mode finished is asks read = read tt
read_if_finished i file text (map_made run count seed) input moments s mode finished is asks read = let wrong : lines ≡ generate count seed = sym mode ∙ asks.0 in absurd (cc)
read_if_finished i file text (tell_kinds told warnings K known envelope) input moments s mode finished is asks read = let wrong : lines ≡ check = sym mode ∙ asks.0 in absurd (cc)

-- so the input has said that it is at its end
ended_by_script : (i : Invocation) (file : Option (List ℕ)) (text : List ℕ) (before after : Devices) (s : Status) → i.mode ≡ lines → IsFinished s → IsWhole (AsksByScript i file text) s before after → IsTrue after.ended
ended_by_script i file text before after s mode finished whole =
    read_if_finished i file text whole.asked.request whole.asked.input whole.asked.moments s mode finished whole.holds.status_is whole.asked.asked (λ reads. (whole.read reads).ended)

ended : (invocation : Option Invocation) (text file : Option (List ℕ)) (before after : Devices) (s : Status) → ReadsLines invocation → IsFinished s → IsWhole (Asks invocation (record { script = text; kind_file = file })) s before after → IsTrue after.ended
ended None text file before after s mode finished whole = absurd mode
ended (Some i) None file before after s mode finished whole = absurd whole.asked.asked
ended (Some i) (Some text) file before after s mode finished whole = ended_by_script i file text before after s mode finished whole

-- ---- all that a call comes to

-- what is asked is known, and is answered
pub ready_call : Laws → AcceptedScriptsRunSoundly
    → (held : Held) (invocation : Option Invocation) (failures failures_after : List (List ℕ)) (request : Request)
    (status : Status) (before after : Devices) (Unasked : Type 0)
    → IsReady held invocation failures failures_after request → IsAnswered (IsSame request) status before after Unasked → IsCall held invocation failures failures_after status before after Unasked
ready_call laws accepted held invocation failures failures_after request status before after Unasked ready done =
    let texts = ready.texts in
    let all = answered (Asks invocation texts) request ready.asks before after status Unasked done in record {
      texts = texts;
      are_texts = ready.are_texts;
      leaves = all.leaves;
      one_answer = one_answer laws invocation texts;
      once = told_once laws.once invocation texts.script texts.kind_file;
      comes = comes laws invocation texts status all.came;
      unloaded = all_loaded invocation texts ready.loaded;
      loads = no_failure invocation texts failures failures_after ready.none_failed;
      read_cut = λ told. inr (all.read_cut told);
      limit_cut = all.limit_cut;
      first = all.first;
      ended = λ reads finished. ended invocation texts.script texts.kind_file before after status reads finished (all.leaves.whole (finished_answers status finished));
      sound = λ run asks. asked_runs_soundly accepted invocation texts run asks;
    } where
      all_loaded : (invocation : Option Invocation) (texts : Texts) → IfSome invocation (λ i. ¬ IsUnloaded i texts)
          → IfSome invocation (λ i. IsUnloaded i texts → (status ≡ ReadFault) ⊎ (status ≡ Memory))
      all_loaded None texts loaded = tt
      all_loaded (Some i) texts loaded = λ missing. absurd (loaded missing)

      no_failure : (invocation : Option Invocation) (texts : Texts) (failures failures_after : List (List ℕ))
          → failures_after ≡ failures → HasLoadedBy invocation texts failures failures_after
      no_failure None texts failures failures_after same = same
      no_failure (Some i) texts failures failures_after same = none_failed same

-- what is asked isn't known, and nothing is done
unready_call : Laws → AcceptedScriptsRunSoundly
    → (held : Held) (invocation : Option Invocation) (failures failures_after : List (List ℕ)) (fault : LoadFault)
    (status : Status) (devices : Devices) (Unasked : Type 0) → Unasked
    → (status ≡ ReadFault) ⊎ (status ≡ Memory) → (status ≡ ReadFault → ¬ (failures_after ≡ failures)) → IsUnready held invocation failures failures_after fault
    → IsCall held invocation failures failures_after status devices devices Unasked
unready_call laws accepted held invocation failures failures_after fault status devices Unasked unasked why failed unready =
    let texts = unready.texts in record {
      texts = texts;
      are_texts = unready.are_texts;
      leaves = undone (Asks invocation texts) status devices (unanswered why) (short why);
      one_answer = one_answer laws invocation texts;
      once = told_once laws.once invocation texts.script texts.kind_file;
      comes = λ request asks. interrupts_each request status (interrupts why);
      unloaded = each invocation;
      loads = unready.loads;
      read_cut = λ told. inl (failed told);
      limit_cut = λ told. absurd (not_long why told);
      first = inl unasked;
      ended = λ reads finished. absurd (unanswered why (finished_answers status finished));
      sound = λ run asks. asked_runs_soundly accepted invocation texts run asks;
    } where
      unanswered : (status ≡ ReadFault) ⊎ (status ≡ Memory) → ¬ IsAnswer status
      unanswered (inl is) answers = subst IsAnswer is answers
      unanswered (inr is) answers = subst IsAnswer is answers

      short : (status ≡ ReadFault) ⊎ (status ≡ Memory) → (meaning_of status).too_long ≡ false
      short (inl is) = ap (λ s. (meaning_of s).too_long) is
      short (inr is) = ap (λ s. (meaning_of s).too_long) is

      interrupts : (status ≡ ReadFault) ⊎ (status ≡ Memory) → IsInterrupted status
      interrupts (inl is) = subst IsInterrupted (sym is) tt
      interrupts (inr is) = subst IsInterrupted (sym is) tt

      not_long : (status ≡ ReadFault) ⊎ (status ≡ Memory) → status ≡ TooMuch → ⊥
      not_long (inl is) long = let wrong : ReadFault ≡ TooMuch = sym is ∙ long in cc
      not_long (inr is) long = let wrong : Memory ≡ TooMuch = sym is ∙ long in cc

      each : (invocation : Option Invocation)
          → IfSome invocation (λ i. IsUnloaded i unready.texts → (status ≡ ReadFault) ⊎ (status ≡ Memory))
      each None = tt
      each (Some i) = λ missing. why

pub failed_call : Laws → AcceptedScriptsRunSoundly
    → (held : Held) (invocation : Option Invocation) (failures failures_after : List (List ℕ)) (devices : Devices)
    (Unasked : Type 0) → Unasked
    → IsUnready held invocation failures failures_after fault.Failed → IsCall held invocation failures failures_after ReadFault devices devices Unasked
failed_call laws accepted held invocation failures failures_after devices Unasked unasked unready =
    unready_call laws accepted held invocation failures failures_after fault.Failed ReadFault devices Unasked unasked (inl refl) (λ is. unready.cause) unready

pub wanting_call : Laws → AcceptedScriptsRunSoundly
    → (held : Held) (invocation : Option Invocation) (failures failures_after : List (List ℕ)) (devices : Devices)
    (Unasked : Type 0) → Unasked
    → IsUnready held invocation failures failures_after fault.Memory → IsCall held invocation failures failures_after Memory devices devices Unasked
wanting_call laws accepted held invocation failures failures_after devices Unasked unasked unready =
    unready_call laws accepted held invocation failures failures_after fault.Memory Memory devices Unasked unasked (inr refl) (λ is. absurd cc) unready

-- ---- what is refused

run_not_refused : (s : Status) → IsFinished s ⊎ IsInterrupted s ⊎ (s ≡ TooMuch) → TellsRefusal s → ⊥
run_not_refused Done comes refuses = refuses
run_not_refused Refused (inl finished) refuses = finished
run_not_refused Refused (inr (inl interrupted)) refuses = interrupted
run_not_refused Refused (inr (inr is)) refuses = cc
run_not_refused Usage (inl finished) refuses = finished
run_not_refused Usage (inr (inl interrupted)) refuses = interrupted
run_not_refused Usage (inr (inr is)) refuses = cc
run_not_refused KindRefused (inl finished) refuses = finished
run_not_refused KindRefused (inr (inl interrupted)) refuses = interrupted
run_not_refused KindRefused (inr (inr is)) refuses = cc
run_not_refused s comes refuses = refuses

-- where a refusal is told nothing was asked of the input
pub refused_unasked : {held : Held} {invocation : Option Invocation} {failures failures_after : List (List ℕ)} {status : Status} {before after : Devices} {Unasked : Type 0} → IsCall held invocation failures failures_after status before after Unasked → TellsRefusal status → Unasked
refused_unasked {invocation = invocation} {status = status} {Unasked = Unasked} call refuses = of call.first where
  of : Unasked ⊎ ((run : ScriptRun) × Asks invocation call.texts (map_lines run)) → Unasked
  of (inl unasked) = unasked
  of (inr asked) = absurd (run_not_refused status (call.comes (map_lines asked.0) asked.1) refuses)

-- ---- where nothing fails

-- the answer comes, unless the input is too long or there is no memory
pub complete_of : {Read Output Report : Type 0} (s : Status) → (s ≡ ReadFault → Read) → (s ≡ WriteFault → Output ⊎ Report)
    → ¬ Read → ¬ Output → ¬ Report → IsAnswer s ⊎ (s ≡ Memory) ⊎ (s ≡ TooMuch)
complete_of Done read write unread unwritten unreported = inl tt
complete_of Refused read write unread unwritten unreported = inl tt
complete_of Usage read write unread unwritten unreported = inl tt
complete_of KindRefused read write unread unwritten unreported = inl tt
complete_of Marked read write unread unwritten unreported = inl tt
complete_of ReadFault read write unread unwritten unreported = absurd (unread (read refl))
complete_of WriteFault read write unread unwritten unreported = absurd (⊎_elim unwritten unreported (write refl))
complete_of Memory read write unread unwritten unreported = inr (inl refl)
complete_of TooMuch read write unread unwritten unreported = inr (inr refl)
