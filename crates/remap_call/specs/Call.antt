-- What a call of the program comes to.
use Rattle.std.specs.Prelude.{◌≡◌, ◌⊎◌, ℕ, List, Option, IfSome, IsTrue}
use Rattle.vrl_run.specs.Answered.{IsCutOff, LeavesDevices}
use Rattle.vrl_run.specs.Devices.{Devices, Held}
use Rattle.vrl_run.specs.Request.{MayCome, Request, ScriptRun, map_lines}
use Rattle.vrl_run.specs.Status.{IsFinished}
use Rattle.vrl_run.specs.declared.status.Status.{Status}
use Rattle.vrl_run.specs.declared.status.Status.TheVariants.{Memory, ReadFault, TooMuch}
use Rattle.remap_call.specs.OneAnswer.{HasOneAnswer}
use Rattle.remap_call.specs.Request.{AreTexts, AreToldOnce, Asks, AsksToRun, HasLoadedBy, IsUnloaded, ReadsLines, RunsSoundly, Texts}
use Rattle.remap_words.specs.Words.{Invocation}

-- A call whose words mean this, or are refused, over a store that holds this, ended with this
-- status; its store had these failures before and after, and its devices told this. All is told of
-- the same texts: the bytes of the call's script and of its kind file. `Unasked` says that neither
-- the input nor the clock was asked.
pub record IsCall (held : Held) (invocation : Option Invocation) (failures failures_after : List (List ℕ))
    (status : Status) (before after : Devices) (Unasked : Type 0) : Type 0 where
  pub texts : Texts
  pub are_texts : AreTexts held invocation texts
  -- An answer comes with all its bytes, and is the answer to what was asked. Whatever the status,
  -- nothing is written but a front of that answer, and no more of the input is taken than may be.
  pub leaves : LeavesDevices (Asks invocation texts) status before after
  -- One answer fits what is asked.
  pub one_answer : HasOneAnswer (Asks invocation texts)
  -- No diagnostic of a script is told twice.
  pub once : AreToldOnce (Asks invocation texts)
  -- The status is one that may come of what is asked: its own, or that a device failed or memory
  -- was wanted.
  pub comes : (request : Request) → Asks invocation texts request → MayCome request status
  -- Where a name has no bytes, that it could not be loaded is told, or want of memory.
  pub unloaded : IfSome invocation (λ i. IsUnloaded i texts → (status ≡ ReadFault) ⊎ (status ≡ Memory))
  -- No other name is loaded than that of the script and that of the kind file, and this once the
  -- script is known to be a text.
  pub loads : HasLoadedBy invocation texts failures failures_after
  -- Where the input fails, or has too many bytes, the batches before that are written whole, and no
  -- part of another.
  pub read_cut : status ≡ ReadFault → ¬ (failures_after ≡ failures) ⊎ IsCutOff (Asks invocation texts) 0 before after
  pub limit_cut : status ≡ TooMuch → IsCutOff (Asks invocation texts) 1 before after
  -- The input and the clock are asked only to run a script over lines, once it is accepted.
  pub first : Unasked ⊎ ((run : ScriptRun) × Asks invocation texts (map_lines run))
  -- Lines are answered once the input has said that it is at its end.
  pub ended : ReadsLines invocation → IsFinished status → IsTrue after.ended
  -- A script that runs handles each of its errors, and what it leaves is of the kinds that were
  -- judged.
  pub sound : (run : ScriptRun) → AsksToRun invocation texts run → RunsSoundly run.declared run.text run.program
