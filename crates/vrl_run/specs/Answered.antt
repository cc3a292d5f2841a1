-- What a call leaves in its devices, by what it asks.
use Rattle.std.specs.Prelude.{◌≡◌, ℕ, ◌+◌, ◌<◌, List, ◌++◌, length, map, ℤ, option_map, IfSome, ◌⊎◌}
use Rattle.vrl_value.specs.Moment.{IsInRange}
use Rattle.vrl_batch.specs.declared.work.LineOut.{LineOut}
use Rattle.vrl_batch.specs.Batches.{lines_in_whole}
use Rattle.vrl_batch.specs.Lines.{ended_of, event_lines}
use Rattle.vrl_batch.specs.Moments.{MovesOn, lines_by}
use Rattle.vrl_run.specs.Answer.{answer_so_far, answer_to, outputs, reports, result_of, warnings_of}
use Rattle.vrl_run.specs.Devices.{Devices, HasCauses, HoldsAnswer, HoldsBytes, HoldsFronts, IsAskedAtMost, IsNothing, IsReadToEnd, AreTold, IsWithinLimit}
use Rattle.vrl_run.specs.Request.{MayCome, ReadsLines, Request, ScriptRun, map_lines}
use Rattle.vrl_run.specs.Status.{IsAnswer, IsInterrupted, meaning_of}
use Rattle.vrl_run.specs.declared.status.Status.{Status}
use Rattle.vrl_run.specs.declared.status.Status.TheVariants.{ReadFault, TooMuch}

-- A call asks one of these requests, of an input with these bytes, at these moments, as far as the
-- input and the clock tell them.
pub record IsAsked (asks : Request → Type 0) (before : Devices) : Type 0 where
  pub request : Request
  pub asked : asks request
  pub input : List ℕ
  pub moments : ℕ → ℤ
  pub told : AreTold input moments before

-- The sinks hold the whole of the answer, and the status is its own. Where lines are read, they
-- were to their end.
pub record IsWhole (asks : Request → Type 0) (status : Status) (before after : Devices) : Type 0 where
  pub asked : IsAsked asks before
  pub holds : HoldsAnswer (answer_to asked.request asked.input asked.moments) status before after
  pub read : ReadsLines asked.request → IsReadToEnd asked.input asked.moments before after

-- The sinks hold a front of the answer. Where lines are read, it is that of the first of them, so
-- many, which were run at moments in the range.
pub record IsFront (asks : Request → Type 0) (before after : Devices) : Type 0 where
  pub asked : IsAsked asks before
  pub ran : ℕ
  pub in_range : ReadsLines asked.request → (i : ℕ) → i < ran → IsInRange (asked.moments i)
  pub holds : HoldsFronts (answer_so_far ran asked.request asked.input asked.moments).output
      (answer_so_far ran asked.request asked.input asked.moments).report before after

-- the results of the batches that are whole among the lines that have ended in these bytes
abbrev pub whole_results : ScriptRun → (ℕ → ℤ) → List ℕ → List LineOut
whole_results run moments input = map (result_of run) (lines_by moments (lines_in_whole (event_lines (ended_of input))))

-- A run over the lines of the input is cut off: of its bytes these were taken, and so many behind
-- them. The sinks hold the warnings and the results of the whole batches, and the clock told a
-- moment for each line that has ended and isn't blank.
pub record IsCutOff (asks : Request → Type 0) (more : ℕ) (before after : Devices) : Type 0 where
  pub run : ScriptRun
  pub asked : asks (map_lines run)
  pub input : List ℕ
  pub behind : List ℕ
  pub is_left : before.left ≡ option_map (λ rest. (input ++ behind) ++ rest) after.left
  pub counted : after.taken ≡ before.taken + length (input ++ behind)
  pub more_is : length behind ≡ more
  pub moments : ℕ → ℤ
  pub are_ahead : IfSome before.ahead (λ told. (i : ℕ) → told i ≡ moments i)
  pub in_range : (i : ℕ) → i < length (lines_in_whole (event_lines (ended_of input))) → IsInRange (moments i)
  pub clock : MovesOn before.ahead (length (event_lines (ended_of input))) after.ahead
  pub holds : HoldsBytes (outputs (whole_results run moments input))
      (warnings_of run ++ reports (whole_results run moments input)) before after

-- nothing was written but a front of the answer
abbrev pub IsAtMostFront : (asks : Request → Type 0) (before after : Devices) → Type 0
IsAtMostFront asks before after = IsNothing before after ⊎ IsFront asks before after

-- A call that asks one of these requests leaves its devices so.
pub record LeavesDevices (asks : Request → Type 0) (status : Status) (before after : Devices) : Type 0 where
  -- an answer comes with all its bytes, and is the answer to what was asked
  pub whole : IsAnswer status → IsWhole asks status before after
  -- whatever the status, nothing is written but a front of that answer
  pub front : IsAtMostFront asks before after
  -- no more of the input is taken than may be, and a status of its own says that there is more
  pub limit : IsWithinLimit (meaning_of status).too_long before after
  -- and for no line of it the clock tells more than one moment
  pub clock : IsAskedAtMost before after

-- What is done of a call that asks one of these requests. `Unasked` says that neither the input nor
-- the clock was asked.
pub record IsAnswered (asks : Request → Type 0) (status : Status) (before after : Devices)
    (Unasked : Type 0) : Type 0 where
  pub leaves : LeavesDevices asks status before after
  pub causes : HasCauses status before after
  -- where the input fails, or has too many bytes, of which one was taken, the batches before that
  -- are written whole, and no part of another
  pub read_cut : status ≡ ReadFault → IsCutOff asks 0 before after
  pub limit_cut : status ≡ TooMuch → IsCutOff asks 1 before after
  -- the status is one that may come of what was asked, or a device failed or memory was wanted
  -- before that was known
  pub came : IsInterrupted status ⊎ ((request : Request) × asks request × MayCome request status)
  -- the input and the clock are asked for a run over lines alone
  pub first : Unasked ⊎ ((run : ScriptRun) × asks (map_lines run))
