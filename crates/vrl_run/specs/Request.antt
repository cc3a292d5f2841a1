-- What a call asks.
use Rattle.std.specs.Prelude.{◌≡◌, ◌⊎◌, ℕ, ◌≤◌, Bool, List, ⊤}
use Rattle.vrl_diag.specs.declared.diagnostic.Diagnostic.{Diagnostic}
use Rattle.vrl_kind.specs.KindTree.{KindTree}
use Rattle.vrl_kindfile.specs.declared.fault.KindFault.{KindFault}
use Rattle.vrl_resolve.specs.Program.{ProgramTree, program_of}
use Rattle.vrl_state.specs.declared.known.Known.{Known}
use Rattle.vrl_run.specs.LineResult.{HandlesErrors}
use Rattle.vrl_run.specs.Status.{IsFinished, IsInterrupted}
use Rattle.vrl_run.specs.declared.options.Options.{Options}
use Rattle.vrl_run.specs.declared.request.Request.{Request as Asked}
use Rattle.vrl_run.specs.declared.request.Request.TheVariants as asked
use Rattle.vrl_run.specs.declared.ready_script.ReadyScript.{ReadyScript}
use Rattle.vrl_run.specs.declared.status.Status.{Status}
use Rattle.vrl_run.specs.declared.status.Status.TheVariants.{KindRefused, Refused, TooMuch, Usage}

-- a script that is to run
pub record ScriptRun : Type 0 where
  -- the bytes of its text
  pub text : List ℕ
  -- the program that it is run as
  pub program : ProgramTree
  -- the kind of the events that it takes
  pub declared : KindTree
  -- what a line stands for, and what becomes of an event over which it ends early
  pub options : Options
  pub warnings : List Diagnostic

pub data Request : Type 0 where
  -- the words are refused
  bad_words : Request
  -- the kind file is refused, and why
  bad_kind : KindFault → Request
  -- the script is refused: its text, and what is wrong with it
  bad_script : List ℕ → List Diagnostic → Request
  -- the script runs over the lines of the input
  map_lines : ScriptRun → Request
  -- it runs over so many lines, which are made from this seed
  map_made : ScriptRun → ℕ → ℕ → Request
  -- the kinds are told that a script may end with: its text, its warnings, the kind of its value,
  -- what is known at its end, and whether the kind of the metadata is told, too
  tell_kinds : List ℕ → List Diagnostic → KindTree → Known → Bool → Request

-- this request, and no other
abbrev pub IsSame : Request → Request → Type 0
IsSame request other = other ≡ request

-- ---- as the code holds it

abbrev pub run_of : ReadyScript → ScriptRun
run_of script = record {
  text = script.text;
  program = program_of script.program;
  declared = script.declared;
  options = script.options;
  warnings = script.warnings;
}

abbrev pub request_of : Asked → Request
request_of asked.Words = bad_words
request_of (asked.Kind fault) = bad_kind fault
request_of (asked.Refused text diagnostics) = bad_script text diagnostics
request_of (asked.Run script) = map_lines (run_of script)
request_of (asked.Generate script count seed) = map_made (run_of script) count seed
request_of (asked.Check text warnings K known envelope) = tell_kinds text warnings K known envelope

-- a script that is to run handles each of its errors, and its regex literals have these sources
pub record IsReadyScript (script : ReadyScript) : Type 0 where
  pub sources : script.sources ≡ (program_of script.program).sources
  pub handled : HandlesErrors script.declared (program_of script.program)

-- a request is ready where the script that is to run is; at most 1,000,000 lines are made
abbrev pub IsReadyRequest : Asked → Type 0
IsReadyRequest asked.Words = ⊤
IsReadyRequest (asked.Kind fault) = ⊤
IsReadyRequest (asked.Refused text diagnostics) = ⊤
IsReadyRequest (asked.Run script) = IsReadyScript script
IsReadyRequest (asked.Generate script count seed) = IsReadyScript script × (count ≤ 1000000)
IsReadyRequest (asked.Check text warnings K known envelope) = ⊤

-- ---- what may come of it

-- the lines of the input are read
abbrev pub ReadsLines : Request → Type 0
ReadsLines (map_lines run) = ⊤
ReadsLines request = ⊥

-- The statuses that may come of a request: its own, or that a device failed or memory was wanted.
-- Where lines are read there may be too many bytes.
abbrev pub MayCome : Request → Status → Type 0
MayCome bad_words status = (status ≡ Usage) ⊎ IsInterrupted status
MayCome (bad_kind fault) status = (status ≡ KindRefused) ⊎ IsInterrupted status
MayCome (bad_script text diagnostics) status = (status ≡ Refused) ⊎ IsInterrupted status
MayCome (map_lines run) status = IsFinished status ⊎ IsInterrupted status ⊎ (status ≡ TooMuch)
MayCome (map_made run count seed) status = IsFinished status ⊎ IsInterrupted status
MayCome (tell_kinds text warnings K known envelope) status = IsFinished status ⊎ IsInterrupted status
