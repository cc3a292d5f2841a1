-- What answers a request: the status, and the bytes that belong to it.
use Rattle.std.specs.Prelude.{ℕ, ℤ, List, [], ◌∷◌, ◌++◌, map, take, Bool, true, false, not, if◌then◌else◌, codes}
use Rattle.std.specs.List.{flat_map}
use Rattle.vrl_batch.specs.Lines.{event_lines}
use Rattle.vrl_batch.specs.Moments.{lines_by}
use Rattle.vrl_batch.specs.declared.line.Line.{Line}
use Rattle.vrl_batch.specs.declared.work.LineOut.{LineOut}
use Rattle.vrl_diag.specs.Rendering.{diagnostic_lines}
use Rattle.vrl_generate.specs.Made.{made_lines}
use Rattle.vrl_generate.specs.Summary.{is_marked, summary_of}
use Rattle.vrl_kind.specs.KindTree.{KindTree}
use Rattle.vrl_kind.specs.Print.{printed}
use Rattle.vrl_kindfile.specs.Lines.{text_of}
use Rattle.vrl_state.specs.declared.known.Known.{Known}
use Rattle.vrl_state.specs.declared.known.Known.TheVariants.{Dead, Alive}
use Rattle.vrl_state.specs.declared.known.RootKind.{RootKind}
use Rattle.vrl_syntax.specs.Stores.{is_metadata}
use Rattle.vrl_syntax.specs.declared.root.Root.{Root}
use Rattle.vrl_syntax.specs.declared.root.Root.TheVariants.{Event, Name}
use Rattle.vrl_run.specs.Devices.{Answer}
use Rattle.vrl_run.specs.LineResult.{result_of_line}
use Rattle.vrl_run.specs.Request.{Request, ScriptRun, bad_words, bad_kind, bad_script, map_lines, map_made, tell_kinds}
use Rattle.vrl_run.specs.declared.status.Status.{Status}
use Rattle.vrl_run.specs.declared.status.Status.TheVariants.{Done, Refused, Usage, KindRefused, Marked}

-- ---- the results of lines

abbrev pub result_of : ScriptRun → Line → LineOut
result_of run line = result_of_line run.program run.declared run.options line

-- the results of the lines of an input that aren't blank, each at its moment
abbrev pub line_results : ScriptRun → (ℕ → ℤ) → List ℕ → List LineOut
line_results run moments input = map (result_of run) (lines_by moments (event_lines input))

-- what would be written of results, joined in their order
abbrev pub outputs : List LineOut → List ℕ
outputs results = flat_map (λ r. r.output) results

-- and what is reported of them
abbrev pub reports : List LineOut → List ℕ
reports results = flat_map (λ r. r.report) results

-- the results of made lines
abbrev pub made_results : ScriptRun → ℕ → ℕ → List LineOut
made_results run count seed = map (result_of run) (made_lines count seed)

-- whether some line was refused
abbrev pub status_if : Bool → Status
status_if marked = if marked then Marked else Done

-- ---- the kinds that are told

-- a name, and a kind as text (docs/LANGUAGE.md tells how)
abbrev pub kind_line : List ℕ → KindTree → List ℕ
kind_line name K = name ++ (32 ∷ (printed K ++ 10 ∷ []))

-- the event is told as `.`
abbrev pub name_of : Root → List ℕ
name_of Event = codes "."
name_of (Name x) = x

-- the metadata is told with envelopes alone
abbrev pub is_told : Bool → Root → Bool
is_told true root = true
is_told false root = not (is_metadata root)

abbrev pub root_line : Bool → RootKind → List ℕ
root_line envelope root = if is_told envelope root.root then kind_line (name_of root.root) root.kind else []

-- the kind of the value that a script ends with, and that of each root which is known there; where
-- it ends with none, nothing is
abbrev pub kind_lines : KindTree → Known → Bool → List ℕ
kind_lines K Dead envelope = codes "result never" ++ (10 ∷ (codes ". never" ++ 10 ∷ []))
kind_lines K (Alive roots) envelope = kind_line (codes "result") K ++ flat_map (root_line envelope) roots

-- ---- the answer of a call

abbrev pub usage_line : List ℕ
usage_line =
    codes "usage: remap SCRIPT [--kind FILE] [--jobs N] [--drop-on-error] [--keep-on-abort] [--envelope]"
    ++ (codes " [--check] [--generate COUNT:SEED]" ++ 10 ∷ [])

-- a refusal writes no event
abbrev pub refusal : Status → List ℕ → Answer
refusal status report = record { status = status; output = []; report = report }

-- the warnings, and then the results of the lines, joined in their order
abbrev pub mapped : List ℕ → List LineOut → Answer
mapped warnings results = record {
  status = status_if (is_marked results);
  output = outputs results;
  report = warnings ++ reports results;
}

abbrev pub warnings_of : ScriptRun → List ℕ
warnings_of run = diagnostic_lines run.text run.warnings

-- in place of the results their sum is told
abbrev pub summed : List ℕ → List LineOut → Answer
summed warnings results =
    record { status = status_if (is_marked results); output = summary_of results; report = warnings }

-- the answer to a request over this input, of which the lines that aren't blank are run at these
-- moments, the first at the first
abbrev pub answer_to : Request → List ℕ → (ℕ → ℤ) → Answer
answer_to bad_words input moments = refusal Usage usage_line
answer_to (bad_kind fault) input moments = refusal KindRefused (text_of fault ++ 10 ∷ [])
answer_to (bad_script text diagnostics) input moments = refusal Refused (diagnostic_lines text diagnostics)
answer_to (map_lines run) input moments = mapped (warnings_of run) (line_results run moments input)
answer_to (map_made run count seed) input moments = summed (warnings_of run) (made_results run count seed)
answer_to (tell_kinds text warnings K known envelope) input moments =
    record { status = Done; output = kind_lines K known envelope; report = diagnostic_lines text warnings }

-- the same once so many lines were run
abbrev pub answer_so_far : ℕ → Request → List ℕ → (ℕ → ℤ) → Answer
answer_so_far ran (map_lines run) input moments = mapped (warnings_of run) (take ran (line_results run moments input))
answer_so_far ran request input moments = answer_to request input moments
