-- A run over lines, batch by batch, by what is made of each line.
use Rattle.std.specs.Prelude.{◌≡◌, ◌⊎◌, ◌+◌, ◌≤◌, ℕ, Bool, true, false, List, [], ◌||◌, map, Option, IsTrue}
use Rattle.vrl_batch.specs.Limits.{input_limit}
use Rattle.vrl_batch.specs.Reads.{AsksAtMost, ReadsBatch, StopsReading, Stream}
use Rattle.vrl_batch.specs.Runs.{HasRead}
use Rattle.vrl_batch.specs.Sinks.{Appends, AppendsFront}
use Rattle.vrl_batch.specs.declared.fault.BatchFault.{BatchFault}
use Rattle.vrl_batch.specs.declared.fault.BatchFault.TheVariants as fault
use Rattle.vrl_batch.specs.declared.line.Line.{Line}
use Rattle.vrl_batch.specs.declared.work.LineOut.{LineOut}
use Rattle.vrl_generate.specs.Summary.{is_marked}
use Rattle.vrl_run.specs.Answer.{outputs, reports}
use Rattle.vrl_run.specs.declared.status.Status.{Status}
use Rattle.vrl_run.specs.declared.status.Status.TheVariants.{Memory, ReadFault, TooMuch, WriteFault}

-- what a run and its sinks tell at a time: what was read, what they hold, and whether a line was
-- refused
pub record Run : Type 0 where
  pub stream : Stream
  pub output : Option (List ℕ)
  pub report : Option (List ℕ)
  pub marked : Bool

abbrev pub run_at : Stream → Option (List ℕ) → Option (List ℕ) → Bool → Run
run_at stream output report marked = record { stream = stream; output = output; report = report; marked = marked }

-- the results of these lines were written
pub record WritesResults (result : Line → LineOut) (lines : List Line) (before after : Run) : Type 0 where
  pub output : Appends before.output after.output (outputs (map result lines))
  pub report : Appends before.report after.report (reports (map result lines))
  pub marked : after.marked ≡ (before.marked || is_marked (map result lines))

-- the lines of one batch more were read, and their results written
pub record MapsBatch (result : Line → LineOut) (before after : Run) (batch : List Line) : Type 0 where
  pub read : ReadsBatch before.stream after.stream batch
  pub writes : WritesResults result batch before after
  pub within : after.stream.reader.taken ≤ input_limit
  pub ended : batch ≡ [] → IsTrue after.stream.ended

-- the lines that were read since the beginning are done
pub record HasMapped (result : Line → LineOut) (begin now : Run) : Type 0 where
  pub lines : List Line
  pub read : HasRead begin.stream now.stream lines
  pub writes : WritesResults result lines begin now
  pub within : now.stream.reader.taken ≤ input_limit

-- nothing more was written
pub record IsStill (before after : Run) : Type 0 where
  pub output : after.output ≡ before.output
  pub report : after.report ≡ before.report

-- one batch more was read, and a front of its results was written; of its reports nothing before
-- all of its output
pub record WritesFront (result : Line → LineOut) (before after : Run) : Type 0 where
  pub batch : List Line
  pub read : ReadsBatch before.stream after.stream batch
  pub within : after.stream.reader.taken ≤ input_limit
  pub output : AppendsFront before.output after.output (outputs (map result batch))
  pub report : AppendsFront before.report after.report (reports (map result batch))
  pub order : Appends before.output after.output (outputs (map result batch)) ⊎
      (after.report ≡ before.report)

-- the run stops with this status: the input failed or has too many bytes, a sink failed, or memory
-- was wanted
abbrev pub StopsMapping : (Line → LineOut) → (before after : Run) → Status → Type 0
StopsMapping result before after ReadFault =
    StopsReading 0 before.stream after.stream × (after.stream.reader.taken ≤ input_limit) × IsStill before after
StopsMapping result before after TooMuch =
    StopsReading 1 before.stream after.stream × (after.stream.reader.taken ≡ input_limit + 1) × IsStill before after
StopsMapping result before after Memory = (after.stream.reader.taken ≤ input_limit) × IsStill before after
StopsMapping result before after WriteFault = WritesFront result before after
StopsMapping result before after status = ⊥

-- the run ends where no batch is left
pub record EndsMapping (result : Line → LineOut) (begin after : Run) : Type 0 where
  pub now : Run
  pub mapped : HasMapped result begin now
  pub last : MapsBatch result now after []
  pub asks : AsksAtMost now.stream after.stream

-- or it stops before, with this status
pub record HasStopped (result : Line → LineOut) (begin after : Run) (status : Status) : Type 0 where
  pub now : Run
  pub mapped : HasMapped result begin now
  pub stops : StopsMapping result now after status
  pub asks : AsksAtMost now.stream after.stream

-- how a run ends at a fault of its lines
abbrev pub stop_status : BatchFault → Status
stop_status fault.ReadFault = ReadFault
stop_status fault.TooMuch = TooMuch
stop_status fault.Memory = Memory

-- whether a batch has lines
abbrev pub TellsMore : Bool → List Line → Type 0
TellsMore true batch = ¬ (batch ≡ [])
TellsMore false batch = batch ≡ []
