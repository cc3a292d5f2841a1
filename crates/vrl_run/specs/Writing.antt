-- What the sinks hold once an answer was written.
use Rattle.std.specs.Prelude.{◌≡◌, ◌⊎◌, ℕ, ℤ, List, Option}
use Rattle.vrl_batch.specs.Sinks.{Appends, AppendsFront}
use Rattle.vrl_run.specs.Answer.{answer_to}
use Rattle.vrl_run.specs.Devices.{Answer}
use Rattle.vrl_run.specs.Request.{Request}
use Rattle.vrl_run.specs.Status.{IsAnswer}
use Rattle.vrl_run.specs.declared.status.Status.{Status}
use Rattle.vrl_run.specs.declared.status.Status.TheVariants.{Memory, WriteFault}
use Rattle.vrl_run.specs.declared.writing.Told.{Told}

-- an answer, as the code holds it
abbrev pub answer_in : Told → Answer
answer_in told = record { status = told.status; output = told.output.items; report = told.report.items }

-- it is the answer to this request, of which no input is read
pub record IsTold (request : Request) (told : Told) : Type 0 where
  pub answered : (input : List ℕ) (moments : ℕ → ℤ) → answer_in told ≡ answer_to request input moments
  pub answers : IsAnswer told.status

-- the answer was written whole, or a sink failed, or nothing was for want of memory
pub record IsWritten (answer : Answer) (status : Status)
    (output output_after report report_after : Option (List ℕ)) : Type 0 where
  pub whole : IsAnswer status → Appends output output_after answer.output × Appends report report_after answer.report
  pub front : AppendsFront output output_after answer.output × AppendsFront report report_after answer.report
  -- of the report nothing is written before all of the output
  pub order : Appends output output_after answer.output ⊎ (report_after ≡ report)
  pub either : (status ≡ answer.status) ⊎ (status ≡ WriteFault) ⊎ (status ≡ Memory)
