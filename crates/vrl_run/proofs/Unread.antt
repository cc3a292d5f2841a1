-- What is made of a line from which no value is read.
use Rattle.std.proofs.Common.{◌≡◌, ℕ, false, refl, subst}
use Rattle.std.specs.Prelude.{IfOk}
use Rattle.std.specs.declared.result.Result.{Result}
use Rattle.std.specs.declared.result.Result.TheVariants.{Ok, Err}
use Rattle.vrl_value.specs.declared.memory.Memory.{Memory}
use Rattle.vrl_json.specs.Line.{not_json, not_whole, reading_of}
use Rattle.vrl_json.specs.declared.fault.JsonFault.{JsonFault}
use Rattle.vrl_json.specs.declared.fault.JsonFault.TheVariants as fault
use Rattle.vrl_kind.specs.KindTree.{KindTree}
use Rattle.vrl_resolve.specs.Program.{ProgramTree}
use Rattle.vrl_batch.specs.declared.line.Line.{Line}
use Rattle.vrl_batch.specs.declared.work.LineOut.{LineOut}
use Rattle.vrl_run.specs.LineResult.{refused_line, result_of_line, result_of_reading}
use Rattle.vrl_run.specs.Unread.{IsReasonOf, IsUnread}
use Rattle.vrl_run.specs.declared.options.Options.{Options}
use Rattle.vrl_run.specs.declared.reason.Reason.{Reason}
use Rattle.vrl_run.specs.declared.reason.Reason.TheVariants.{NotJson, NotWhole}

-- a line that is refused for the reason of a fault
for_reason : (f : JsonFault) (number : ℕ) (reason : Reason) (out : LineOut) → IsReasonOf f (Ok reason) → out ≡ refused_line reason number → IsUnread f number out
for_reason fault.NotJson number reason out is told = let same : reason ≡ NotJson = cc in subst (λ r. out ≡ refused_line r number) same told
for_reason fault.NotWhole number reason out is told = let same : reason ≡ NotWhole = cc in subst (λ r. out ≡ refused_line r number) same told
for_reason fault.Memory number reason out is told = absurd is

pub refused_for : (f : JsonFault) (number : ℕ) (reason : Reason) (result : Result LineOut Memory) → IsReasonOf f (Ok reason) → IfOk result (λ out. out ≡ refused_line reason number) → IfOk result (IsUnread f number)
refused_for f number reason (Ok out) is told = for_reason f number reason out is told
refused_for f number reason (Err refused) is told = tt

-- is the result of the line, by what the fault says of its bytes
unread_result : (program : ProgramTree) (declared : KindTree) (options : Options) (line : Line) (f : JsonFault) (result : Result LineOut Memory) → (f ≡ fault.NotJson → reading_of line.bytes ≡ not_json) → (f ≡ fault.NotWhole → reading_of line.bytes ≡ not_whole)
    → IfOk result (IsUnread f line.number) → IfOk result (λ out. out ≡ result_of_reading program declared options line (reading_of line.bytes))
unread_result program declared options line f (Err refused) json whole told = tt
unread_result program declared options line fault.NotJson (Ok out) json whole told = rw (json refl) told
unread_result program declared options line fault.NotWhole (Ok out) json whole told = rw (whole refl) told
unread_result program declared options line fault.Memory (Ok out) json whole told = absurd told

-- so it is of a line that isn't too long
pub unread_line : (program : ProgramTree) (declared : KindTree) (options : Options) (line : Line) (f : JsonFault) (result : Result LineOut Memory) → line.long ≡ false → (f ≡ fault.NotJson → reading_of line.bytes ≡ not_json) → (f ≡ fault.NotWhole → reading_of line.bytes ≡ not_whole)
    → IfOk result (IsUnread f line.number) → IfOk result (λ out. out ≡ result_of_line program declared options line)
unread_line program declared options line f result short json whole told = rw short (unread_result program declared options line f result json whole told)
