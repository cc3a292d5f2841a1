-- Lines from which no value is read.
use Rattle.std.specs.Prelude.{◌≡◌, ℕ, ⊤}
use Rattle.std.specs.declared.result.Result.{Result}
use Rattle.std.specs.declared.result.Result.TheVariants.{Ok, Err}
use Rattle.vrl_value.specs.declared.memory.Memory.{Memory}
use Rattle.vrl_json.specs.declared.fault.JsonFault.{JsonFault}
use Rattle.vrl_json.specs.declared.fault.JsonFault.TheVariants as fault
use Rattle.vrl_batch.specs.declared.work.LineOut.{LineOut}
use Rattle.vrl_run.specs.declared.reason.Reason.{Reason}
use Rattle.vrl_run.specs.declared.reason.Reason.TheVariants.{NotJson, NotWhole}
use Rattle.vrl_run.specs.LineResult.{refused_line}

-- why such a line is refused; for want of memory it isn't
abbrev pub IsReasonOf : JsonFault → Result Reason Memory → Type 0
IsReasonOf fault.NotJson result = result ≡ Ok NotJson
IsReasonOf fault.NotWhole result = result ≡ Ok NotWhole
IsReasonOf fault.Memory (Ok reason) = ⊥
IsReasonOf fault.Memory (Err memory) = ⊤

-- what is made of it
abbrev pub IsUnread : JsonFault → ℕ → LineOut → Type 0
IsUnread fault.NotJson number out = out ≡ refused_line NotJson number
IsUnread fault.NotWhole number out = out ≡ refused_line NotWhole number
IsUnread fault.Memory number out = ⊥
