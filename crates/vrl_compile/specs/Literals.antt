-- What is told where regex literals aren't built.
use Rattle.std.specs.Prelude.{◌≡◌, List, ⊤}
use Rattle.std.specs.declared.result.Result.{Result}
use Rattle.std.specs.declared.result.Result.TheVariants.{Ok, Err}
use Rattle.vrl_diag.specs.declared.diagnostic.Diagnostic.{Diagnostic}
use Rattle.vrl_value.specs.declared.memory.Memory.{Memory as WantOfMemory}
use Rattle.vrl_compile.specs.declared.literals.LiteralFault.{LiteralFault}
use Rattle.vrl_compile.specs.declared.literals.LiteralFault.TheVariants.{Malformed, Memory}
use Rattle.vrl_compile.specs.declared.script.Compiled.{Compiled}
use Rattle.vrl_compile.specs.declared.script.Compiled.TheVariants.{Refused}

-- this holds of the diagnostics of malformed literals; want of memory has none
abbrev pub OnMalformed : (List Diagnostic → Type 0) → LiteralFault → Type 0
OnMalformed P (Malformed found) = P found.items
OnMalformed P Memory = ⊤

-- what is answered: a refusal with these diagnostics, and none for want of memory
abbrev pub IsRefusedFor : LiteralFault → Result Compiled WantOfMemory → Type 0
IsRefusedFor (Malformed found) result = result ≡ Ok (Refused found.items)
IsRefusedFor Memory (Ok compiled) = ⊥
IsRefusedFor Memory (Err refused) = ⊤
