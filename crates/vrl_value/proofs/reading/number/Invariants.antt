use Rattle.std.proofs.Common.{◌≡◌, ◌^◌, ◌<◌, Some}
use Rattle.vrl_value.specs.Scan.{number_at}
use Rattle.vrl_value.proofs.reading.number.Given as goal

-- so many digits are read
abbrev pub invariant-loop : goal.invariant-loop
invariant-loop l = record { read : number_at l.counter l.text ≡ Some (l.number, l.rest); bound : l.number < 10 ^ l.counter }
