use Rattle.std.proofs.Common.{◌≡◌, ◌<◌, ◌^◌, drop}
use Rattle.vrl_token.specs.Numbers.{decimal_value}
use Rattle.vrl_token.proofs.number.magnitude.Given as goal

abbrev pub invariant-loop-byte : goal.invariant-loop-byte
invariant-loop-byte l = (decimal_value l.value (drop l.byte-index l.byte-items) ≡ decimal_value 0 l.digits) × (l.value < 2 ^ 64)
