-- How much of an input is read.
use Rattle.std.specs.Prelude.{ℕ}

-- an input has at most 2^40 bytes
abbrev pub input_limit : ℕ
input_limit = 1099511627776
