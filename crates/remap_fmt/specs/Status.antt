-- What each status says.
use Rattle.std.specs.Prelude.{ℕ, ⊤}
use Rattle.remap_fmt.specs.declared.status.FmtStatus.{FmtStatus}
use Rattle.remap_fmt.specs.declared.status.FmtStatus.TheVariants.{Done, Refused, Usage, ReadFault, WriteFault, Memory, TooLong}

-- what a program that ends so tells its caller
abbrev pub number_of : FmtStatus → ℕ
number_of Done = 0
number_of Refused = 1
number_of Usage = 2
number_of ReadFault = 3
number_of WriteFault = 4
number_of Memory = 5
number_of TooLong = 6

-- it is the answer to what was asked: no device failed, and memory was not wanted
abbrev pub IsAnswer : FmtStatus → Type 0
IsAnswer ReadFault = ⊥
IsAnswer WriteFault = ⊥
IsAnswer Memory = ⊥
IsAnswer status = ⊤
