-- What a fault is printed as, and what becomes of the faults of the parts of a reading.
use Rattle.std.specs.Prelude.{ℕ, List, ◌++◌, codes}
use Rattle.vrl_json.specs.declared.fault.JsonFault.{JsonFault}
use Rattle.vrl_json.specs.declared.fault.JsonFault.TheVariants as json
use Rattle.vrl_kindfile.specs.declared.fault.KindFault.{KindFault}
use Rattle.vrl_kindfile.specs.declared.fault.KindFault.TheVariants as fault
use Rattle.vrl_kindfile.specs.declared.refusal.Refusal.{Refusal}
use Rattle.vrl_kindfile.specs.declared.refusal.Refusal.TheVariants as refusal

abbrev pub text_of : KindFault → List ℕ
text_of fault.TooLong = codes "kind file: too long"
text_of fault.NotJson = codes "kind file: not JSON"
text_of (fault.Bad pointer) = codes "kind file: bad kind at " ++ pointer
text_of fault.Memory = codes "out of memory"

abbrev pub of_json : JsonFault → KindFault
of_json json.NotJson = fault.NotJson
of_json json.NotWhole = fault.NotJson
of_json json.Memory = fault.Memory

abbrev pub of_refusal : Refusal → KindFault
of_refusal (refusal.Bad pointer) = fault.Bad pointer
of_refusal refusal.Memory = fault.Memory
