-- The texts of the faults of a set.
use Rattle.std.specs.Prelude.{ℕ, List, codes}
use Rattle.vrl_path.specs.declared.fault.SetFault.{SetFault}
use Rattle.vrl_path.specs.declared.fault.SetFault.TheVariants.{TooDeep, Memory}

abbrev pub fault_text : SetFault → List ℕ
fault_text TooDeep = codes "nested deeper than 128"
fault_text Memory = codes "out of memory"
