-- The result of a line that was read.
use Rattle.std.proofs.Common.{◌≡◌, true, false, IsTrue, Bool, Some, refl}
use Rattle.std.specs.Prelude.{IfOk}
use Rattle.std.specs.declared.result.Result.{Result}
use Rattle.vrl_value.specs.Tree.{Tree}
use Rattle.vrl_value.specs.declared.memory.Memory.{Memory}
use Rattle.vrl_json.specs.Line.{reading_of, whole}
use Rattle.vrl_kind.specs.KindTree.{KindTree}
use Rattle.vrl_kind.specs.Kinds.{Inhabits}
use Rattle.vrl_kind.specs.TreeTest.{InhabitsIsComputed, inhabits_tree}
use Rattle.vrl_batch.specs.declared.line.Line.{Line}
use Rattle.vrl_batch.specs.declared.work.LineOut.{LineOut}
use Rattle.vrl_resolve.specs.Program.{ProgramTree, ended_over}
use Rattle.vrl_run.specs.LineResult.{event_result, parts_of, refused_line, result_of_line, result_of_reading}
use Rattle.vrl_run.specs.declared.options.Options.{Options}
use Rattle.vrl_run.specs.declared.reason.Reason.TheVariants.{NotDeclared}

-- it is that of what was read
pub of_read : (program : ProgramTree) (declared : KindTree) (options : Options) (line : Line) (t : Tree) (result : Result LineOut Memory) → line.long ≡ false → reading_of line.bytes ≡ whole t
    → IfOk result (λ out. out ≡ result_of_reading program declared options line (whole t)) → IfOk result (λ out. out ≡ result_of_line program declared options line)
of_read program declared options line t result short reading told = rw (short, reading) told

-- one whose event is of the declared kind
pub of_kind : (program : ProgramTree) (declared : KindTree) (options : Options) (line : Line) (t : Tree) (parts : Tree × Tree) (result : Result LineOut Memory) → InhabitsIsComputed → parts_of options.envelope t ≡ Some parts → Inhabits parts.0 declared
    → IfOk result (λ out. out ≡ event_result program.sources options line.number parts (ended_over program line.moment parts.0 parts.1)) → IfOk result (λ out. out ≡ result_of_reading program declared options line (whole t))
of_kind program declared options line t parts result computed are is told = let test : inhabits_tree parts.0 declared ≡ true = (computed parts.0 declared).1 is in rw (are, test) told

not_so : (b : Bool) → (IsTrue b → ⊥) → b ≡ false
not_so true none = absurd (none refl)
not_so false none = refl

-- and another
pub of_another : (program : ProgramTree) (declared : KindTree) (options : Options) (line : Line) (t : Tree) (parts : Tree × Tree) (result : Result LineOut Memory) → InhabitsIsComputed → parts_of options.envelope t ≡ Some parts → ¬ Inhabits parts.0 declared
    → IfOk result (λ out. out ≡ refused_line NotDeclared line.number) → IfOk result (λ out. out ≡ result_of_reading program declared options line (whole t))
of_another program declared options line t parts result computed are other told =
    let test : inhabits_tree parts.0 declared ≡ false = not_so (inhabits_tree parts.0 declared) (λ holds. other ((computed parts.0 declared).0 holds)) in rw (are, test) told
