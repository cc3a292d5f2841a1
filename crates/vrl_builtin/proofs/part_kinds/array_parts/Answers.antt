use Rattle.std.specs.Prelude.{Some}
use Rattle.std.proofs.lemmas.Result.{IfOk-weaker}
use Rattle.vrl_kind.specs.KindTree.{KindTree}
use Rattle.vrl_builtin.proofs.PartKinds.{array_parts_told}
use Rattle.vrl_builtin.proofs.part_kinds.array_parts.Goals as goal

pub returns : goal.returns
returns c = IfOk-weaker c.parts.result _ _ (λ (all : KindTree) is. array_parts_told (Some c.args.kind.now) c.in_ok-arrays.arrays all c.in_ok-arrays.ensures is) c.parts.ensures
