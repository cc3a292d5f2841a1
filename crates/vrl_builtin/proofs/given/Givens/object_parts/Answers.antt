use Rattle.std.proofs.lemmas.Result.{IfOk-weaker}
use Rattle.vrl_kind.specs.KindTree.{KindTree}
use Rattle.vrl_builtin.specs.Rows.{kind_at}
use Rattle.vrl_builtin.specs.View.{givens_of}
use Rattle.vrl_builtin.proofs.PartKinds.{object_parts_told}
use Rattle.vrl_builtin.proofs.given.Givens.object_parts.Goals as goal

pub returns : goal.returns
returns c =
    IfOk-weaker c.parts.result _ _ (λ (all : KindTree) is. object_parts_told (kind_at c.args.place (givens_of c.args.self.now)) c.in_ok-objects.objects all c.in_ok-objects.ensures is) c.parts.ensures
