use Rattle.std.proofs.Common.{ap}
use Rattle.std.proofs.lemmas.Result.{IfOk-weaker}
use Rattle.vrl_kind.specs.KindTree.{KindTree}
use Rattle.vrl_kind.specs.Make.{named_view}
use Rattle.vrl_builtin.proofs.Containers.{object_told}
use Rattle.vrl_builtin.proofs.of_parts.object_of.Goals as goal

pub returns : goal.returns
returns c =
    IfOk-weaker c.object.result _ _ (λ (all : KindTree) is. object_told c.args.kind all _ _ (ap named_view c.new.ensures.items) c.in_ok-rest.ensures is) c.object.ensures
