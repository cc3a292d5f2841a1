use Rattle.std.proofs.Common.{ap}
use Rattle.std.proofs.lemmas.Result.{IfOk-weaker}
use Rattle.vrl_kind.specs.KindTree.{KindTree}
use Rattle.vrl_kind.specs.View.{places_view}
use Rattle.vrl_builtin.proofs.Containers.{array_told}
use Rattle.vrl_builtin.proofs.of_parts.array_of.Goals as goal

pub returns : goal.returns
returns c =
    IfOk-weaker c.list.result _ _ (λ (all : KindTree) is. array_told c.args.kind all _ _ (ap places_view c.new.ensures.items) c.in_ok-rest.ensures is) c.list.ensures
