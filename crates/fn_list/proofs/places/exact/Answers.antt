use Rattle.std.proofs.Common.{rules}
use Rattle.std.proofs.lemmas.Result.{IfOk-weaker}
use Rattle.vrl_kind.specs.KindTree.{KindTree}
use Rattle.fn_list.proofs.Widening.{exact_told}
use Rattle.fn_list.proofs.places.exact.Goals as goal

pub returns : goal.returns
returns c =
    IfOk-weaker c.list.result _ _
    (λ (kind : KindTree) same. exact_told c.args.first.now c.args.second.now c.in_ok-kinds.kinds.items c.push_kinds.new.kinds.items c.push_kinds-2.new.kinds.items kind (search rules) (search rules) (search rules) same) c.list.ensures
