use Rattle.std.proofs.lemmas.Result.{IfOk-weaker}
use Rattle.vrl_kind.specs.KindTree.{KindTree}
use Rattle.vrl_builtin.proofs.Containers.{either_made}
use Rattle.fn_string.specs.Slice.{array_kind, text_kind}
use Rattle.fn_string.proofs.slice.slice_kind.Goals as goal

pub returns : goal.returns
returns c =
    let K = c.args.kind.now in
    IfOk-weaker c.join.result _ _ (λ (both : KindTree) is. either_made c.text_kind-texts.result c.in_ok-arrays.arrays both (text_kind K) (array_kind K) c.text_kind-texts.ensures c.in_ok-arrays.ensures is) c.join.ensures.union
