use Rattle.std.proofs.lemmas.Result.{IfOk-weaker}
use Rattle.vrl_kind.specs.KindTree.{KindTree}
use Rattle.fn_search.proofs.Fielded.{named_made}
use Rattle.fn_search.proofs.fields.named_kind.Goals as goal

pub returns : goal.returns
returns c =
    IfOk-weaker c.object.result _ _ (λ (kind : KindTree) same. named_made c.args.names.now c.in_ok-known.known.items kind c.in_ok-known.ensures same) c.object.ensures
