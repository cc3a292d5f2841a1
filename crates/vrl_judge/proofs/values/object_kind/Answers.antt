use Rattle.std.proofs.lemmas.Result.{IfOk-weaker}
use Rattle.vrl_judge.proofs.Containers.{object_is_cut}
use Rattle.vrl_judge.proofs.values.object_kind.Goals as goal

pub returns : goal.returns
returns c = IfOk-weaker c.cut.result _ _ (λ kind is. object_is_cut c.args.fields.items c.in_ok-whole.whole kind c.in_ok-whole.ensures c.kind_is_canonical.ensures is) c.cut.ensures.cases
