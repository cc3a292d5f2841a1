use Rattle.std.proofs.lemmas.Result.{IfOk-weaker}
use Rattle.vrl_kind.specs.View.{rest_of}
use Rattle.vrl_judge.proofs.CollectionKinds.{rest_put}
use Rattle.vrl_judge.proofs.closures.mapped_rest.Goals as goal

pub returns : goal.returns
returns c =
    IfOk-weaker c.exactly.result _ _
    (λ put is. rest_put (rest_of c.args.rest.now) (rest_of put) c.in_ok-own.own c.in_ok-kind.kind c.args.body.now c.in_ok-own.ensures c.in_ok-kind.ensures.put is) c.exactly.ensures
