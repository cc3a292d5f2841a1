use Rattle.std.proofs.Common.{◌∷◌, [], refl}
use Rattle.vrl_check.proofs.Iterated.{collection_taken}
use Rattle.vrl_judge.proofs.Joining.{kept_way}
use Rattle.vrl_check.proofs.iteration.collection_of.Goals as goal

pub returns-clause-taken : goal.returns-clause-taken
returns-clause-taken c g is =
    collection_taken c.args.form g.judged.kind c.args.checker.now c.args.arguments c.collections-tags.result c.as_kind.result.now c.as_kind-2.result.now c.in_ok-whole.whole c.has_others-others.result _
    c.collections-tags.ensures c.as_kind.ensures c.as_kind-2.ensures (c.in_ok-whole.ensures (g ∷ []) is) c.has_others-others.ensures c.in_ok-fail.ensures.branch c.in_ok-kind.ensures refl

pub returns-clause-fail : goal.returns-clause-fail
returns-clause-fail c = kept_way _ _ _ c.in_ok-fail.ensures.branch
