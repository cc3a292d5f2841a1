use Rattle.std.proofs.lemmas.Result.{IfOk-weaker}
use Rattle.vrl_kind.specs.KindTree.{KindTree}
use Rattle.vrl_kind.specs.View.{rest_of}
use Rattle.vrl_judge.proofs.CollectionKinds.{lists_alone_mapped, objects_mapped}
use Rattle.vrl_judge.proofs.closures.mapped.Goals as goal

pub returns-in-None : goal.returns-in-None
returns-in-None c = lists_alone_mapped c.args.collection.now c.args.body.now c.in_ok-lists.lists c.in-None.ensures c.in_ok-lists.ensures

pub returns-in_ok-behind-in-Some : goal.returns-in_ok-behind-in-Some
returns-in_ok-behind-in-Some c =
    IfOk-weaker c.with_object.result _ _
    (λ (M : KindTree) whole. objects_mapped c.args.collection.now c.args.body.now c.in_ok-lists.lists M c.as_slice.result.now c.in_ok-known-in-Some.known.items _ _ (rest_of c.in_ok-behind-in-Some.behind)
    c.in-Some.ensures c.as_slice.ensures c.in_ok-known-in-Some.ensures c.in_ok-behind-in-Some.ensures c.in_ok-lists.ensures whole)
    c.with_object.ensures
