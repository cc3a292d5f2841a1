use Rattle.std.proofs.lemmas.Result.{IfOk-weaker}
use Rattle.vrl_kind.specs.KindTree.{KindTree}
use Rattle.vrl_kind.specs.View.{rest_of}
use Rattle.vrl_judge.proofs.CollectionKinds.{lists_alone_filtered, objects_filtered}
use Rattle.vrl_judge.proofs.closures.filtered.Goals as goal

pub returns-in-None : goal.returns-in-None
returns-in-None c = lists_alone_filtered c.args.collection.now c.in_ok-lists.lists c.in-None.ensures c.in_ok-lists.ensures

pub returns-in_ok-behind-in-Some : goal.returns-in_ok-behind-in-Some
returns-in_ok-behind-in-Some c =
    IfOk-weaker c.with_object.result _ _
    (λ (K : KindTree) whole. objects_filtered c.args.collection.now c.in_ok-lists.lists K c.as_slice.result.now c.in_ok-known-in-Some.known.items _ _ (rest_of c.in_ok-behind-in-Some.behind)
    c.in-Some.ensures c.as_slice.ensures c.in_ok-behind-in-Some.ensures c.in_ok-known-in-Some.ensures c.in_ok-lists.ensures whole)
    c.with_object.ensures
