use Rattle.std.proofs.lemmas.Result.{IfOk-weaker}
use Rattle.vrl_kind.specs.KindTree.{KindTree}
use Rattle.vrl_kind.specs.View.{rest_of}
use Rattle.vrl_judge.specs.ChangedParts.{put_place}
use Rattle.vrl_judge.proofs.CollectionKinds.{lists_mapped, no_list_part}
use Rattle.vrl_judge.proofs.closures.mapped_lists.Goals as goal

pub returns-in-None : goal.returns-in-None
returns-in-None c =
    let C = c.args.collection.now in
    IfOk-weaker c.copy.result _ _ (λ (M : KindTree) same. no_list_part C M (put_place C c.args.body.now) c.in-None.ensures same) c.copy.ensures

pub returns-in_ok-behind-in-Some : goal.returns-in_ok-behind-in-Some
returns-in_ok-behind-in-Some c =
    IfOk-weaker c.with_list.result _ _
    (λ (M : KindTree) whole. lists_mapped c.args.collection.now M c.args.body.now c.as_slice.result.now c.in_ok-known-in-Some.known.items _ _ (rest_of c.in_ok-behind-in-Some.behind)
    c.in-Some.ensures c.as_slice.ensures c.in_ok-known-in-Some.ensures c.in_ok-behind-in-Some.ensures whole)
    c.with_list.ensures
