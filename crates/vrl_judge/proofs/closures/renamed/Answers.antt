use Rattle.std.proofs.lemmas.Result.{IfOk-weaker}
use Rattle.vrl_kind.specs.KindTree.{KindTree}
use Rattle.vrl_kind.specs.Kinds.{tags_at}
use Rattle.vrl_kind.specs.PartSets.{parts_at}
use Rattle.vrl_builtin.proofs.Containers.{object_made}
use Rattle.vrl_judge.proofs.CollectionKinds.{parts_told}
use Rattle.vrl_judge.proofs.closures.renamed.Goals as goal

pub returns : goal.returns
returns c =
    let C = c.args.collection.now in
    IfOk-weaker c.object_of.result _ _ (λ (M : KindTree) made. object_made (tags_at c.in_ok-all.all) (parts_at C) M (parts_told C c.in_ok-all.all c.in_ok-all.ensures) made) c.object_of.ensures
