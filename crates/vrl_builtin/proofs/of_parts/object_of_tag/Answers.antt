use Rattle.std.proofs.lemmas.Result.{IfOk-weaker}
use Rattle.vrl_kind.specs.KindTree.{KindTree}
use Rattle.vrl_kind.specs.Kinds.{only_at, tags_at}
use Rattle.vrl_builtin.proofs.Containers.{object_made, same_sets}
use Rattle.vrl_builtin.proofs.of_parts.object_of_tag.Goals as goal

pub returns : goal.returns
returns c =
    let part = c.of-part.result in
    let A = only_at c.args.tag in
    IfOk-weaker c.object_of.result _ _ (λ (all : KindTree) made. object_made (tags_at part) A all (same_sets (tags_at part) A c.of-part.ensures) made) c.object_of.ensures
