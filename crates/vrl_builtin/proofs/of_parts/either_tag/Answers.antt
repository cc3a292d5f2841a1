use Rattle.std.proofs.lemmas.Result.{IfOk-weaker}
use Rattle.vrl_kind.specs.KindTree.{KindTree}
use Rattle.vrl_kind.specs.Kinds.{only_at, tags_at}
use Rattle.vrl_builtin.proofs.Containers.{either_made, same_sets}
use Rattle.vrl_builtin.proofs.of_parts.either_tag.Goals as goal

pub returns : goal.returns
returns c =
    let K = c.of-one.result in
    let L = c.of-other.result in
    let A = only_at c.args.first in
    let B = only_at c.args.second in
    IfOk-weaker c.join.result _ _ (λ (both : KindTree) joined. either_made K L both A B (same_sets (tags_at K) A c.of-one.ensures) (same_sets (tags_at L) B c.of-other.ensures) joined) c.join.ensures.union
