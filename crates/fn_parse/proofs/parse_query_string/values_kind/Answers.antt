use Rattle.std.proofs.lemmas.Result.{IfOk-weaker}
use Rattle.vrl_value.specs.declared.value.Tag.TheVariants as tag
use Rattle.vrl_kind.specs.KindTree.{KindTree}
use Rattle.vrl_kind.specs.Kinds.{only_at, tags_at}
use Rattle.vrl_builtin.specs.Containers.{array_of}
use Rattle.vrl_builtin.proofs.Containers.{either_made, same_sets}
use Rattle.fn_parse.proofs.parse_query_string.values_kind.Goals as goal

pub returns : goal.returns
returns c =
    let K = c.of-text.result in
    let L = c.in_ok-texts.texts in
    let A = only_at tag.Text in
    IfOk-weaker c.join.result _ _ (λ (kind : KindTree) joined. either_made K L kind A (array_of A) (same_sets (tags_at K) A c.of-text.ensures) c.in_ok-texts.ensures joined) c.join.ensures.union
