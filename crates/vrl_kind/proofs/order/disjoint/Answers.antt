use Rattle.vrl_kind.specs.Kinds.{root_tags}
use Rattle.vrl_kind.proofs.TagTests.{opposite, disjoint_from, disjoint_to}
use Rattle.vrl_kind.proofs.order.disjoint.Goals as goal

pub returns : goal.returns
returns c =
    let K = root_tags c.args.a.now in
    let L = root_tags c.args.b.now in
    rw c.some_tag_in_both.ensures (opposite _ _ (disjoint_from K L) (disjoint_to K L))
