use Rattle.std.proofs.Common.{◌∙◌, ap, subst, sym}
use Rattle.vrl_kind.specs.Kinds.{IsParts}
use Rattle.vrl_kind.specs.Canonical.{list_tree, object_tree}
use Rattle.vrl_kind.proofs.Gathering.{all_parts}
use Rattle.vrl_kind.proofs.joining.parts.Goals as goal

pub returns : goal.returns
returns c =
    subst (IsParts c.args.kind.now) (sym c.with_either.ensures.kind)
    (all_parts _ _ _ _ _ _ c.never.ensures.tree (c.list.ensures.tree ∙ ap list_tree c.of-seen.ensures.tree) (c.object.ensures.tree ∙ ap object_tree c.of-seen.ensures.tree) c.in_ok-places.ensures c.in_ok-all.ensures)
