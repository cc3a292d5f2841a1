use Rattle.std.proofs.Common.{Some, refl, ap, ◌∙◌}
use Rattle.vrl_kind.specs.Canonical.{object_tree}
use Rattle.vrl_kind.specs.View.{object_of}
use Rattle.vrl_kind.proofs.Overlays.{overlaid_tags}
use Rattle.vrl_kind.proofs.overlay.overlaid.Goals as goal

pub returns : goal.returns
returns c =
    overlaid_tags c.args.left.now c.args.right.now _ _ (object_of (Some c.in_ok-overlaid_fields.field-0))
    (c.in-Some-Some.ensures.tree ∙ ap object_tree c.of.ensures.tree) (c.in-Some-Some.ensures'.tree ∙ ap object_tree c.of-2.ensures.tree) refl c.in_ok-overlaid_fields.ensures.over
