use Rattle.std.proofs.Common.{ap, ◌∙◌}
use Rattle.vrl_kind.specs.KindTree.{kind}
use Rattle.vrl_kind.specs.Canonical.{list_if, object_if}
use Rattle.vrl_kind.specs.Kinds.{tags_at}
use Rattle.vrl_kind.specs.View.{list_of, object_of}
use Rattle.vrl_kind.proofs.Known.{same_parts}
use Rattle.vrl_kind.proofs.Shapes.{only_tags}
use Rattle.vrl_kind.proofs.kind.Kind.of.Goals as goal

pub returns : goal.returns
returns c = λ p.
    ap (λ s. tags_at (kind s (list_of c.any_list.result) (object_of c.any_object.result)) p) c.only.ensures
    ∙ ap (λ k. tags_at k p) (same_parts _ _ _ _ _ (c.any_list.ensures ∙ ap list_if c.is_tag.ensures) (c.any_object.ensures ∙ ap object_if c.is_tag-2.ensures))
    ∙ only_tags c.args.tag p
