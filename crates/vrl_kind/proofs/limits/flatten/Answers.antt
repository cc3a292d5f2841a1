use Rattle.std.proofs.Common.{◌≡◌, sym, ap, ◌∙◌, subst}
use Rattle.vrl_kind.specs.KindTree.{kind}
use Rattle.vrl_kind.specs.Canonical.{list_if, object_if}
use Rattle.vrl_kind.specs.Cut.{flat}
use Rattle.vrl_kind.specs.Kinds.{tags_at, IsWithin}
use Rattle.vrl_kind.specs.View.{list_of, object_of}
use Rattle.vrl_kind.proofs.Known.{same_parts}
use Rattle.vrl_kind.proofs.Shapes.{flat_tags, within_flat, list_if_some, object_if_some}
use Rattle.vrl_kind.proofs.limits.flatten.Goals as goal

pub returns-clause-tags : goal.returns-clause-tags
returns-clause-tags c =
    let is : kind c.kind.inside.scalars (list_of c.any_list.result) (object_of c.any_object.result) ≡ flat c.args.kind.now = same_parts c.kind.inside.scalars _ _ _ _ (c.any_list.ensures ∙ ap list_if c.is_some.ensures ∙ list_if_some c.kind.inside.list) (c.any_object.ensures ∙ ap object_if c.is_some-2.ensures ∙ object_if_some c.kind.inside.object) ∙ ap flat c.kind.view_is in
    λ p. ap (λ k. tags_at k p) is ∙ flat_tags c.args.kind.now p

pub returns-clause-within : goal.returns-clause-within
returns-clause-within c =
    let is : kind c.kind.inside.scalars (list_of c.any_list.result) (object_of c.any_object.result) ≡ flat c.args.kind.now = same_parts c.kind.inside.scalars _ _ _ _ (c.any_list.ensures ∙ ap list_if c.is_some.ensures ∙ list_if_some c.kind.inside.list) (c.any_object.ensures ∙ ap object_if c.is_some-2.ensures ∙ object_if_some c.kind.inside.object) ∙ ap flat c.kind.view_is in
    subst (IsWithin c.args.kind.now) (sym is) (within_flat c.args.kind.now)
