use Rattle.std.proofs.Common.{ap, sym, ◌∙◌}
use Rattle.vrl_kind.specs.KindTree.{kind}
use Rattle.vrl_kind.specs.Kinds.{tags_at, without_at}
use Rattle.vrl_kind.specs.Make.{list_unless, object_unless}
use Rattle.vrl_kind.specs.View.{list_of, object_of}
use Rattle.vrl_kind.proofs.Known.{same_parts}
use Rattle.vrl_kind.proofs.Shapes.{without_tags}
use Rattle.vrl_kind.proofs.make.without.Goals as goal

pub returns : goal.returns
returns c = λ p.
    let parts = c.into_parts-list.result in
    ap (λ s. tags_at (kind s (list_of c.list_unless.result) (object_of c.object_unless.result)) p) c.without.ensures
    ∙ ap (λ k. tags_at k p) (same_parts _ _ _ _ _ (c.list_unless.ensures ∙ ap (λ b. list_unless b (list_of parts.1)) c.is_tag.ensures) (c.object_unless.ensures ∙ ap (λ b. object_unless b (object_of parts.2)) c.is_tag-2.ensures))
    ∙ without_tags parts.0 (list_of parts.1) (object_of parts.2) c.args.tag p
    ∙ ap (λ k. without_at k c.args.tag p) (sym c.into_parts-list.ensures ∙ c.in_ok-copy.ensures)
