use Rattle.std.proofs.Common.{ap, sym, ◌∙◌}
use Rattle.vrl_kind.specs.KindTree.{kind}
use Rattle.vrl_kind.specs.Kinds.{tags_at, or_absent}
use Rattle.vrl_kind.specs.Scalars.{scalar_union}
use Rattle.vrl_kind.specs.View.{list_of, object_of}
use Rattle.vrl_kind.proofs.Changing.{absent_added}
use Rattle.vrl_kind.proofs.kind.Kind.or_absent.Goals as goal

pub returns : goal.returns
returns c = λ p t.
    let parts = c.into_parts-list.result in
    ap (λ s. tags_at (kind s (list_of parts.1) (object_of parts.2)) p t) (c.union.ensures ∙ ap (λ u. scalar_union parts.0 u) c.only.ensures)
    ∙ absent_added parts.0 (list_of parts.1) (object_of parts.2) p t
    ∙ ap (λ k. or_absent p (tags_at k p) t) (sym c.into_parts-list.ensures)
