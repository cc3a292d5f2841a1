use Rattle.std.proofs.Common.{ap, sym, ◌∙◌}
use Rattle.vrl_kind.specs.KindTree.{kind}
use Rattle.vrl_kind.specs.Change.{null_for_absent}
use Rattle.vrl_kind.specs.Kinds.{tags_at}
use Rattle.vrl_kind.specs.View.{list_of, object_of}
use Rattle.vrl_kind.proofs.Changing.{null_filled}
use Rattle.vrl_kind.proofs.kind.Kind.null_for_absent.Goals as goal

pub returns : goal.returns
returns c = λ p t.
    let parts = c.into_parts-list.result in
    ap (λ s. tags_at (kind s (list_of parts.1) (object_of parts.2)) p t) c.null_for_absent.ensures
    ∙ null_filled parts.0 (list_of parts.1) (object_of parts.2) p t
    ∙ ap (λ k. null_for_absent (tags_at k) p t) (sym c.into_parts-list.ensures)
