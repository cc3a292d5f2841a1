use Rattle.std.proofs.Common.{ap, ◌∙◌}
use Rattle.vrl_kind.specs.Canonical.{rest_kind}
use Rattle.vrl_kind.specs.Kinds.{tags_at}
use Rattle.vrl_kind.proofs.Known.{rest_tags}
use Rattle.vrl_kind.proofs.kind.Rest.kind.Goals as goal

pub returns : goal.returns
returns c = λ p. ap (λ k. tags_at k p) (c.into_kind.ensures.tree ∙ ap rest_kind c.in_ok-copy.ensures) ∙ rest_tags _ p
