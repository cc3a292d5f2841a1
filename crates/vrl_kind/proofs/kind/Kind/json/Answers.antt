use Rattle.std.proofs.Common.{ap, ◌∙◌}
use Rattle.vrl_kind.specs.Kinds.{tags_at}
use Rattle.vrl_kind.proofs.Known.{same_parts, json_tags}
use Rattle.vrl_kind.proofs.kind.Kind.json.Goals as goal

pub returns-clause-tags : goal.returns-clause-tags
returns-clause-tags c = λ p. ap (λ k. tags_at k p) (same_parts _ _ _ _ _ c.of_rest.ensures c.of_rest-2.ensures) ∙ json_tags p
