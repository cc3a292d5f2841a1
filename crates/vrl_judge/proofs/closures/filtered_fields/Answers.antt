use Rattle.std.proofs.Common.{ap, ◌∙◌}
use Rattle.vrl_kind.specs.Kinds.{or_absent, tags_at}
use Rattle.vrl_judge.specs.ChangedParts.{kept_field}
use Rattle.vrl_judge.proofs.CollectionKinds.{all_made, one_made}
use Rattle.vrl_judge.proofs.closures.filtered_fields.Goals as goal

pub loop-last-preserved : goal.loop-last-preserved
loop-last-preserved c =
    one_made kept_field c.in-Some.last.now _ _ _ _ _ c.or_absent-kind.result c.in-Some.ensures.cases.0 c.in_ok-add_field.ensures
    (λ p t. c.or_absent-kind.ensures p t ∙ ap (λ K. or_absent p (tags_at K p) t) c.in_ok-copy.ensures) c.loop-last.invariant

pub returns : goal.returns
returns c = all_made kept_field _ _ _ c.in_default.ensures.cases c.loop-last.invariant
