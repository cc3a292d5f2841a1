use Rattle.std.proofs.Common.{refl, sym, ap, ◌∙◌, subst}
use Rattle.vrl_value.specs.declared.value.Tag.TheVariants as tag
use Rattle.vrl_kind.specs.Kinds.{tags_at}
use Rattle.vrl_kind.specs.Sets.{SameSets}
use Rattle.vrl_judge.specs.Closures.{call_at}
use Rattle.vrl_judge.proofs.CollectionKinds.{never_sets}
use Rattle.vrl_judge.proofs.Scalars.{scalar_sets}
use Rattle.vrl_judge.proofs.closures.whole_kind.Goals as goal

pub returns-in-ForEach : goal.returns-in-ForEach
returns-in-ForEach c = subst (λ f. SameSets (tags_at c.of.result) (call_at f c.args.collection.now c.args.body.now)) (sym c.in-ForEach.is) (λ p t. ap (λ T. T t) (c.of.ensures p) ∙ scalar_sets tag.Null refl p t)

pub returns-in-Del : goal.returns-in-Del
returns-in-Del c = subst (λ f. SameSets (tags_at c.never.result) (call_at f c.args.collection.now c.args.body.now)) (sym c.in-Del.is) (λ p t. ap (λ T. T t) (c.never.ensures.tags p) ∙ never_sets p t)

pub returns-in-Exists : goal.returns-in-Exists
returns-in-Exists c = subst (λ f. SameSets (tags_at c.never-in-Exists.result) (call_at f c.args.collection.now c.args.body.now)) (sym c.in-Exists.is) (λ p t. ap (λ T. T t) (c.never-in-Exists.ensures.tags p) ∙ never_sets p t)
