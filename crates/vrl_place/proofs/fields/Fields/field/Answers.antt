use Rattle.std.proofs.Common.{ap, ◌∙◌}
use Rattle.vrl_place.specs.Inner.{spot_sets}
use Rattle.vrl_place.proofs.Looked.{field_found, field_lacking}
use Rattle.vrl_place.proofs.fields.Fields.field.Goals as goal

pub returns-in-Some : goal.returns-in-Some
returns-in-Some c = λ p t. c.of.ensures p t ∙ ap (λ T. T t) (field_found _ _ c.cut_at.result c.in-Some.field c.cut_at.ensures c.in-Some.is p (spot_sets c.args.self.behind p))

pub returns-in-None : goal.returns-in-None
returns-in-None c = λ p t. ap (λ T. T t) (field_lacking _ _ c.cut_at.result c.cut_at.ensures c.in-None.is p (spot_sets c.args.self.behind p))
