use Rattle.vrl_place.specs.Inner.{spot_sets}
use Rattle.vrl_place.proofs.InPlace.{no_others, some_others}
use Rattle.vrl_place.proofs.fields.other_fields.Goals as goal

pub returns-in-None : goal.returns-in-None
returns-in-None c = no_others c.args.kind.now (spot_sets c.lacking.result) c.in-None.ensures c.lacking.ensures.tags

pub returns-in-Some : goal.returns-in-Some
returns-in-Some c = some_others c.args.kind.now (spot_sets c.of_rest.result) _ _ c.in-Some.ensures c.of_rest.ensures.tags
