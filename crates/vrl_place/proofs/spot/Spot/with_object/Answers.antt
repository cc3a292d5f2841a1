use Rattle.vrl_kind.specs.Kinds.{tags_at}
use Rattle.vrl_place.specs.Inner.{bare_sets}
use Rattle.vrl_place.proofs.Views.{object_beside}
use Rattle.vrl_place.proofs.spot.Spot.with_object.Goals as goal

pub returns : goal.returns
returns c = object_beside c.args.self.absent (bare_sets c.args.self.bare) (tags_at c.in_ok-with_object.field-0) (tags_at c.or_absent_if.result) _ _ c.in_ok-with_object.ensures c.or_absent_if.ensures
