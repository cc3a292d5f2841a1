use Rattle.vrl_kind.specs.Kinds.{tags_at}
use Rattle.vrl_place.specs.Inner.{bare_sets}
use Rattle.vrl_place.proofs.Views.{list_beside}
use Rattle.vrl_place.proofs.spot.Spot.with_list.Goals as goal

pub returns : goal.returns
returns c = list_beside c.args.self.absent (bare_sets c.args.self.bare) (tags_at c.in_ok-with_list.field-0) (tags_at c.or_absent_if.result) _ _ c.in_ok-with_list.ensures c.or_absent_if.ensures
