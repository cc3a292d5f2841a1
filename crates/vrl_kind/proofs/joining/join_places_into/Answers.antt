use Rattle.vrl_kind.proofs.Gathering.{places_first, places_next, places_end}
use Rattle.vrl_kind.proofs.Joins.{join_along}
use Rattle.vrl_kind.proofs.joining.join_places_into.Goals as goal

pub loop-place-init : goal.loop-place-init
loop-place-init c = places_first _ _ _ _ (join_along _ _ _ _ _ c.of.ensures.tree c.of_rest.ensures.tree c.in_ok-all.ensures.union)

pub loop-place-preserved : goal.loop-place-preserved
loop-place-preserved c = places_next _ _ _ _ _ _ _ c.loop-place-test.true c.place-item.is c.loop-place.invariant c.in_ok-all-2.ensures.union

pub returns : goal.returns
returns c = places_end _ _ _ _ _ c.loop-place-test.false c.loop-place.invariant
