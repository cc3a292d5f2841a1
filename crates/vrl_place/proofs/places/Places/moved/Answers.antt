use Rattle.std.proofs.Common.{◌∙◌, add-one}
use Rattle.vrl_place.proofs.Views.{more_so_far}
use Rattle.vrl_place.proofs.places.Places.moved.Goals as goal

pub loop-place-preserved : goal.loop-place-preserved
loop-place-preserved c = more_so_far _ _ c.in_ok-kind.field-0 _ _ _ c.in_ok-push.ensures.items (add-one c.loop-place.place) c.loop-place.invariant (λ p t. c.in_ok-kind.ensures p t ∙ c.moved_to.ensures p t)
