use Rattle.std.proofs.Common.{add-one}
use Rattle.vrl_kind.specs.Kinds.{tags_at}
use Rattle.vrl_place.specs.Inner.{places_sets, spot_sets}
use Rattle.vrl_place.proofs.Changed.{lower_made}
use Rattle.vrl_place.proofs.Views.{more_so_far}
use Rattle.vrl_place.proofs.places.Places.before.Goals as goal

pub loop-place-preserved : goal.loop-place-preserved
loop-place-preserved c = more_so_far _ _ c.filled_if.result _ _ _ c.in_ok-push.ensures.items (add-one c.loop-place.place) c.loop-place.invariant
    (lower_made c.args.filled c.args.absent (tags_at c.filled_if.result) (tags_at c.in_ok-kind.kind) (spot_sets c.or_absent_if.result) (spot_sets c.place.result) (places_sets c.args.self c.loop-place.place) c.filled_if.ensures c.in_ok-kind.ensures c.or_absent_if.ensures c.place.ensures)
