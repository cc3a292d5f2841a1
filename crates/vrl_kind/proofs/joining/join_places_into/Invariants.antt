use Rattle.vrl_kind.specs.Canonical.{place_or, rest_kind}
use Rattle.vrl_kind.specs.Seen.{part_rest}
use Rattle.vrl_kind.specs.View.{places_view}
use Rattle.vrl_kind.proofs.Gathering.{GathersSoFar, PlaceIsMet}
use Rattle.vrl_kind.proofs.joining.join_places_into.Given as goal

abbrev pub invariant-loop-place : goal.invariant-loop-place
invariant-loop-place l =
    GathersSoFar (place_or (places_view l.list.places.now) (rest_kind (part_rest l.list.rest))) l.fn.first l.all (PlaceIsMet l.list.places.now (rest_kind (part_rest l.list.rest)) l.place-index)
