use Rattle.vrl_place.specs.Inner.{lower_place}
use Rattle.vrl_place.proofs.Views.{AreSoFar}
use Rattle.vrl_place.proofs.places.Places.before.Given as goal

abbrev pub invariant-loop-place : goal.invariant-loop-place
invariant-loop-place l = AreSoFar l.kinds.items l.place (lower_place l.self l.absent l.filled)
