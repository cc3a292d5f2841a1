use Rattle.vrl_place.specs.Inner.{moved_place}
use Rattle.vrl_place.proofs.Views.{AreSoFar}
use Rattle.vrl_place.proofs.places.Places.moved.Given as goal

abbrev pub invariant-loop-place : goal.invariant-loop-place
invariant-loop-place l = AreSoFar l.kinds.items l.place (moved_place l.self l.at l.absent)
