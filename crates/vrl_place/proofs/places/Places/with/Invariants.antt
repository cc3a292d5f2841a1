use Rattle.vrl_kind.specs.Kinds.{tags_at}
use Rattle.vrl_place.specs.Inner.{changed_place}
use Rattle.vrl_place.proofs.Views.{AreSoFar}
use Rattle.vrl_place.proofs.places.Places.with.Given as goal

abbrev pub invariant-loop-place : goal.invariant-loop-place
invariant-loop-place l = AreSoFar l.kinds.items l.place (changed_place l.self l.at (tags_at l.fn.kind) l.absent l.filled)
