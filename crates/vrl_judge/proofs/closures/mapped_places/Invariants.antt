use Rattle.std.proofs.Common.{take}
use Rattle.vrl_judge.specs.ChangedParts.{put_part, ArePlacesMade}
use Rattle.vrl_judge.proofs.closures.mapped_places.Given as goal

abbrev pub invariant-loop-place : goal.invariant-loop-place
invariant-loop-place l = ArePlacesMade (put_part l.body) (take l.place-index l.places) l.kinds.items
