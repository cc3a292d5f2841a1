use Rattle.std.proofs.Common.{◌≡◌, take}
use Rattle.vrl_place.specs.Far.{near_steps}
use Rattle.vrl_place.proofs.far.near_steps.Given as goal

abbrev pub invariant-loop-depth : goal.invariant-loop-depth
invariant-loop-depth l = l.near.items ≡ near_steps (take l.depth l.stretches) (take l.depth l.steps)
