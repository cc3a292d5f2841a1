use Rattle.std.proofs.Common.{add-one, arith}
use Rattle.vrl_place.proofs.Near.{as_many, near_all, near_on, stretch_at}
use Rattle.vrl_place.proofs.far.near_steps.Goals as goal

pub bounds-stretches-depth : goal.bounds-stretches-depth
bounds-stretches-depth c = omega (arith, as_many _ _ c.requires, c.loop-depth-test.true)

pub near_step-requires : goal.near_step-requires
near_step-requires c = stretch_at _ _ _ _ _ c.requires c.loop-depth-test.true c.index-steps-depth.is

pub loop-depth-preserved : goal.loop-depth-preserved
loop-depth-preserved c =
    near_on _ _ _ _ _ _ _ _ _ c.requires (add-one c.loop-depth.depth) c.loop-depth-test.true c.index-steps-depth.is
    c.in_ok-near_step.ensures c.in_ok-push.ensures.items c.loop-depth.invariant

pub returns : goal.returns
returns c = near_all _ _ _ _ c.requires c.loop-depth-test.false c.loop-depth.invariant
