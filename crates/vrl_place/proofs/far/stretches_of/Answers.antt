use Rattle.std.proofs.Common.{add-one}
use Rattle.vrl_place.proofs.Near.{first_all, first_on}
use Rattle.vrl_place.proofs.far.stretches_of.Goals as goal

pub loop-depth-preserved : goal.loop-depth-preserved
loop-depth-preserved c =
    first_on _ _ _ _ _ _ _ _ (add-one c.loop-depth.depth) c.loop-depth-test.true c.index-steps-depth.is
    c.stretch_of.ensures.step c.stretch_of.ensures.level c.in_ok-push.ensures.items c.loop-depth.invariant

pub returns-clause-stretches : goal.returns-clause-stretches
returns-clause-stretches c = (first_all _ _ _ _ c.loop-depth-test.false c.loop-depth.invariant).0

pub returns-clause-levels : goal.returns-clause-levels
returns-clause-levels c = (first_all _ _ _ _ c.loop-depth-test.false c.loop-depth.invariant).1
