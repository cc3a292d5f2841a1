use Rattle.vrl_place.proofs.Looked.{one_pushed}
use Rattle.vrl_place.proofs.fields.push_copies.Goals as goal

pub loop-last-preserved : goal.loop-last-preserved
loop-last-preserved c = one_pushed _ c.in-Some.last.now _ _ _ _ _ _ _ _ c.in-Some.ensures.cases.0 c.in_ok-push.ensures.items c.in_ok-copied.ensures.name c.in_ok-copied.ensures.kind c.loop-last.invariant
