use Rattle.vrl_kind.proofs.Naming.{sorted_more}
use Rattle.vrl_kind.proofs.make.are_falling.Goals as goal

pub loop-last-preserved : goal.loop-last-preserved
loop-last-preserved c = λ sorted. c.loop-last.invariant (sorted_more c.in-Some.last.now _ _ c.in-Some.ensures.cases.0 (c.is_before_last.ensures c.if-not-is_before_last.false sorted) sorted)
