use Rattle.std.proofs.Common.{refl, sym, arith}
use Rattle.std.proofs.lemmas.List.{append-nil}
use Rattle.vrl_kind.proofs.Repeating.{copies_done, one_more}
use Rattle.vrl_kind.proofs.stretch.push_copies.Goals as goal

pub loop-copy-init : goal.loop-copy-init
loop-copy-init c = (omega arith, sym (append-nil _))

pub loop-copy-preserved : goal.loop-copy-preserved
loop-copy-preserved c = (omega (arith, c.loop-copy-test.true), one_more _ _ _ _ _ _ _ refl c.in_ok-copy.ensures c.in_ok-push.ensures.items c.loop-copy.invariant.1)

pub returns : goal.returns
returns c = copies_done _ _ _ _ _ c.loop-copy.invariant.0 c.loop-copy-test.false c.loop-copy.invariant.1
