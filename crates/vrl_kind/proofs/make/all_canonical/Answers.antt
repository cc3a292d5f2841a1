use Rattle.std.proofs.Common.{add-one}
use Rattle.vrl_kind.proofs.Making.{canonical_take}
use Rattle.vrl_kind.proofs.make.all_canonical.Goals as goal

pub loop-kind-preserved : goal.loop-kind-preserved
loop-kind-preserved c = canonical_take _ _ _ _ (add-one c.loop-kind.kind-index) c.loop-kind-test.true c.kind-item.is c.loop-kind.invariant c.kind_is_canonical.ensures
