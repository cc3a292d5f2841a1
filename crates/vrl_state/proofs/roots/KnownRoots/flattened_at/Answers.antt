use Rattle.vrl_kind.specs.Cut.{flat}
use Rattle.vrl_state.proofs.Turning.{flat_once, turned_on}
use Rattle.vrl_state.proofs.roots.KnownRoots.flattened_at.Goals as goal

pub loop-root-preserved : goal.loop-root-preserved
loop-root-preserved c =
    turned_on flat flat_once c.args.roots.now c.loop-root.root-index c.root-item.result c.root-item.result c.args.self.now c.loop-root.turned c.flatten.new.self c.loop-root-test.true c.root-item.is c.loop-root.invariant c.in_ok-flatten.ensures
