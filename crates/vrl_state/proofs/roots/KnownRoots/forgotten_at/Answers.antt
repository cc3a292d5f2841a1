use Rattle.std.proofs.Common.{refl}
use Rattle.vrl_kind.specs.Canonical.{any_kind}
use Rattle.vrl_state.proofs.Turning.{turned_on}
use Rattle.vrl_state.proofs.roots.KnownRoots.forgotten_at.Goals as goal

pub loop-root-preserved : goal.loop-root-preserved
loop-root-preserved c =
    turned_on (λ K. any_kind) (λ K. refl) c.args.roots.now c.loop-root.root-index c.root-item.result c.root-item.result c.args.self.now c.loop-root.left c.forget.new.self c.loop-root-test.true c.root-item.is c.loop-root.invariant c.in_ok-forget.ensures
