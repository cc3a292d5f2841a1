use Rattle.std.proofs.Common.{◌≡◌, map, take}
use Rattle.vrl_builtin.specs.View.{argument_tree}
use Rattle.vrl_store.specs.StoreView.{store_in, AreNames, Names}
use Rattle.vrl_resolve.specs.Calls.{argument_in}
use Rattle.vrl_resolve.specs.Looks.{argument_values}
use Rattle.vrl_resolve.proofs.calls.arguments.Given as goal

abbrev pub invariant-loop-place : goal.invariant-loop-place
invariant-loop-place l = (names : Names) → AreNames names l.store
    → map argument_tree l.arguments.items ≡ map (argument_in (argument_values names (store_in names l.store) l.run l.args)) (take l.place-index l.places)
