use Rattle.std.proofs.Common.{ℕ, ◌≢◌, ◌<◌, ◌≤◌, get_or}
use Rattle.vrl_value.specs.Depth.{depth_of}
use Rattle.vrl_value.specs.View.{tree_of}
use Rattle.vrl_value.specs.declared.value.Value.{Value}
use Rattle.vrl_path.proofs.depth.items_fit.Given as goal

-- the items that were passed are within the limit but for the one at the place
abbrev pub invariant-loop-index : goal.invariant-loop-index
invariant-loop-index l = (k : ℕ) (d : Value) → k < l.index → k ≢ l.place → depth_of (tree_of (get_or l.values k d)) ≤ l.limit
