use Rattle.std.proofs.Common.{◌≢◌, ℕ, List, [], All, length}
use Rattle.vrl_state.specs.States.{IsRootKind, State}
use Rattle.vrl_judge.specs.Bodies.{AreBound}
use Rattle.vrl_judge.proofs.closures.bind_all.Given as goal

abbrev pub invariant-loop-name : goal.invariant-loop-name
invariant-loop-name l = ((end : State) → AreBound l.left l.kinds_left l.state end → AreBound l.names l.kinds l.initial.state end) × (l.state.scopes ≢ []) × All IsRootKind l.kinds_left

abbrev pub decreases-loop-name : goal.decreases-loop-name
decreases-loop-name l = length {A = List ℕ} l.left
