use Rattle.std.proofs.Common.{◌≡◌, length}
use Rattle.vrl_state.specs.RootLists.{rise_from}
use Rattle.vrl_state.proofs.known.are_rising_from.Given as goal

abbrev pub invariant-loop-next : goal.invariant-loop-next
invariant-loop-next l = rise_from l.last l.left ≡ rise_from l.root l.roots

abbrev pub decreases-loop-next : goal.decreases-loop-next
decreases-loop-next l = length l.left
