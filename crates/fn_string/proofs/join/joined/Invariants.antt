use Rattle.std.proofs.Common.{◌≡◌, ◌++◌, length, string_bytes}
use Rattle.vrl_value.specs.View.{items_view}
use Rattle.fn_string.specs.Join.{joined, separated}
use Rattle.fn_string.proofs.join.joined.Given as goal

abbrev pub invariant-loop-next : goal.invariant-loop-next
invariant-loop-next l = string_bytes l.text ++ separated l.separator (items_view l.left) ≡ joined l.separator (items_view l.items)

abbrev pub decreases-loop-next : goal.decreases-loop-next
decreases-loop-next l = length l.left
