use Rattle.std.proofs.Common.{◌≡◌, ◌+◌, length}
use Rattle.vrl_value.specs.View.{items_view}
use Rattle.vrl_builtin.specs.Words.{first_other, first_other_from}
use Rattle.vrl_builtin.proofs.failing.first_other.Given as goal

abbrev pub invariant-loop-first : goal.invariant-loop-first
invariant-loop-first l =
    (first_other l.tags (items_view l.initial.left) ≡ first_other_from l.place l.tags (items_view l.left))
    × (l.place + length l.left ≡ length l.initial.left)

abbrev pub decreases-loop-first : goal.decreases-loop-first
decreases-loop-first l = length l.left
