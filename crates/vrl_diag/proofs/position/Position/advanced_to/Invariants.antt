use Rattle.std.proofs.Common.{◌-◌, ◌≤◌, take}
use Rattle.vrl_diag.specs.Position.{IsEnd}
use Rattle.vrl_diag.proofs.position.Position.advanced_to.Given as goal

-- the position stands in the text, and not behind the place that is wanted
abbrev pub invariant-loop-position : goal.invariant-loop-position
invariant-loop-position l = IsEnd (take l.position.offset l.text) l.position × (l.position.offset ≤ l.end)

abbrev pub decreases-loop-position : goal.decreases-loop-position
decreases-loop-position l = l.end - l.position.offset
