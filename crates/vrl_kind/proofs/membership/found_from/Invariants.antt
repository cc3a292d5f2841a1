use Rattle.std.proofs.Common.{length}
use Rattle.vrl_kind.specs.View.{fields_view}
use Rattle.vrl_kind.proofs.Inhabiting.{IsSkipped}
use Rattle.vrl_kind.proofs.membership.found_from.Given as goal

abbrev pub invariant-loop-first : goal.invariant-loop-first
invariant-loop-first l = IsSkipped l.name (fields_view l.fields) (fields_view l.left)

abbrev pub decreases-loop-first : goal.decreases-loop-first
decreases-loop-first l = length l.left
