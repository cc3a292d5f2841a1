use Rattle.std.proofs.Common.{◌≡◌, length}
use Rattle.vrl_syntax.specs.Calls.{has_equal}
use Rattle.vrl_syntax.specs.Stores.{hidden_by}
use Rattle.vrl_syntax.proofs.call_form.has_equal.Given as goal

abbrev pub invariant-loop-first : goal.invariant-loop-first
invariant-loop-first l = has_equal (hidden_by l.names) ≡ has_equal (hidden_by l.left)

abbrev pub decreases-loop-first : goal.decreases-loop-first
decreases-loop-first l = length l.left
