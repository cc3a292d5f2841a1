use Rattle.std.proofs.Common.{◌≡◌, length}
use Rattle.vrl_binding.specs.Binding.{has_twice, names_of}
use Rattle.vrl_binding.proofs.binding.has_keyword_twice.Given as goal

abbrev pub invariant-loop-first : goal.invariant-loop-first
invariant-loop-first l = has_twice (names_of l.arguments) ≡ has_twice (names_of l.left)

abbrev pub decreases-loop-first : goal.decreases-loop-first
decreases-loop-first l = length l.left
