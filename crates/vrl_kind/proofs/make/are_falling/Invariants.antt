use Rattle.std.proofs.Common.{length, ℕ, List}
use Rattle.vrl_kind.specs.KindTree.{KindTree}
use Rattle.vrl_kind.specs.Make.{named_view}
use Rattle.vrl_kind.specs.Merge.{FieldsAreSorted}
use Rattle.vrl_kind.proofs.make.are_falling.Given as goal

abbrev pub invariant-loop-last : goal.invariant-loop-last
invariant-loop-last l = FieldsAreSorted (named_view l.left) → FieldsAreSorted (named_view l.fields)

abbrev pub decreases-loop-last : goal.decreases-loop-last
decreases-loop-last l = length {A = List ℕ × KindTree} l.left
