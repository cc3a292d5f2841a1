use Rattle.std.proofs.Common.{length}
use Rattle.vrl_kind.specs.Make.{named_view}
use Rattle.vrl_kind.specs.View.{fields_view}
use Rattle.vrl_kind.proofs.Naming.{KnownSoFar}
use Rattle.vrl_kind.proofs.make.known_falling.Given as goal

abbrev pub invariant-loop-name : goal.invariant-loop-name
invariant-loop-name l = KnownSoFar l.own (named_view l.fn.fields.items) (named_view l.fields.items) (fields_view l.known.items)

abbrev pub decreases-loop-name : goal.decreases-loop-name
decreases-loop-name l = length l.fields.items
