use Rattle.vrl_kind.specs.Make.{entries_view}
use Rattle.vrl_kind.specs.View.{fields_view}
use Rattle.vrl_kind.proofs.Naming.{KnownSoFar}
use Rattle.vrl_kind.proofs.make.known_by_name.Given as goal

abbrev pub invariant-loop-name : goal.invariant-loop-name
invariant-loop-name l = KnownSoFar l.own (entries_view l.fn.named.entries) (entries_view l.name-iterator) (fields_view l.known.items)
