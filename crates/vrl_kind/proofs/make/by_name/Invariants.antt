use Rattle.std.proofs.Common.{◌≡◌, length}
use Rattle.std.specs.Vec.Iter.{into_iter_items, into_iter_len}
use Rattle.vrl_kind.specs.Make.{SameFields, entries_view, last_first, named_view}
use Rattle.vrl_kind.proofs.make.by_name.Given as goal

abbrev pub invariant-loop-name : goal.invariant-loop-name
invariant-loop-name l =
    (into_iter_len l.name-iterator ≡ length (into_iter_items l.name-iterator))
    × SameFields (named_view l.fn.fields.items) (last_first (into_iter_items l.name-iterator) (entries_view l.named.entries))
