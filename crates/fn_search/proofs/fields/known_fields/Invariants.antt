use Rattle.std.proofs.Common.{take}
use Rattle.fn_search.specs.Known.{AreKnown}
use Rattle.fn_search.proofs.fields.known_fields.Given as goal

abbrev pub invariant-loop-name : goal.invariant-loop-name
invariant-loop-name l = AreKnown (take l.name-index l.names) l.known.items
