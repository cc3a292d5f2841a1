-- What an entry is seen as.
use Rattle.std.specs.Prelude.{string_bytes}
use Rattle.vrl_state.specs.Ordered as ordered
use Rattle.vrl_state.specs.declared.tree.Entry.{Entry}

abbrev pub entry_of : Entry → ordered.Entry
entry_of e = (string_bytes e.name.value, e.kind.value)
