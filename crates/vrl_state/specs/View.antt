-- What versions of the tree stand for.
use Rattle.std.specs.Prelude.{List}
use Rattle.std.specs.FinMap as finite
use Rattle.std.specs.FinSet as set
use Rattle.vrl_state.specs.Ordered.{Entry}
use Rattle.vrl_state.specs.States.{NameSet, Scope, Variables}

-- entries in the order of their names
abbrev pub variables_of : List Entry → Variables
variables_of es = finite.from_sorted es

abbrev pub names_of : Variables → NameSet
names_of v = set.from_list (finite.keys v)

-- a scope that knows the names of one version, and hides those of another
abbrev pub scope_of : Variables → Variables → Scope
scope_of known hidden = record { known = names_of known; hidden = hidden }
