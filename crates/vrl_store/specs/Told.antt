-- Variables that are told as an object.
use Rattle.std.specs.Prelude.{ℕ, List, IfSome}
use Rattle.std.specs.FinMap as map
use Rattle.vrl_value.specs.Tree.{object, Members}
use Rattle.vrl_store.specs.StoreView.{map_of}
use Rattle.vrl_store.specs.WellFormed.{IsWellFormed}

-- members are well-formed where each value of their map is
abbrev pub AreToldByMap : Members → Type 0
AreToldByMap ms =
    (count : ℕ) → ((x : List ℕ) → IfSome (map.get (map_of ms) x) (IsWellFormed count)) → IsWellFormed count (object ms)
