-- Laws of the operators.
use Rattle.std.specs.Prelude.{◌≡◌, ◌↔◌, IsTrue}
use Rattle.vrl_value.specs.Tree.{Tree}
use Rattle.vrl_store.specs.Operators.{same}

-- `==` says of two values whether they are equal
abbrev pub EqualityIsTold : Type 0
EqualityIsTold = (v w : Tree) → IsTrue (same v w) ↔ (v ≡ w)
