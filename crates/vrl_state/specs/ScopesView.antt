-- What a list of open scopes stands for, the innermost first, and what holds of each.
use Rattle.std.specs.Prelude.{ℕ, List, [], ◌∷◌, Option, Some, None, ⊤}
use Rattle.std.specs.FinMap as map
use Rattle.std.specs.declared.alloc.Global.{Global}
use Rattle.std.specs.declared.rc.Rc.{Rc}
use Rattle.vrl_state.specs.States.{IsRootKindIf, Scope}
use Rattle.vrl_state.specs.View.{scope_of}
use Rattle.vrl_state.specs.declared.scopes.OpenScope.{OpenScope}

abbrev pub scopes_of : Option (Rc OpenScope Global) → List Scope
scopes_of None = []
scopes_of (Some held) = scope_of held.value.known held.value.hidden ∷ held.value.outer

-- hidden kinds are those of roots
abbrev pub HidesRootKinds : Option (Rc OpenScope Global) → Type 0
HidesRootKinds None = ⊤
HidesRootKinds (Some held) = (x : List ℕ) → IsRootKindIf (map.get held.value.hidden x)
