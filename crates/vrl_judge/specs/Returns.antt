-- What is known of a return.
use Rattle.std.specs.Prelude.{List, Option, Some, None, option_map}
use Rattle.vrl_kind.specs.Canonical.{never_kind}
use Rattle.vrl_kind.specs.KindTree.{KindTree}
use Rattle.vrl_state.specs.States.{RootMap, Scope}
use Rattle.vrl_judge.specs.declared.ends.Returned.{Returned}

-- what is known where it returns; no way leads there where it can't
abbrev pub return_state : Option Returned → Option RootMap
return_state None = None
return_state (Some r) = r.state.known

-- the kind of what is returned; never where it can't
abbrev pub return_kind : Option Returned → KindTree
return_kind None = never_kind
return_kind (Some r) = r.kind

-- a return of this kind; none where no way leads there
abbrev pub returning : List Scope → KindTree → Option RootMap → Option Returned
returning scopes K known =
    option_map (λ roots. record { kind = K; state = record { known = Some roots; scopes = scopes } }) known
