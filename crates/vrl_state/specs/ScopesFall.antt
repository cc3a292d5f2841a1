-- The scopes around a scope are fewer.
use Rattle.std.specs.Prelude.{◌≤◌, length, Option, Some, None}
use Rattle.std.proofs.Common.{arith}
use Rattle.std.specs.declared.alloc.Global.{Global}
use Rattle.std.specs.declared.rc.Rc.{Rc}
use Rattle.vrl_state.specs.ScopesView.{scopes_of}
use Rattle.vrl_state.specs.declared.scopes.OpenScope.{OpenScope}
use Rattle.vrl_state.specs.declared.scopes.Scopes.TheDeep.{deep-Scopes}

pub scopes_fall : (n : Option (Rc OpenScope Global)) → deep-Scopes (record { innermost = n }) ≤ length (scopes_of n)
scopes_fall None = omega arith
scopes_fall (Some held) = omega arith
