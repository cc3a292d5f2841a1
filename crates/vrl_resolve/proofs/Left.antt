-- What a run leaves, by how its walk ended.
use Rattle.std.proofs.Common.{◌≡◌, Bool, true, false, None, Some, sym, subst, true≢false}
use Rattle.std.specs.declared.result.Result.TheVariants.{Ok}
use Rattle.vrl_value.specs.Tree.{Tree}
use Rattle.vrl_value.specs.View.{tree_of}
use Rattle.vrl_value.specs.declared.value.Value.{Value}
use Rattle.vrl_syntax.specs.Stores.{Store}
use Rattle.vrl_store.specs.Outcomes.{Ended, ends, returned}
use Rattle.vrl_resolve.specs.Leaving.{AreToldIn, IsEarly, IsValued}
use Rattle.vrl_resolve.specs.Meaning.{ended}
use Rattle.vrl_resolve.specs.Program.{IsEnd, IsRan}
use Rattle.vrl_resolve.specs.Walking.{EndsAsked}
use Rattle.vrl_resolve.specs.declared.ran.Ended.{Ended as CodeEnded}
use Rattle.vrl_resolve.specs.declared.ran.Ended.TheVariants as code
use Rattle.vrl_resolve.specs.declared.ran.Ran.{Ran}

-- nothing is told of the value
pub untold : (asked : Bool) (v : Tree) (store : Store) (ran : Ran) → asked ≡ false → IsEarly (code.Value None) store ran → IsValued asked v store ran
untold asked v store ran unasked is = record {
  end = subst (λ c. IsEnd asked (ended v) store c) (sym is.ended) unasked;
  event = is.event;
  metadata = is.metadata;
  told = subst AreToldIn (sym is.ended) tt;
}

-- a value that isn't asked for may be any
any_value : (v w : Tree) (store : Store) (c : CodeEnded) → IsEnd false (ended v) store c → IsEnd false (ended w) store c
any_value v w store (code.Value None) is = is
any_value v w store (code.Value (Some given)) is = absurd (true≢false (sym is.0))
any_value v w store (code.Aborted m) is = absurd is
any_value v w store (code.Banged text) is = absurd is
any_value v w store code.Deep is = absurd is

pub value_left : (asked : Bool) (m : Ended) (v : Value) (store : Store) (ran : Ran) → IsValued asked (tree_of v) store ran → EndsAsked asked m store (Ok v) → IsRan asked m ran
value_left true m v store ran is came = subst (λ e. IsRan true e ran) (sym came) (record { end = is.end; event = is.event; metadata = is.metadata })
value_left false m v store ran is came =
    subst (λ e. IsRan false e ran) (sym came.1) (record { end = any_value (tree_of v) came.0 store ran.ended is.end; event = is.event; metadata = is.metadata })

pub returned_left : (asked : Bool) (m : Ended) (v : Tree) (store : Store) (ran : Ran) → IsValued asked v store ran → m ≡ ends (returned v) store → IsRan asked m ran
returned_left asked m v store ran is came = subst (λ e. IsRan asked e ran) (sym came) (record { end = is.end; event = is.event; metadata = is.metadata })
