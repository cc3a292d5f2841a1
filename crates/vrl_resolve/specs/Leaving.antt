-- What a run leaves, by how its walk ended.
use Rattle.std.specs.Prelude.{◌≡◌, Bool, true, Some, ⊤}
use Rattle.std.specs.declared.result.Result.{Result}
use Rattle.std.specs.declared.result.Result.TheVariants.{Ok, Err}
use Rattle.vrl_value.specs.Tree.{Tree}
use Rattle.vrl_value.specs.View.{members_of, tree_of}
use Rattle.vrl_value.specs.declared.value.Value.{Value}
use Rattle.vrl_syntax.specs.Stores as stores
use Rattle.vrl_syntax.specs.Stores.{Store, value_of}
use Rattle.vrl_store.specs.Told.{AreToldByMap}
use Rattle.vrl_store.specs.declared.stop.Stop.{Stop}
use Rattle.vrl_store.specs.declared.stop.Stop.TheVariants as stop
use Rattle.vrl_resolve.specs.Meaning.{ended}
use Rattle.vrl_resolve.specs.Program.{IsEnd}
use Rattle.vrl_resolve.specs.declared.ran.Ended.{Ended}
use Rattle.vrl_resolve.specs.declared.ran.Ended.TheVariants as code
use Rattle.vrl_resolve.specs.declared.ran.Ran.{Ran}

-- the variables that were given, where they were
abbrev pub AreToldIn : Ended → Type 0
AreToldIn (code.Value (Some given)) = AreToldByMap (members_of given.variables)
AreToldIn other = ⊤

abbrev pub AreTold : Ran → Type 0
AreTold ran = AreToldIn ran.ended

-- with this value, which is told just where it is asked for, and what the store has
pub record IsValued (asked : Bool) (v : Tree) (store : Store) (ran : Ran) : Type 0 where
  pub end : IsEnd asked (ended v) store ran.ended
  pub event : tree_of ran.event ≡ store.event
  pub metadata : value_of stores.metadata store ≡ Some (tree_of ran.metadata)
  pub told : AreTold ran

-- so, and with what this store has
pub record IsEarly (end : Ended) (store : Store) (ran : Ran) : Type 0 where
  pub ended : ran.ended ≡ end
  pub event : tree_of ran.event ≡ store.event
  pub metadata : value_of stores.metadata store ≡ Some (tree_of ran.metadata)

-- with no error that is left unhandled
abbrev pub IsHandledStop : Stop → Type 0
IsHandledStop (stop.Error text) = ⊥
IsHandledStop other = ⊤

abbrev pub IsHandled : Result Value Stop → Type 0
IsHandled (Ok v) = ⊤
IsHandled (Err s) = IsHandledStop s

-- with a value that is asked for, beside which variables and their names are gathered, or for want
-- of memory; what else it ended with takes no memory to leave
abbrev pub MayWantAt : Bool → Stop → Type 0
MayWantAt asked (stop.Returned v) = asked ≡ true
MayWantAt asked stop.Memory = ⊤
MayWantAt asked other = ⊥

abbrev pub MayWant : Bool → Result Value Stop → Type 0
MayWant asked (Ok v) = asked ≡ true
MayWant asked (Err s) = MayWantAt asked s
