-- What fits the state that a script is judged from.
use Rattle.std.specs.Prelude.{IsSomeAnd}
use Rattle.vrl_kind.specs.KindTree.{KindTree}
use Rattle.vrl_kind.specs.Kinds.{Inhabits}
use Rattle.vrl_syntax.specs.Stores.{metadata, value_of}
use Rattle.vrl_state.specs.States.{State, json_object}
use Rattle.vrl_state.specs.Stores.{Fits, Store}
use Rattle.vrl_check.specs.Judgement.{IsScriptStart}

-- a store fits it whose event is of the declared kind, and whose metadata is an object of JSON
abbrev pub ScriptStartsFit : Type 0
ScriptStartsFit = (K : KindTree) (state : State) (store : Store) → IsScriptStart K state → Inhabits store.event K
    → IsSomeAnd (value_of metadata store) (λ v. Inhabits v json_object) → Fits store state
