-- How expressions end, and what follows.
use Rattle.std.specs.Prelude.{ℕ, Bool, true, false, List, Option}
use Rattle.vrl_value.specs.Tree.{Tree}
use Rattle.vrl_syntax.specs.Stores.{Store, store_kept}

pub data Outcome : Type 0 where
  value : Tree → Outcome
  -- with its text
  error : List ℕ → Outcome
  -- by an `abort`, with its message where there is one
  aborted : Option (List ℕ) → Outcome
  -- by a `return`
  returned : Tree → Outcome
  -- by an error of a call with a `!`, with its text
  banged : List ℕ → Outcome
  -- by the limit of depth
  deep : Outcome

-- how an expression ended, and the store that it left; what was written before stays written
pub record Ended : Type 0 where
  pub outcome : Outcome
  pub store : Store

abbrev pub ends : Outcome → Store → Ended
ends outcome store = record { outcome = outcome; store = store }

-- what follows where a value came; whatever else came ends all
abbrev pub value_then : Outcome → Store → (Tree → Store → Ended) → Ended
value_then (value v) store next = next v store
value_then other store next = ends other store

abbrev pub on_value : Ended → (Tree → Store → Ended) → Ended
on_value ended next = value_then ended.outcome ended.store next

-- what follows where an error came; whatever else came stays
abbrev pub error_then : Outcome → Store → (List ℕ → Store → Ended) → Ended
error_then (error text) store next = next text store
error_then other store next = ends other store

abbrev pub on_error : Ended → (List ℕ → Store → Ended) → Ended
on_error ended next = error_then ended.outcome ended.store next

-- an error of a call with a `!` ends the program
abbrev pub banged_if : Bool → Ended → Ended
banged_if true ended = on_error ended (λ text store. ends (banged text) store)
banged_if false ended = ended

-- a block ends, by whatever outcome, with just the names that the store had before it
abbrev pub block_left : Store → Ended → Ended
block_left before ended = ends ended.outcome (store_kept before ended.store)
