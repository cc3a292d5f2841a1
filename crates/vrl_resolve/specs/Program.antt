-- What a program is to its callers: what it does to an event with its metadata, at a moment; and
-- what a run leaves.
use Rattle.std.specs.Prelude.{◌≡◌, Bool, true, false, ℕ, ℤ, List, Option, Some, None, ⊤}
use Rattle.vrl_value.specs.Tree.{Tree, null, object}
use Rattle.vrl_value.specs.View.{members_of, tree_of}
use Rattle.vrl_value.specs.declared.value.Tag.{Tag}
use Rattle.vrl_syntax.specs.Stores as stores
use Rattle.vrl_syntax.specs.Stores.{Store, store_of, value_of}
use Rattle.vrl_syntax.specs.Tree.{Exprs}
use Rattle.vrl_store.specs.Outcomes.{Ended}
use Rattle.vrl_store.specs.StoreView.{map_of}
use Rattle.vrl_store.specs.WellFormed.{IsWellFormed}
use Rattle.vrl_resolve.specs.Linked.{parts_view}
use Rattle.vrl_resolve.specs.LinkedMeaning.{items_mean}
use Rattle.vrl_resolve.specs.Meaning.{End, ended, ended_aborted, ended_banged, ended_deep, end_of, run_script}
use Rattle.vrl_resolve.specs.declared.program.Program.{Program}
use Rattle.vrl_resolve.specs.declared.ran.Ended.{Ended as CodeEnded}
use Rattle.vrl_resolve.specs.declared.ran.Ended.TheVariants as code
use Rattle.vrl_resolve.specs.declared.ran.Produced.{Produced}
use Rattle.vrl_resolve.specs.declared.ran.Ran.{Ran}

pub record ProgramTree : Type 0 where
  -- of its regexes
  pub sources : List (List ℕ)
  -- how it ends over an event with its metadata beside it, at a moment
  pub ended : ℤ → Tree → Tree → Ended

abbrev pub ended_over : ProgramTree → ℤ → Tree → Tree → Ended
ended_over program moment event beside = program.ended moment event beside

-- that of a script, with the tags of the empty values of its error assignments, an outer one before
-- those in it
abbrev pub script_program : Exprs → List Tag → List (List ℕ) → ProgramTree
script_program items tags sources = record {
  sources = sources;
  ended = λ moment event beside. run_script
      (record { moment = moment; sources = sources }) tags items event beside;
}

-- a program in memory
unfoldable pub program_of : Program → ProgramTree
program_of p = record {
  sources = p.patterns;
  ended = λ moment event beside. items_mean p.names
      (record { moment = moment; sources = p.patterns }) null (parts_view p.items.items) (store_of event beside);
}

-- ---- what a run leaves

-- what was produced by a run that ended with this value, in this store; it is there just where it is
-- asked for
abbrev pub IsProduced : Bool → Tree → Store → Option Produced → Type 0
IsProduced asked v store (Some produced) =
    (asked ≡ true) × (tree_of produced.value ≡ v) × (map_of (members_of produced.variables) ≡ store.variables)
IsProduced asked v store None = asked ≡ false

abbrev pub IsEnd : Bool → End → Store → CodeEnded → Type 0
IsEnd asked (ended v) store (code.Value produced) = IsProduced asked v store produced
IsEnd asked (ended_aborted m) store (code.Aborted n) = n ≡ m
IsEnd asked (ended_banged text) store (code.Banged told) = told ≡ text
IsEnd asked ended_deep store code.Deep = ⊤
IsEnd asked e store c = ⊥

-- a run left what the meaning says
pub record IsRan (asked : Bool) (meant : Ended) (ran : Ran) : Type 0 where
  pub end : IsEnd asked (end_of meant.outcome) meant.store ran.ended
  pub event : tree_of ran.event ≡ meant.store.event
  pub metadata : value_of stores.metadata meant.store ≡ Some (tree_of ran.metadata)

-- the value that a run gave, and the variables, seen as an object
abbrev pub IsWellFormedEnd : ℕ → CodeEnded → Type 0
IsWellFormedEnd count (code.Value (Some produced)) =
    IsWellFormed count (tree_of produced.value) × IsWellFormed count (object (members_of produced.variables))
IsWellFormedEnd count other = ⊤

-- what a run left has its members in order, and each regex in it is one of the first so many
pub record IsWellFormedRan (count : ℕ) (ran : Ran) : Type 0 where
  pub end : IsWellFormedEnd count ran.ended
  pub event : IsWellFormed count (tree_of ran.event)
  pub metadata : IsWellFormed count (tree_of ran.metadata)
