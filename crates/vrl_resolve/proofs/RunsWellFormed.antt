-- A run starts with a well-formed store, and what it leaves is well-formed.
use Rattle.std.proofs.Common.{◌≡◌, Bool, ℕ, List, Option, Some, None, sym, subst}
use Rattle.std.specs.Cmp.Lexicographic.{slice_cmp}
use Rattle.std.specs.FinMap as finite
use Rattle.std.specs.Ordering.{nat_cmp}
use Rattle.std.specs.Prelude.{IfOk, IfSome}
use Rattle.std.specs.declared.result.Result.{Result}
use Rattle.std.specs.declared.result.Result.TheVariants.{Ok, Err}
use Rattle.vrl_value.specs.Tree.{Tree}
use Rattle.vrl_syntax.specs.Stores.{Store, metadata, metadata_name, store_of}
use Rattle.vrl_value.specs.declared.memory.Memory.{Memory}
use Rattle.vrl_store.specs.Outcomes.{Ended, Outcome, value, error, aborted, returned, banged, deep}
use Rattle.vrl_store.specs.WellFormed.{IsWellFormed, IsWellFormedEnded, IsWellFormedOutcome, IsWellFormedStore}
use Rattle.vrl_resolve.specs.Leaving.{AreTold, AreToldIn}
use Rattle.vrl_resolve.specs.Meaning.{end_of}
use Rattle.vrl_resolve.specs.Program.{IsEnd, IsProduced, IsRan, IsWellFormedEnd, IsWellFormedRan}
use Rattle.vrl_resolve.specs.declared.ran.Ended.{Ended as CodeEnded}
use Rattle.vrl_resolve.specs.declared.ran.Ended.TheVariants as code
use Rattle.vrl_resolve.specs.declared.ran.Produced.{Produced}
use Rattle.vrl_resolve.specs.declared.ran.Ran.{Ran}
use Rattle.vrl_resolve.proofs.WellFormedEnds.{with_value_is}

pub start_is : (count : ℕ) (event beside : Tree) (store : Store) → store ≡ store_of event beside → IsWellFormed count event → IsWellFormed count beside → IsWellFormedStore count store
start_is count event beside store is event_is beside_is =
    subst (IsWellFormedStore count) (sym is) (with_value_is count metadata beside (record { event = event; variables = finite.empty }) beside_is (record {
      event = event_is;
      variables = λ x. subst (λ found. IfSome found (IsWellFormed count)) (sym (finite.get-empty (slice_cmp nat_cmp) x)) tt;
    }))

given_is : (count : ℕ) (asked : Bool) (v : Tree) (store : Store) (given : Option Produced) → IsProduced asked v store given → AreToldIn (code.Value given) → IsWellFormed count v → IsWellFormedStore count store → IsWellFormedEnd count (code.Value given)
given_is count asked v store (Some given) is told well formed =
    (subst (IsWellFormed count) (sym is.1) well, told count (subst (λ m. (x : List ℕ) → IfSome (finite.get m x) (IsWellFormed count)) (sym is.2) formed.variables))
given_is count asked v store None is told well formed = tt

end_is : (count : ℕ) (asked : Bool) (outcome : Outcome) (store : Store) (end : CodeEnded) → IsEnd asked (end_of outcome) store end → AreToldIn end → IsWellFormedOutcome count outcome → IsWellFormedStore count store → IsWellFormedEnd count end
end_is count asked (value v) store (code.Value given) is told well formed = given_is count asked v store given is told well formed
end_is count asked (returned v) store (code.Value given) is told well formed = given_is count asked v store given is told well formed
end_is count asked (error text) store (code.Value given) is told well formed = absurd is
end_is count asked (aborted m) store (code.Value given) is told well formed = absurd is
end_is count asked (banged text) store (code.Value given) is told well formed = absurd is
end_is count asked deep store (code.Value given) is told well formed = absurd is
end_is count asked outcome store end is told well formed = tt

run_is : (count : ℕ) (asked : Bool) (meant : Ended) (ran : Ran) → IsRan asked meant ran → AreTold ran → IsWellFormedEnded count meant → IsWellFormedRan count ran
run_is count asked meant ran is told well = record {
  end = end_is count asked meant.outcome meant.store ran.ended is.end told well.0 well.1;
  event = subst (IsWellFormed count) (sym is.event) well.1.event;
  metadata = subst (λ found. IfSome found (IsWellFormed count)) is.metadata (well.1.variables metadata_name);
}

-- what is left of a run, told of each meaning that it has
pub left_is : (count : ℕ) (asked : Bool) (P : Ended → Type 0) (result : Result Ran Memory) (meant : Ended) → IfOk result (λ ran. (m : Ended) → P m → IsRan asked m ran)
    → IfOk result AreTold → P meant → IsWellFormedEnded count meant → IfOk result (IsWellFormedRan count)
left_is count asked P (Ok ran) meant is told means well = run_is count asked meant ran (is meant means) told well
left_is count asked P (Err memory) meant is told means well = tt
