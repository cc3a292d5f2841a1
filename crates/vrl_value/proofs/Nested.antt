-- The values of a map nest less deep than the fields over it.
use Rattle.std.proofs.Common.{◌≡◌, ℕ, zero, suc, ◌+◌, ◌<◌, ◌≤◌, max, List, [], ◌∷◌, length, get_or, String, Global, Option, Some, Bor, rules, arith}
use denote.Param.Weighed.{most}
use Rattle.std.proofs.lemmas.Map.Views.{All-turn}
use Rattle.std.specs.Iterator.{Yields}
use Rattle.std.specs.List.{All}
use Rattle.std.specs.Map.{values_of}
use Rattle.std.specs.Map.Iter.{TakesFirst, deref_pair}
use Rattle.vrl_value.specs.declared.value.Value.{Value, the_lemmas}
use Rattle.vrl_value.specs.declared.value.Value.TheBlock.{the_depth, member-Value, member-Fields}
use Rattle.vrl_value.specs.declared.value.Fields.{Fields, out-Fields}

below_most : (es : List (String Global × Value)) (k : ℕ) (e : String Global × Value) → k < length es → the_depth member-Value (get_or es k e).1 ≤ most (the_depth member-Value) (values_of es)
below_most [] k e here = absurd (omega arith)
below_most (x ∷ es) zero e here = omega arith
below_most (x ∷ es) (suc k) e here = omega (arith, below_most es k e (omega arith))

values_below : (fields : Fields) → All (λ (e : String Global × Value). the_depth member-Value e.1 < the_depth member-Fields fields) (out-Fields fields).map.entries
values_below fields = λ k e here.
    let es = (out-Fields fields).map.entries in
    let depth : the_depth member-Fields fields ≡ max (most (the_depth member-Value) (values_of es)) 0 + 1 = search (rules, the_lemmas) in
    omega (arith, below_most es k e here)

-- so does each that is met on a walk over the map
pub met_below : (fields : Fields) (xs : List (Bor (String Global) × Bor Value)) (s t u : List (String Global × Value)) (r : Option (Bor (String Global) × Bor Value)) (x : Bor (String Global) × Bor Value)
    → s ≡ (out-Fields fields).map.entries → Yields (TakesFirst deref_pair) s xs t → r ≡ Some x → TakesFirst deref_pair t r u → the_depth member-Value x.1.now < the_depth member-Fields fields
met_below fields xs s t u r x start met is step =
    All-turn deref_pair (λ (e : String Global × Value). the_depth member-Value e.1 < the_depth member-Fields fields) (out-Fields fields).map.entries xs s t u r x (values_below fields) start met is step
