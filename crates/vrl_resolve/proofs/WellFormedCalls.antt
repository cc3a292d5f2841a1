-- Calls answer well-formed values where their arguments are well-formed.
use Rattle.std.specs.Prelude.{◌≡◌, ℕ, zero, suc, Bool, true, false, List, [], ◌∷◌, ◌++◌, length, map, Option, Some, None, IfSome, refl, unwrap_or, ⊤, if◌then◌else◌}
use Rattle.vrl_value.specs.Look.{item_at}
use Rattle.vrl_value.specs.Tree.{Tree, null, array, Items}
use Rattle.vrl_value.specs.declared.value.Tag.{Tag}
use Rattle.vrl_syntax.specs.Stores.{Store}
use Rattle.vrl_syntax.specs.declared.call_form.CallForm.{CallForm}
use Rattle.vrl_syntax.specs.declared.call_form.CallForm.TheVariants as form
use Rattle.vrl_builtin.specs.Listed.{list_in}
use Rattle.vrl_builtin.specs.Rows.{Answer, value as answered, failure, Row, SettingTree}
use Rattle.vrl_binding.specs.Binding.{collection_parameters}
use Rattle.vrl_table.specs.Table.{row_of}
use Rattle.vrl_store.specs.Outcomes.{deep, value}
use Rattle.vrl_store.specs.Places.{is_within, read_in}
use Rattle.vrl_store.specs.WellFormed.{AreWellFormed, IsWellFormed, IsWellFormedEnded, IsWellFormedOutcome, IsWellFormedStore}
use Rattle.vrl_resolve.specs.Calls.{Body, Callee, function, deletion, existence, iteration, nothing_called, acts, answer_outcome, argument_in, first_unfit, fit_or_else, items_in, iterated, made_of, renamed_or_else, within_limit}
use Rattle.vrl_resolve.specs.Iteration.{filtered, given_by, runs, with_keys, with_values}
use Rattle.vrl_resolve.specs.Laws.{KeepsWellFormed}
use Rattle.vrl_resolve.proofs.GivenArguments.{arguments_are, AreGivenAs, AreKnownAs}
use Rattle.vrl_resolve.proofs.IterationKept.{filtered_is, given_formed, list_formed, with_keys_is, with_values_is, EachWellFormed}
use Rattle.vrl_resolve.proofs.LawfulCalls.{lawful_answer, AreWellFormedArguments, IsWellFormedAnswer}
use Rattle.vrl_resolve.proofs.WellFormedEnds.{on_value_is, read_in_is, removed_is}
use Rattle.vrl_resolve.proofs.WellFormedValues.{Laws, array_is, boolean_is, found_item, no_items_is, null_is, one_more, or_null}

-- a function that is called takes the arguments of which so much is known
abbrev pub TakesKnown : List (Option Tree) → Callee → Type 0
TakesKnown known (function f places) = AreGivenAs 0 (row_of f).parameters (row_of f).accepts known places
TakesKnown known other = ⊤

within_is : (count : ℕ) (v : Tree) → IsWellFormed count v → IsWellFormedOutcome count (within_limit v)
within_is count v is = either (is_within v) where
  either : (b : Bool) → IsWellFormedOutcome count (if b then value v else deep)
  either true = is
  either false = tt

outcome_is : (count : ℕ) (answer : Answer) → IsWellFormedAnswer count answer → IsWellFormedOutcome count (answer_outcome answer)
outcome_is count (answered v) is = within_is count v is
outcome_is count (failure text) is = tt

fit_is : (count : ℕ) (unfit : Option (List ℕ × Tag)) (r : Row) (answer : Answer) → (unfit ≡ None → IsWellFormedAnswer count answer) → IsWellFormedOutcome count (fit_or_else unfit r answer)
fit_is count None r answer is = outcome_is count answer (is refl)
fit_is count (Some unfit) r answer is = tt

argument_is : (laws : Laws) (count : ℕ) (vs : Items) (place : Option ℕ) → IsWellFormed count (array vs) → IfSome (argument_in vs place) (IsWellFormed count)
argument_is laws count vs None is = tt
argument_is laws count vs (Some place) is = found_item laws count place vs is

pub well_formed_arguments : (laws : Laws) (count : ℕ) (vs : Items) (places : List (Option ℕ)) → IsWellFormed count (array vs) → AreWellFormedArguments count (map (argument_in vs) places)
well_formed_arguments laws count vs [] is at = tt
well_formed_arguments laws count vs (place ∷ places) is zero = argument_is laws count vs place is
well_formed_arguments laws count vs (place ∷ places) is (suc at) = well_formed_arguments laws count vs places is at

-- ---- the runs of a closure

runs_are : (count : ℕ) (body : Body) (vss : List (List Tree)) (rs : List Tree) (store : Store) → KeepsWellFormed count body → EachWellFormed count vss → AreWellFormed count rs → IsWellFormedStore count store → IsWellFormedEnded count (runs body vss rs store)
runs_are count body [] rs store keeps all are is = (array_is count rs are, is)
runs_are count body (vs ∷ vss) rs store keeps all are is =
    on_value_is count (body vs store) _ (keeps vs store all.0 is) (λ r after one stored. runs_are count body vss (rs ++ r ∷ []) after keeps all.1 (one_more count rs r are one) stored)

or_else_is : (count : ℕ) (v : Option Tree) → IfSome v (IsWellFormed count) → IsWellFormedOutcome count (renamed_or_else v)
or_else_is count None is = tt
or_else_is count (Some v) is = within_is count v is

made_is : (laws : Laws) (count : ℕ) (f : CallForm) (v : Tree) (rs : List Tree) → IsWellFormed count v → AreWellFormed count rs → IsWellFormedOutcome count (made_of f v rs)
made_is laws count form.Filter v rs is are = within_is count (filtered v rs) (filtered_is count v rs is)
made_is laws count form.MapValues v rs is are = within_is count (with_values v rs) (with_values_is count v rs is are)
made_is laws count form.MapKeys v rs is are = or_else_is count (with_keys v rs) (with_keys_is laws count v rs is)
made_is laws count f v rs is are = null_is count

iterated_is : (laws : Laws) (count : ℕ) (f : CallForm) (body : Body) (v : Tree) (unfit : Option (List ℕ × Tag)) (store : Store) → KeepsWellFormed count body → IsWellFormed count v → IsWellFormedStore count store → IsWellFormedEnded count (iterated f body v unfit store)
iterated_is laws count f body v (Some unfit) store keeps well is = (tt, is)
iterated_is laws count f body v None store keeps well is =
    on_value_is count (runs body (given_by f v) [] store) _ (runs_are count body (given_by f v) [] store keeps (given_formed count f v well) tt is)
    (λ rs after one stored. (made_is laws count f v (list_in rs) well (list_formed count rs one), stored))

-- whatever run of a closure's body that keeps them well-formed
pub acts_is : (laws : Laws) (setting : SettingTree) (known : List (Option Tree)) (callee : Callee) (body : Body) (vs : Items) (store : Store) → TakesKnown known callee → AreKnownAs known vs →
    KeepsWellFormed (length setting.sources) body → IsWellFormed (length setting.sources) (array vs) → IsWellFormedStore (length setting.sources) store → IsWellFormedEnded (length setting.sources) (acts setting callee body vs store)
acts_is laws setting known (function f places) body vs store takes are keeps well is =
    let arguments = map (argument_in vs) places in (
      fit_is (length setting.sources) (first_unfit 0 (row_of f).parameters arguments) (row_of f) _
          (λ fit. lawful_answer laws.below laws.any (row_of f) arguments setting (laws.rows f) (arguments_are (row_of f) known vs places are takes fit) (well_formed_arguments laws (length setting.sources) vs places well)),
      is,
    )
acts_is laws setting known (deletion root path) body vs store takes are keeps well is =
    (within_is (length setting.sources) (read_in root path store) (read_in_is laws (length setting.sources) root path store is), removed_is laws (length setting.sources) root path store is)
acts_is laws setting known (existence root path) body vs store takes are keeps well is = (boolean_is (length setting.sources) _, is)
acts_is laws setting known (iteration f) body vs store takes are keeps well is =
    let count = length setting.sources in
    iterated_is laws count f body (unwrap_or (item_at 0 vs) null) (first_unfit 0 (collection_parameters f) (item_at 0 vs ∷ [])) store keeps (or_null count (item_at 0 vs) (found_item laws count 0 vs well)) is
acts_is laws setting known nothing_called body vs store takes are keeps well is = (tt, is)

pub items_in_is : (count : ℕ) (v : Tree) → IsWellFormed count v → IsWellFormed count (array (items_in v))
items_in_is count (array ts) is = is
items_in_is count v is = no_items_is count
