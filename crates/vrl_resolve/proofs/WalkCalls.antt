-- Calls: their arguments, of which the first are run.
use Rattle.std.proofs.Common.{◌≡◌, ℕ, ◌≤◌, List, [], ◌++◌, drop, length, map, take, sym, ap, ◌∙◌, subst, length-take, arith}
use Rattle.std.proofs.lemmas.List.{map-append, take-append-drop}
use Rattle.std.specs.declared.result.Result.{Result}
use Rattle.vrl_value.specs.Tree.{Tree, array as items}
use Rattle.vrl_value.specs.View.{items_of_trees, tree_of}
use Rattle.vrl_value.specs.declared.value.Value.{Value}
use Rattle.vrl_syntax.specs.Stores.{Store}
use Rattle.vrl_store.specs.Outcomes.{ends, on_value, value}
use Rattle.vrl_store.specs.Results.{Ends, Stops}
use Rattle.vrl_store.specs.WellFormed.{AreWellFormed, IsWellFormedEnded, IsWellFormedStore}
use Rattle.vrl_store.specs.declared.stop.Stop.{Stop}
use Rattle.vrl_store.specs.declared.store.Store.{Store as CodeStore}
use Rattle.vrl_resolve.specs.Calls.{acts, items_in}
use Rattle.vrl_resolve.specs.Laws.{MeaningsStayWellFormed}
use Rattle.vrl_resolve.specs.Linked.{Linked, linked_of, parts_of_list, parts_view}
use Rattle.vrl_resolve.specs.LinkedMeaning.{all_mean, callee_in, no_body}
use Rattle.vrl_resolve.specs.Looks.{argument_values, AreOf}
use Rattle.vrl_resolve.specs.Plain.{plain_values, AllPlain}
use Rattle.vrl_resolve.specs.Walking.{AllFitIn, IsReadyStore, names_in, setting_in, store_at}
use Rattle.vrl_resolve.specs.declared.node.Callee.{Callee}
use Rattle.vrl_resolve.specs.declared.node.Node.{Node}
use Rattle.vrl_resolve.specs.declared.walk.Context.{Context}
use Rattle.vrl_resolve.proofs.RunArguments.{front_fits, items_are, plain_mean, run_are_of}
use Rattle.vrl_resolve.proofs.Walks.{after_stop, after_value, array_ends}

pub cut : (count : ℕ) (args : List Node) → map linked_of args ≡ map linked_of (take count args) ++ map linked_of (drop count args)
cut count args = ap (map linked_of) (sym (take-append-drop count args)) ∙ map-append linked_of (take count args) (drop count args)

pub first_fit : (x : Context) (count : ℕ) (args : List Node) → AllFitIn x (parts_view args) → AllFitIn x (parts_view (take count args))
first_fit x count args fits = front_fits (length (names_in x)) (length (setting_in x).sources) (map linked_of (take count args)) (map linked_of (drop count args)) (subst (λ ns. AllFitIn x (parts_of_list ns)) (cut count args) fits)

-- the first arguments were run, whatever stands behind them
abbrev pub AreRun : Context → List Node → CodeStore → CodeStore → List Tree → Type 0
AreRun x nodes before after vs = (more : List Linked) → all_mean (names_in x) (setting_in x) (parts_of_list (map linked_of nodes ++ more)) [] (store_at x before) ≡ all_mean (names_in x) (setting_in x) (parts_of_list more) vs (store_at x after)

pub given_are_of : (x : Context) (count : ℕ) (args : List Node) (before after : CodeStore) (vs : List Tree) → AreRun x (take count args) before after vs → AreOf (map linked_of args) vs
given_are_of x count args before after vs run =
    subst (λ ns. AreOf ns vs) (sym (cut count args))
    (run_are_of (names_in x) (setting_in x) (map linked_of (take count args)) vs (store_at x before) (store_at x after) (array_ends x (map linked_of (take count args)) before after vs run) (map linked_of (drop count args)))

-- what they gave and left is well-formed
run_formed : (law : MeaningsStayWellFormed) (x : Context) (count : ℕ) (args : List Node) (before after : CodeStore) (vs : List Tree) → AllFitIn x (parts_view args) → IsReadyStore x before → AreRun x (take count args) before after vs
    → IsWellFormedEnded (length (setting_in x).sources) (ends (value (items (items_of_trees vs))) (store_at x after))
run_formed law x count args before after vs fits ready run =
    subst (IsWellFormedEnded (length (setting_in x).sources)) (array_ends x (map linked_of (take count args)) before after vs run)
    (law.parts (names_in x) (setting_in x) (length (names_in x)) (parts_view (take count args)) [] (store_at x before) (first_fit x count args fits) tt ready.formed)

pub given_formed : (law : MeaningsStayWellFormed) (x : Context) (count : ℕ) (args : List Node) (before after : CodeStore) (vs : List Tree) → AllFitIn x (parts_view args) → IsReadyStore x before → AreRun x (take count args) before after vs
    → AreWellFormed (length (setting_in x).sources) vs
given_formed law x count args before after vs fits ready run = items_are (length (setting_in x).sources) vs (run_formed law x count args before after vs fits ready run).0

pub left_formed : (law : MeaningsStayWellFormed) (x : Context) (count : ℕ) (args : List Node) (before after : CodeStore) (vs : List Tree) → AllFitIn x (parts_view args) → IsReadyStore x before → AreRun x (take count args) before after vs
    → IsWellFormedStore (length (setting_in x).sources) (store_at x after)
left_formed law x count args before after vs fits ready run = (run_formed law x count args before after vs fits ready run).1

-- an argument that is run ends the call
pub call_stops : (x : Context) (count : ℕ) (args : List Node) (callee : Callee) (before : CodeStore) (t : Store) (stop : Stop)
    → ((more : List Linked) → Stops (all_mean (names_in x) (setting_in x) (parts_of_list (map linked_of (take count args) ++ more)) [] (store_at x before)) t stop)
    → Stops (on_value (all_mean (names_in x) (setting_in x) (parts_view args) [] (store_at x before)) (λ vs after. acts (setting_in x) (callee_in (names_in x) callee) no_body (items_in vs) after)) t stop
call_stops x count args callee before t stop is =
    after_stop (all_mean (names_in x) (setting_in x) (parts_view args) [] (store_at x before)) (λ vs after. acts (setting_in x) (callee_in (names_in x) callee) no_body (items_in vs) after) t stop
    (subst (λ ns. Stops (all_mean (names_in x) (setting_in x) (parts_of_list ns) [] (store_at x before)) t stop) (sym (cut count args)) (is (map linked_of (drop count args))))

-- the call itself, behind its arguments
pub call_ends : (x : Context) (count : ℕ) (args : List Node) (callee : Callee) (run : List Value) (before after : CodeStore) (t : Store) (r : Result Value Stop) → count ≤ length args → AllPlain (map linked_of (drop count args)) → length run ≡ length (take count args)
    → AreRun x (take count args) before after (map tree_of run)
    → Ends (acts (setting_in x) (callee_in (names_in x) callee) no_body (argument_values (names_in x) (store_at x after) run args) (store_at x after)) t r
    → Ends (on_value (all_mean (names_in x) (setting_in x) (parts_view args) [] (store_at x before)) (λ vs end. acts (setting_in x) (callee_in (names_in x) callee) no_body (items_in vs) end)) t r
call_ends x count args callee run before after t r within plain counted all acts_so =
    let vs = map tree_of run in
    let taken = length-take count args in
    let as_many : length run ≡ count = omega arith in
    let behind = map linked_of (drop count args) in
    let values : all_mean (names_in x) (setting_in x) (parts_view args) [] (store_at x before) ≡ ends (value (items (items_of_trees (vs ++ plain_values (names_in x) behind (store_at x after))))) (store_at x after) =
    ap (λ ns. all_mean (names_in x) (setting_in x) (parts_of_list ns) [] (store_at x before)) (cut count args) ∙ all behind ∙ plain_mean (names_in x) (setting_in x) behind vs (store_at x after) plain in
    let here = subst (λ k. Ends (acts (setting_in x) (callee_in (names_in x) callee) no_body (items_of_trees (vs ++ plain_values (names_in x) (map linked_of (drop k args)) (store_at x after))) (store_at x after)) t r) as_many acts_so in
    after_value (all_mean (names_in x) (setting_in x) (parts_view args) [] (store_at x before)) (λ ws end. acts (setting_in x) (callee_in (names_in x) callee) no_body (items_in ws) end)
    (items (items_of_trees (vs ++ plain_values (names_in x) behind (store_at x after)))) (store_at x after) t r values here
