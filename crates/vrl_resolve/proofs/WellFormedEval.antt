-- Expressions keep values well-formed.
use Rattle.std.specs.Prelude.{◌≡◌, ℕ, zero, suc, ◌<◌, Bool, true, false, ◌&&◌, List, [], ◌∷◌, ◌++◌, length, map, Option, Some, None, IsSomeAnd, slice_get, refl, if◌then◌else◌}
use Rattle.std.proofs.Common.{sym, ap, ◌∙◌, subst, append_assoc, arith, true≢false}
use Rattle.std.proofs.lemmas.Bool.{and_parts}
use Rattle.std.proofs.lemmas.List.{append-nil}
use Rattle.std.specs.Option.{option_map_or}
use Rattle.std.specs.declared.result.Result.{Result}
use Rattle.std.specs.declared.result.Result.TheVariants.{Ok, Err}
use Rattle.vrl_value.specs.Tree.{Tree, null, array as items, object as members, Members, no_members, put}
use Rattle.vrl_value.specs.View.{items_of_trees}
use Rattle.vrl_value.specs.declared.value.Tag.{Tag}
use Rattle.vrl_path.specs.declared.path.Step.{Step}
use Rattle.vrl_syntax.specs.Calls.{form_named, has_shape, is_closure_form, is_del, is_exists, literal_of}
use Rattle.vrl_syntax.specs.ErrorAssignments.{behind, behind_all, behind_args, behind_arms, first_tag, other_tags}
use Rattle.vrl_syntax.specs.Stores.{Store, bound_to, hidden_by}
use Rattle.vrl_syntax.specs.Tree.{Expr, expr, Form, literal, array, object, read, query, group, block, conditional, negation, binary, assign, merge, both, call, return_of, abort_with, Exprs, no_exprs, exprs, Pairs, no_pairs, pair, Arms, no_arms, arm, Else, no_else, else_block, Args, no_args, arg, Closure, no_closure, closure, no_message, message}
use Rattle.vrl_syntax.specs.declared.call_form.CallForm.{CallForm}
use Rattle.vrl_syntax.specs.declared.root.Op.TheVariants as op
use Rattle.vrl_syntax.specs.declared.root.Root.{Root}
use Rattle.vrl_builtin.specs.Rows.{ParameterRow, SettingTree}
use Rattle.vrl_binding.specs.Binding.{binding, collection_parameters, keywords_of, path_parameters}
use Rattle.vrl_table.specs.Table.{function_named, row_of}
use Rattle.vrl_binding.specs.declared.binding.BindFault.{BindFault}
use Rattle.vrl_table.specs.declared.function.Fun.{Fun}
use Rattle.vrl_store.specs.Operators.{is_true}
use Rattle.vrl_store.specs.Outcomes.{Ended, ends, value}
use Rattle.vrl_store.specs.Places.{target_value}
use Rattle.vrl_store.specs.WellFormed.{AreWellFormed, AreWellFormedArgs, AreWellFormedArms, AreWellFormedExprs, AreWellFormedPairs, IsWellFormed, IsWellFormedClosure, IsWellFormedElse, IsWellFormedEnded, IsWellFormedExpr, IsWellFormedForm, IsWellFormedStore}
use Rattle.vrl_resolve.specs.Calls.{Callee, function, deletion, existence, nothing_called, are_written_right, bound_function, bound_iteration, bound_path, callee_of, closure_callee, is_allowed_literal, is_written_right, items_in, named_function, path_callee, values_of, written_at, written_function}
use Rattle.vrl_resolve.specs.Laws.{EvaluationsStayWellFormed, KeepsWellFormed}
use Rattle.vrl_resolve.specs.Meaning.{eval, eval_all, eval_args, eval_arms, eval_body, eval_else, eval_form, eval_items, eval_pairs}
use Rattle.vrl_resolve.proofs.BoundPlaces.{places_are, ArePlaced, IsPlaced}
use Rattle.vrl_resolve.proofs.GivenArguments.{AreGivenAs, AreKnownAs, IsAllowedAs, IsGivenAs, IsKnownAs}
use Rattle.vrl_resolve.proofs.WellFormedCalls.{acts_is, items_in_is, TakesKnown}
use Rattle.vrl_resolve.proofs.WellFormedEnds.{aborted_is, assigned_is, banged_is, block_is, body_left_is, both_is, bound_is, came_of, combined_is, either_is, negated_is, on_value_is, on_value_known, part_of_is, read_in_is, same_value, target_is}
use Rattle.vrl_resolve.proofs.WellFormedValues.{Laws, array_is, no_members_is, null_is, one_more, put_is}

-- ---- what is known of the arguments of a call

abbrev known_args : Args → List (Option Tree)
known_args gs = map literal_of (values_of gs)

as_many : (gs : Args) → length (keywords_of gs) ≡ length (values_of gs)
as_many no_args = refl
as_many (arg name span e gs) = ap suc (as_many gs)

both_from : (a b : Bool) → (a && b) ≡ true → (a ≡ true) × (b ≡ true)
both_from a b is = let parts = and_parts a b is in (parts.0, parts.1)

allowed_is : (wanted : Bool) (accepts : Tree → Bool) (known : Option Tree) → (if wanted then option_map_or accepts known false else true) ≡ true → IsAllowedAs wanted accepts known
allowed_is false accepts known right = tt
allowed_is true accepts None right = absurd (true≢false (sym right))
allowed_is true accepts (Some v) right = right

place_is : (wanted : Bool) (accepts : Tree → Bool) (es : List Expr) (place : ℕ) → place < length es → (if wanted then is_allowed_literal accepts (slice_get es place) else true) ≡ true →
    IsSomeAnd (slice_get (map literal_of es) place) (IsAllowedAs wanted accepts)
place_is wanted accepts [] place within right = absurd (omega arith)
place_is wanted accepts (e ∷ es) zero within right = allowed_is wanted accepts (literal_of e) right
place_is wanted accepts (e ∷ es) (suc place) within right = place_is wanted accepts es place (omega arith) right

given_is : (p : ParameterRow) (accepts : Tree → Bool) (es : List Expr) (place : Option ℕ) → IsPlaced p (length es) place → is_written_right p accepts (written_at es place) ≡ true → IsGivenAs p accepts (map literal_of es) place
given_is p accepts es None placed right = placed
given_is p accepts es (Some place) placed right = place_is p.literal accepts es place placed right

given_are : (i : ℕ) (ps : List ParameterRow) (accepts : ℕ → Tree → Bool) (es : List Expr) (places : List (Option ℕ)) → ArePlaced ps (length es) places →
    are_written_right accepts i ps (map (written_at es) places) ≡ true → AreGivenAs i ps accepts (map literal_of es) places
given_are i [] accepts es places placed right = tt
given_are i (p ∷ ps) accepts es [] placed right = absurd placed
given_are i (p ∷ ps) accepts es (place ∷ places) placed right =
    let parts = both_from (is_written_right p (accepts i) (written_at es place)) (are_written_right accepts (suc i) ps (map (written_at es) places)) right in
    (given_is p (accepts i) es place placed.0 parts.0, given_are (suc i) ps accepts es places placed.1 parts.1)

takes_written : (f : Fun) (es : List Expr) (places : List (Option ℕ)) → ArePlaced (row_of f).parameters (length es) places → TakesKnown (map literal_of es) (written_function f es places)
takes_written f es places placed = either (are_written_right (row_of f).accepts 0 (row_of f).parameters (map (written_at es) places)) (given_are 0 (row_of f).parameters (row_of f).accepts es places placed) where
  either : (b : Bool) → (b ≡ true → AreGivenAs 0 (row_of f).parameters (row_of f).accepts (map literal_of es) places) → TakesKnown (map literal_of es) (if b then function f places else nothing_called)
  either true given = given refl
  either false given = tt

takes_bound : (f : Fun) (gs : Args) (bound : Result (List (Option ℕ)) BindFault) → ((places : List (Option ℕ)) → bound ≡ Ok places → ArePlaced (row_of f).parameters (length (values_of gs)) places) →
    TakesKnown (known_args gs) (bound_function f gs bound)
takes_bound f gs (Ok places) placed = takes_written f (values_of gs) places (placed places refl)
takes_bound f gs (Err fault) placed = tt

takes_named : (f : Option Fun) (gs : Args) → TakesKnown (known_args gs) (named_function f gs)
takes_named None gs = tt
takes_named (Some f) gs = takes_bound f gs (binding (row_of f).parameters (keywords_of gs))
    (λ places bound. subst (λ count. ArePlaced (row_of f).parameters count places) (as_many gs) (places_are (row_of f).parameters (keywords_of gs) places bound))

-- `del` and `exists` take no values
takes_path : (known : List (Option Tree)) (make : Root → List Step → Callee) (es : List Expr) → ((root : Root) (path : List Step) → TakesKnown known (make root path)) → TakesKnown known (path_callee make es)
takes_path known make (expr span (read root path) ∷ []) takes = takes root path
takes_path known make es takes = tt

takes_bound_path : (make : Root → List Step → Callee) (gs : Args) (bound : Result (List (Option ℕ)) BindFault) → ((root : Root) (path : List Step) → TakesKnown (known_args gs) (make root path)) →
    TakesKnown (known_args gs) (bound_path make gs bound)
takes_bound_path make gs (Ok places) takes = takes_path (known_args gs) make (values_of gs) takes
takes_bound_path make gs (Err fault) takes = tt

takes_either : (known : List (Option Tree)) (b : Bool) (first second : Callee) → TakesKnown known first → TakesKnown known second → TakesKnown known (if b then first else second)
takes_either known true first second one other = one
takes_either known false first second one other = other

-- nor does what runs a closure
takes_closure : (known : List (Option Tree)) (f : Option CallForm) (xs : List (List ℕ)) (gs : Args) → TakesKnown known (closure_callee f xs gs)
takes_closure known None xs gs = tt
takes_closure known (Some f) xs gs =
    takes_either known (is_closure_form (Some f) && has_shape f xs) (bound_iteration f (binding (collection_parameters f) (keywords_of gs))) nothing_called (chosen (binding (collection_parameters f) (keywords_of gs))) tt where
      chosen : (bound : Result (List (Option ℕ)) BindFault) → TakesKnown known (bound_iteration f bound)
      chosen (Ok places) = tt
      chosen (Err fault) = tt

takes_is : (name : List ℕ) (gs : Args) (c : Closure) → TakesKnown (known_args gs) (callee_of name gs c)
takes_is name gs (closure names es span) = takes_closure (known_args gs) (form_named name) names gs
takes_is name gs no_closure =
    takes_either (known_args gs) (is_del name) (bound_path deletion gs (binding path_parameters (keywords_of gs))) _ (takes_bound_path deletion gs (binding path_parameters (keywords_of gs)) (λ root path. tt))
    (takes_either (known_args gs) (is_exists name) (bound_path existence gs (binding path_parameters (keywords_of gs))) (named_function (function_named name) gs)
    (takes_bound_path existence gs (binding path_parameters (keywords_of gs)) (λ root path. tt)) (takes_named (function_named name) gs))

known_is : (setting : SettingTree) (tags : List Tag) (e : Expr) (store : Store) (v : Tree) → (eval setting tags e store).outcome ≡ value v → IsKnownAs (literal_of e) v
known_is setting tags (expr span (literal u)) store v came = same_value u v came
known_is setting tags e store v came = tt

-- the values of arguments behind those before them
known_are : (setting : SettingTree) (tags : List Tag) (gs : Args) (done : List Tree) (store : Store) (u : Tree) → (eval_args setting tags gs done store).outcome ≡ value u →
    (vs : List Tree) × ((u ≡ items (items_of_trees (done ++ vs))) × AreKnownAs (known_args gs) (items_of_trees vs))
known_are setting tags no_args done store u came = ([], (same_value _ u came ∙ ap (λ vs. items (items_of_trees vs)) (sym (append-nil done)), tt))
known_are setting tags (arg name span e gs) done store u came =
    let one = came_of (eval setting tags e store) (λ v after. eval_args setting (behind e tags) gs (done ++ v ∷ []) after) u came in
    let others = known_are setting (behind e tags) gs (done ++ one.0 ∷ []) (eval setting tags e store).store u one.1.1 in
    (one.0 ∷ others.0, (others.1.0 ∙ ap (λ vs. items (items_of_trees vs)) (append_assoc done (one.0 ∷ []) others.0), (known_is setting tags e store one.0 one.1.0, others.1.1)))

arguments_known : (setting : SettingTree) (tags : List Tag) (gs : Args) (store : Store) (u : Tree) → (eval_args setting tags gs [] store).outcome ≡ value u → AreKnownAs (known_args gs) (items_in u)
arguments_known setting tags gs store u came = let all = known_are setting tags gs [] store u came in subst (AreKnownAs (known_args gs)) (ap items_in (sym all.1.0)) all.1.1

-- ---- what an expression means

module _ (laws : Laws) (setting : SettingTree) where
  abbrev count : ℕ
  count = length setting.sources

  mutual
    expr_is : (tags : List Tag) (e : Expr) (store : Store) → IsWellFormedExpr count e → IsWellFormedStore count store → IsWellFormedEnded count (eval setting tags e store)
    expr_is tags (expr span f) store well is = form_is tags f store well is

    form_is : (tags : List Tag) (f : Form) (store : Store) → IsWellFormedForm count f → IsWellFormedStore count store → IsWellFormedEnded count (eval_form setting tags f store)
    form_is tags (literal v) store well is = (well, is)
    form_is tags (array es) store well is = all_are tags es [] store well tt is
    form_is tags (object ps) store well is = pairs_are tags ps no_members store well (no_members_is count) is
    form_is tags (read root path) store well is = (read_in_is laws count root path store is, is)
    form_is tags (query e path) store well is = on_value_is count (eval setting tags e store) _ (expr_is tags e store well is) (λ v after one stored. (part_of_is laws count path v one, stored))
    form_is tags (group e) store well is = expr_is tags e store well is
    form_is tags (block es) store well is = block_is count store _ (items_are tags null es store (null_is count) well is)
    form_is tags (conditional gs es) store well is =
        arms_are tags gs (λ after. eval_else setting (behind_arms gs tags) es after) store well.0 (λ after stored. else_is (behind_arms gs tags) es after well.1 stored) is
    form_is tags (negation e) store well is = on_value_is count (eval setting tags e store) _ (expr_is tags e store well is) (λ v after one stored. (negated_is count v, stored))
    form_is tags (binary o l r) store well is =
        combined_is laws count o (eval setting tags l store) (λ after. eval setting (behind l tags) r after) (expr_is tags l store well.0 is) (λ after stored. expr_is (behind l tags) r after well.1 stored)
    form_is tags (assign t e) store well is = assigned_is laws count t _ (expr_is tags e store well is)
    form_is tags (merge t e) store well is =
        assigned_is laws count t _ (combined_is laws count op.Merge (ends (value (target_value t store)) store) (λ after. eval setting tags e after) (target_is laws count t store is, is) (λ after stored. expr_is tags e after well stored))
    form_is tags (both t u e) store well is =
        let given = expr_is (other_tags tags) e store well is in
        both_is laws count t u (first_tag tags) (eval setting (other_tags tags) e store).outcome (eval setting (other_tags tags) e store).store given.0 given.1
    form_is tags (call name span bang gs c) store well is =
        let given = args_are tags gs [] store well.0 tt is in
        banged_is count bang _ (on_value_known count (eval_args setting tags gs [] store) _ given
        (λ vs came one. acts_is laws setting (known_args gs) (callee_of name gs c) (eval_body setting (behind_args gs tags) c) (items_in vs) (eval_args setting tags gs [] store).store
        (takes_is name gs c) (arguments_known setting tags gs store vs came) (body_is (behind_args gs tags) c well.1) (items_in_is count vs one) given.1))
    form_is tags (return_of e) store well is = on_value_is count (eval setting tags e store) _ (expr_is tags e store well is) (λ v after one stored. (one, stored))
    form_is tags (abort_with no_message) store well is = (tt, is)
    form_is tags (abort_with (message e)) store well is = on_value_is count (eval setting tags e store) _ (expr_is tags e store well is) (λ v after one stored. (aborted_is count v, stored))

    all_are : (tags : List Tag) (es : Exprs) (vs : List Tree) (store : Store) → AreWellFormedExprs count es → AreWellFormed count vs → IsWellFormedStore count store → IsWellFormedEnded count (eval_all setting tags es vs store)
    all_are tags no_exprs vs store well are is = (array_is count vs are, is)
    all_are tags (exprs e es) vs store well are is =
        on_value_is count (eval setting tags e store) _ (expr_is tags e store well.0 is) (λ v after one stored. all_are (behind e tags) es (vs ++ v ∷ []) after well.1 (one_more count vs v are one) stored)

    pairs_are : (tags : List Tag) (ps : Pairs) (ms : Members) (store : Store) → AreWellFormedPairs count ps → IsWellFormed count (members ms) → IsWellFormedStore count store → IsWellFormedEnded count (eval_pairs setting tags ps ms store)
    pairs_are tags no_pairs ms store well are is = (are, is)
    pairs_are tags (pair key e ps) ms store well are is =
        on_value_is count (eval setting tags e store) _ (expr_is tags e store well.0 is) (λ v after one stored. pairs_are (behind e tags) ps (put key v ms) after well.1 (put_is laws count key v ms one are) stored)

    args_are : (tags : List Tag) (gs : Args) (vs : List Tree) (store : Store) → AreWellFormedArgs count gs → AreWellFormed count vs → IsWellFormedStore count store → IsWellFormedEnded count (eval_args setting tags gs vs store)
    args_are tags no_args vs store well are is = (array_is count vs are, is)
    args_are tags (arg name span e gs) vs store well are is =
        on_value_is count (eval setting tags e store) _ (expr_is tags e store well.0 is) (λ v after one stored. args_are (behind e tags) gs (vs ++ v ∷ []) after well.1 (one_more count vs v are one) stored)

    items_are : (tags : List Tag) (last : Tree) (es : Exprs) (store : Store) → IsWellFormed count last → AreWellFormedExprs count es → IsWellFormedStore count store → IsWellFormedEnded count (eval_items setting tags last es store)
    items_are tags last no_exprs store one well is = (one, is)
    items_are tags last (exprs e es) store one well is =
        on_value_is count (eval setting tags e store) _ (expr_is tags e store well.0 is) (λ v after other stored. items_are (behind e tags) v es after other well.1 stored)

    arms_are : (tags : List Tag) (gs : Arms) (otherwise : Store → Ended) (store : Store) → AreWellFormedArms count gs →
        ((after : Store) → IsWellFormedStore count after → IsWellFormedEnded count (otherwise after)) → IsWellFormedStore count store → IsWellFormedEnded count (eval_arms setting tags gs otherwise store)
    arms_are tags no_arms otherwise store well others is = others store is
    arms_are tags (arm predicate es gs) otherwise store well others is =
        on_value_is count (eval setting tags predicate store) _ (expr_is tags predicate store well.0 is)
        (λ v after one stored. either_is count (is_true v) _ _ (block_is count after _ (items_are (behind predicate tags) null es after (null_is count) well.1.0 stored))
        (arms_are (behind_all es (behind predicate tags)) gs otherwise after well.1.1 others stored))

    else_is : (tags : List Tag) (es : Else) (store : Store) → IsWellFormedElse count es → IsWellFormedStore count store → IsWellFormedEnded count (eval_else setting tags es store)
    else_is tags no_else store well is = (null_is count, is)
    else_is tags (else_block es) store well is = block_is count store _ (items_are tags null es store (null_is count) well is)

    body_is : (tags : List Tag) (c : Closure) → IsWellFormedClosure count c → KeepsWellFormed count (eval_body setting tags c)
    body_is tags no_closure well vs store are is = (null_is count, is)
    body_is tags (closure names es span) well vs store are is =
        body_left_is count (hidden_by names) store _ is (items_are tags null es (bound_to names vs store) (null_is count) well (bound_is count names vs store are is))

pub evaluations_stay_well_formed : Laws → EvaluationsStayWellFormed
evaluations_stay_well_formed laws = record {
  expression = λ setting tags e store. expr_is laws setting tags e store;
  items = λ setting tags last es store. items_are laws setting tags last es store;
  body = λ setting tags c. body_is laws setting tags c;
}
