-- Linked expressions keep values well-formed.
use Rattle.std.specs.Prelude.{◌≡◌, ℕ, zero, suc, Bool, true, false, List, [], ◌∷◌, ◌++◌, length, Option, Some, None, IsSome, IsSomeAnd, slice_get}
use Rattle.std.proofs.Common.{sym, ap, ◌∙◌, subst, append_assoc, true≢false}
use Rattle.std.proofs.lemmas.List.{append-nil}
use Rattle.vrl_value.specs.Tree.{Tree, null, array as items, object as members, Members, no_members, put}
use Rattle.vrl_value.specs.View.{items_of_trees}
use Rattle.vrl_syntax.specs.Stores.{Store, with_value}
use Rattle.vrl_syntax.specs.declared.root.Op.TheVariants as op
use Rattle.vrl_syntax.specs.declared.root.Root.TheVariants.{Name}
use Rattle.vrl_builtin.specs.Rows.{ParameterRow, SettingTree}
use Rattle.vrl_table.specs.Table.{row_of}
use Rattle.vrl_store.specs.Operators.{is_true}
use Rattle.vrl_store.specs.Outcomes.{Ended, ends, value}
use Rattle.vrl_store.specs.Places.{target_value}
use Rattle.vrl_store.specs.StoreView.{name_at, root_of, Names}
use Rattle.vrl_store.specs.WellFormed.{AreWellFormed, IsWellFormed, IsWellFormedEnded, IsWellFormedStore}
use Rattle.vrl_resolve.specs.Calls.{items_in, iteration}
use Rattle.vrl_resolve.specs.Fits.{part_at, AllFit, AreGiven, ArmsFit, ElseFits, Fits, IsAllowedPartIf, IsCallee, IsGiven, PairsFit}
use Rattle.vrl_resolve.specs.Laws.{KeepsWellFormed, MeaningsStayWellFormed}
use Rattle.vrl_resolve.specs.Linked.{Linked, literal, array, object, read, query, block, conditional, negation, binary, assign, merge, both, call, iterate, return_of, abort_with, Parts, no_parts, parts, Pairs, no_pairs, pair, Arms, no_arms, arm, Else, no_else, else_block, no_message, message}
use Rattle.vrl_resolve.specs.LinkedMeaning.{all_mean, arms_mean, body_means, bound_slots, callee_in, else_means, form_in, hidden_slots, items_mean, means, no_body, pairs_mean, slots_in, target_of}
use Rattle.vrl_resolve.specs.declared.node.Callee.{Callee}
use Rattle.vrl_resolve.specs.declared.node.Callee.TheVariants as callee
use Rattle.vrl_resolve.proofs.GivenArguments.{AreGivenAs, AreKnownAs, IsAllowedAs, IsGivenAs, IsKnownAs}
use Rattle.vrl_resolve.proofs.WellFormedCalls.{acts_is, items_in_is, TakesKnown}
use Rattle.vrl_resolve.proofs.WellFormedEnds.{aborted_is, assigned_is, banged_is, block_is, body_left_is, both_is, combined_is, either_is, came_of, negated_is, on_value_is, on_value_known, part_of_is, read_in_is, same_value, target_is, with_value_is}
use Rattle.vrl_resolve.proofs.WellFormedValues.{Laws, array_is, no_members_is, null_is, one_more, put_is}

-- ---- what is known of the arguments of a call

abbrev pub known_of : Linked → Option Tree
known_of (literal v) = Some v
known_of other = None

abbrev pub known_parts : Parts → List (Option Tree)
known_parts no_parts = []
known_parts (parts n ns) = known_of n ∷ known_parts ns

allowed_is : (wanted : Bool) (accepts : Tree → Bool) (n : Linked) → IsAllowedPartIf wanted accepts (Some n) → IsAllowedAs wanted accepts (known_of n)
allowed_is false accepts n allowed = tt
allowed_is true accepts (literal v) allowed = allowed
allowed_is true accepts other allowed = absurd allowed

place_is : (wanted : Bool) (accepts : Tree → Bool) (ns : Parts) (place : ℕ) → IsSome (part_at place ns) → IsAllowedPartIf wanted accepts (part_at place ns) → IsSomeAnd (slice_get (known_parts ns) place) (IsAllowedAs wanted accepts)
place_is wanted accepts no_parts place there allowed = absurd (true≢false (sym there))
place_is wanted accepts (parts n ns) zero there allowed = allowed_is wanted accepts n allowed
place_is wanted accepts (parts n ns) (suc place) there allowed = place_is wanted accepts ns place there allowed

given_is : (p : ParameterRow) (accepts : Tree → Bool) (ns : Parts) (place : Option ℕ) → IsGiven p accepts ns place → IsGivenAs p accepts (known_parts ns) place
given_is p accepts ns None given = given
given_is p accepts ns (Some place) given = place_is p.literal accepts ns place given.0 given.1

pub given_are : (i : ℕ) (ps : List ParameterRow) (accepts : ℕ → Tree → Bool) (ns : Parts) (places : List (Option ℕ)) → AreGiven i ps accepts ns places → AreGivenAs i ps accepts (known_parts ns) places
given_are i [] accepts ns places given = tt
given_are i (p ∷ ps) accepts ns [] given = absurd given
given_are i (p ∷ ps) accepts ns (place ∷ places) given = (given_is p (accepts i) ns place given.0, given_are (suc i) ps accepts ns places given.1)

takes_is : (names : Names) (count : ℕ) (ns : Parts) (c : Callee) → IsCallee count ns c → TakesKnown (known_parts ns) (callee_in names c)
takes_is names count ns (callee.Function f places) is = given_are 0 (row_of f).parameters (row_of f).accepts ns places.items is
takes_is names count ns (callee.Deletion place) is = tt
takes_is names count ns (callee.Existence place) is = tt
takes_is names count ns callee.Nothing is = tt

known_is : (names : Names) (setting : SettingTree) (n : Linked) (store : Store) (v : Tree) → (means names setting n store).outcome ≡ value v → IsKnownAs (known_of n) v
known_is names setting (literal u) store v came = same_value u v came
known_is names setting other store v came = tt

-- the values of arguments behind those before them
known_are : (names : Names) (setting : SettingTree) (ns : Parts) (done : List Tree) (store : Store) (u : Tree) → (all_mean names setting ns done store).outcome ≡ value u →
    (vs : List Tree) × ((u ≡ items (items_of_trees (done ++ vs))) × AreKnownAs (known_parts ns) (items_of_trees vs))
known_are names setting no_parts done store u came = ([], (same_value _ u came ∙ ap (λ vs. items (items_of_trees vs)) (sym (append-nil done)), tt))
known_are names setting (parts n ns) done store u came =
    let one = came_of (means names setting n store) (λ v after. all_mean names setting ns (done ++ v ∷ []) after) u came in
    let others = known_are names setting ns (done ++ one.0 ∷ []) (means names setting n store).store u one.1.1 in
    (one.0 ∷ others.0, (others.1.0 ∙ ap (λ vs. items (items_of_trees vs)) (append_assoc done (one.0 ∷ []) others.0), (known_is names setting n store one.0 one.1.0, others.1.1)))

pub arguments_known : (names : Names) (setting : SettingTree) (ns : Parts) (store : Store) (u : Tree) → (all_mean names setting ns [] store).outcome ≡ value u → AreKnownAs (known_parts ns) (items_in u)
arguments_known names setting ns store u came = let all = known_are names setting ns [] store u came in subst (AreKnownAs (known_parts ns)) (ap items_in (sym all.1.0)) all.1.1

-- ---- closures

slots_bound : (count : ℕ) (names : Names) (slots : List (Option ℕ)) (vs : List Tree) (store : Store) → AreWellFormed count vs → IsWellFormedStore count store → IsWellFormedStore count (bound_slots names slots vs store)
slots_bound count names [] vs store are is = is
slots_bound count names (slot ∷ slots) [] store are is = is
slots_bound count names (None ∷ slots) (v ∷ vs) store are is = slots_bound count names slots vs store are.1 is
slots_bound count names (Some number ∷ slots) (v ∷ vs) store are is =
    slots_bound count names slots vs (with_value (Name (name_at names number)) v store) are.1 (with_value_is count (Name (name_at names number)) v store are.0 is)

-- ---- what an expression means

module _ (laws : Laws) (names : Names) (setting : SettingTree) (variables : ℕ) where
  abbrev count : ℕ
  count = length setting.sources

  mutual
    node_is : (n : Linked) (store : Store) → Fits variables count n → IsWellFormedStore count store → IsWellFormedEnded count (means names setting n store)
    node_is (literal v) store fits is = (fits, is)
    node_is (array ns) store fits is = parts_are ns [] store fits tt is
    node_is (object ps) store fits is = pairs_are ps no_members store fits (no_members_is count) is
    node_is (read place) store fits is = (read_in_is laws count (root_of names place.base) place.path store is, is)
    node_is (query n path) store fits is = on_value_is count (means names setting n store) _ (node_is n store fits is) (λ v after one stored. (part_of_is laws count path v one, stored))
    node_is (block ns) store fits is = block_is count store _ (items_are null ns store (null_is count) fits is)
    node_is (conditional as_ otherwise) store fits is = arms_are as_ (λ after. else_means names setting otherwise after) store fits.0 (λ after stored. else_is otherwise after fits.1 stored) is
    node_is (negation n) store fits is = on_value_is count (means names setting n store) _ (node_is n store fits is) (λ v after one stored. (negated_is count v, stored))
    node_is (binary o l r) store fits is = combined_is laws count o (means names setting l store) (λ after. means names setting r after) (node_is l store fits.0 is) (λ after stored. node_is r after fits.1 stored)
    node_is (assign t n) store fits is = assigned_is laws count (target_of names t) _ (node_is n store fits.1 is)
    node_is (merge t n) store fits is =
        assigned_is laws count (target_of names t) _
        (combined_is laws count op.Merge (ends (value (target_value (target_of names t) store)) store) (λ after. means names setting n after)
        (target_is laws count (target_of names t) store is, is) (λ after stored. node_is n after fits.1 stored))
    node_is (both t u tag n) store fits is =
        let given = node_is n store fits.1.1 is in
        both_is laws count (target_of names t) (target_of names u) tag (means names setting n store).outcome (means names setting n store).store given.0 given.1
    node_is (call c bang ns) store fits is =
        let given = parts_are ns [] store fits.1 tt is in
        banged_is count bang _ (on_value_known count (all_mean names setting ns [] store) _ given
        (λ vs came one. acts_is laws setting (known_parts ns) (callee_in names c) no_body (items_in vs) (all_mean names setting ns [] store).store
        (takes_is names variables ns c fits.0) (arguments_known names setting ns store vs came) (λ us after are formed. (null_is count, formed)) (items_in_is count vs one) given.1))
    node_is (iterate f bang ns body) store fits is =
        let given = parts_are ns [] store fits.1.0 tt is in
        banged_is count bang _ (on_value_known count (all_mean names setting ns [] store) _ given
        (λ vs came one. acts_is laws setting (known_parts ns) (iteration (form_in f)) (body_means names setting (slots_in f) body) (items_in vs) (all_mean names setting ns [] store).store
        tt (arguments_known names setting ns store vs came)
        (λ us now are formed. body_left_is count (hidden_slots names (slots_in f)) now _ formed
        (items_are null body (bound_slots names (slots_in f) us now) (null_is count) fits.1.1 (slots_bound count names (slots_in f) us now are formed)))
        (items_in_is count vs one) given.1))
    node_is (return_of n) store fits is = on_value_is count (means names setting n store) _ (node_is n store fits is) (λ v after one stored. (one, stored))
    node_is (abort_with no_message) store fits is = (tt, is)
    node_is (abort_with (message n)) store fits is = on_value_is count (means names setting n store) _ (node_is n store fits is) (λ v after one stored. (aborted_is count v, stored))

    parts_are : (ns : Parts) (vs : List Tree) (store : Store) → AllFit variables count ns → AreWellFormed count vs → IsWellFormedStore count store → IsWellFormedEnded count (all_mean names setting ns vs store)
    parts_are no_parts vs store fits are is = (array_is count vs are, is)
    parts_are (parts n ns) vs store fits are is = on_value_is count (means names setting n store) _ (node_is n store fits.0 is) (λ v after one stored. parts_are ns (vs ++ v ∷ []) after fits.1 (one_more count vs v are one) stored)

    pairs_are : (ps : Pairs) (ms : Members) (store : Store) → PairsFit variables count ps → IsWellFormed count (members ms) → IsWellFormedStore count store → IsWellFormedEnded count (pairs_mean names setting ps ms store)
    pairs_are no_pairs ms store fits are is = (are, is)
    pairs_are (pair key n ps) ms store fits are is = on_value_is count (means names setting n store) _ (node_is n store fits.0 is) (λ v after one stored. pairs_are ps (put key v ms) after fits.1 (put_is laws count key v ms one are) stored)

    items_are : (last : Tree) (ns : Parts) (store : Store) → IsWellFormed count last → AllFit variables count ns → IsWellFormedStore count store → IsWellFormedEnded count (items_mean names setting last ns store)
    items_are last no_parts store one fits is = (one, is)
    items_are last (parts n ns) store one fits is = on_value_is count (means names setting n store) _ (node_is n store fits.0 is) (λ v after other stored. items_are v ns after other fits.1 stored)

    arms_are : (as_ : Arms) (otherwise : Store → Ended) (store : Store) → ArmsFit variables count as_ →
        ((after : Store) → IsWellFormedStore count after → IsWellFormedEnded count (otherwise after)) → IsWellFormedStore count store → IsWellFormedEnded count (arms_mean names setting as_ otherwise store)
    arms_are no_arms otherwise store fits others is = others store is
    arms_are (arm predicate ns as_) otherwise store fits others is =
        on_value_is count (means names setting predicate store) _ (node_is predicate store fits.0 is)
        (λ v after one stored. either_is count (is_true v) _ _ (block_is count after _ (items_are null ns after (null_is count) fits.1.0 stored)) (arms_are as_ otherwise after fits.1.1 others stored))

    else_is : (es : Else) (store : Store) → ElseFits variables count es → IsWellFormedStore count store → IsWellFormedEnded count (else_means names setting es store)
    else_is no_else store fits is = (null_is count, is)
    else_is (else_block ns) store fits is = block_is count store _ (items_are null ns store (null_is count) fits is)

  body_is : (slots : List (Option ℕ)) (ns : Parts) → AllFit variables count ns → KeepsWellFormed count (body_means names setting slots ns)
  body_is slots ns fits vs store are is =
      body_left_is count (hidden_slots names slots) store _ is (items_are null ns (bound_slots names slots vs store) (null_is count) fits (slots_bound count names slots vs store are is))

pub meanings_stay_well_formed : Laws → MeaningsStayWellFormed
meanings_stay_well_formed laws = record {
  node = λ names setting count n store. node_is laws names setting count n store;
  parts = λ names setting count ns vs store. parts_are laws names setting count ns vs store;
  pairs = λ names setting count ps ms store. pairs_are laws names setting count ps ms store;
  items = λ names setting count last ns store. items_are laws names setting count last ns store;
  arms = λ names setting count as_ otherwise store. arms_are laws names setting count as_ otherwise store;
  body = λ names setting count slots ns. body_is laws names setting count slots ns;
  otherwise = λ names setting count es store. else_is laws names setting count es store;
}
