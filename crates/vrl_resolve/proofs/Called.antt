-- A call whose first arguments were run, and whose others are looked at: they are arguments that its function takes.
use Rattle.std.proofs.Common.{◌≡◌, ℕ, zero, suc, true, List, [], ◌∷◌, length, map, drop, Option, Some, None, unwrap_or, refl, sym, ap, ◌∙◌, subst}
use Rattle.std.proofs.lemmas.Bool.{and_from, and_parts}
use Rattle.vrl_value.specs.Look.{item_at}
use Rattle.vrl_value.specs.Regexes.{items_regexes_below, regexes_below}
use Rattle.vrl_value.specs.Tree.{Tree, null, array as items, Items, no_items, item}
use Rattle.vrl_value.specs.View.{items_of_trees, tree_of}
use Rattle.vrl_value.specs.declared.value.Value.{Value}
use Rattle.vrl_syntax.specs.Stores.{Store}
use Rattle.vrl_builtin.specs.Conditions.{arguments_below, below_if, AreArguments}
use Rattle.vrl_builtin.specs.Rows.{Row, SettingTree}
use Rattle.vrl_store.specs.StoreView.{Names}
use Rattle.vrl_store.specs.WellFormed.{AreWellFormed, IsWellFormed, IsWellFormedOutcome, IsWellFormedStore}
use Rattle.vrl_resolve.specs.Calls.{argument_in, first_unfit}
use Rattle.vrl_resolve.specs.Fits.{AllFit, AreGiven, Fits}
use Rattle.vrl_resolve.specs.Laws.{MeaningsStayWellFormed}
use Rattle.vrl_resolve.specs.Linked.{Linked, literal, read, linked_of, parts_of_list, parts_view}
use Rattle.vrl_resolve.specs.Looks.{argument_values, AreOf, AreReadable, IsOf, IsReadable}
use Rattle.vrl_resolve.specs.Plain.{plain_value, plain_values, AllPlain}
use Rattle.vrl_resolve.specs.declared.node.Node.{Node}
use Rattle.vrl_resolve.proofs.GivenArguments.{arguments_are, AreKnownAs, IsKnownAs}
use Rattle.vrl_resolve.proofs.RunArguments.{plain_mean}
use Rattle.vrl_resolve.proofs.WellFormedLinked.{given_are, known_of, known_parts}

-- ---- what is looked at

readable_is : (count sources : ℕ) (n : Linked) → Fits count sources n → IsReadable count n
readable_is count sources (read place) fits = fits
readable_is count sources n fits = tt

pub readable_are : (count sources : ℕ) (ns : List Linked) → AllFit count sources (parts_of_list ns) → AreReadable count ns
readable_are count sources [] fits = tt
readable_are count sources (n ∷ ns) fits = (readable_is count sources n fits.0, readable_are count sources ns fits.1)

-- ---- the values of all arguments

known_plain : (names : Names) (n : Linked) (store : Store) → IsKnownAs (known_of n) (unwrap_or (plain_value names n store) null)
known_plain names (literal v) store = refl
known_plain names n store = tt

known_of_it : (n : Linked) (v : Tree) → IsOf n v → IsKnownAs (known_of n) v
known_of_it (literal u) v is = is
known_of_it n v is = tt

known_plains : (names : Names) (store : Store) (ns : List Linked) → AreKnownAs (known_parts (parts_of_list ns)) (items_of_trees (plain_values names ns store))
known_plains names store [] = tt
known_plains names store (n ∷ ns) = (known_plain names n store, known_plains names store ns)

known_all : (names : Names) (store : Store) (run : List Value) (args : List Node) → AreOf (map linked_of args) (map tree_of run)
    → AreKnownAs (known_parts (parts_view args)) (argument_values names store run args)
known_all names store [] args are = known_plains names store (map linked_of args)
known_all names store (v ∷ run) [] are = absurd are
known_all names store (v ∷ run) (a ∷ args) are = (known_of_it (linked_of a) (tree_of v) are.0, known_all names store run args are.1)

-- those that the function takes, where their tags fit
pub arguments_fit : (r : Row) (names : Names) (store : Store) (run : List Value) (args : List Node) (places : List (Option ℕ)) (vs : List (Option Tree))
    → AreOf (map linked_of args) (map tree_of run) → AreGiven 0 r.parameters r.accepts (parts_view args) places → vs ≡ map (argument_in (argument_values names store run args)) places
    → first_unfit 0 r.parameters vs ≡ None → AreArguments r vs
arguments_fit r names store run args places vs are given one fit =
    let all = argument_values names store run args in
    let takes = given_are 0 r.parameters r.accepts (parts_view args) places given in
    subst (AreArguments r) (sym one) (arguments_are r (known_parts (parts_view args)) all places (known_all names store run args are) takes (ap (first_unfit 0 r.parameters) (sym one) ∙ fit))

-- ---- their regexes

item_below : (count place : ℕ) (vs : Items) → items_regexes_below count vs ≡ true → below_if count (item_at place vs) ≡ true
item_below count place no_items is = refl
item_below count zero (item v vs) is = (and_parts (regexes_below count v) (items_regexes_below count vs) is).0
item_below count (suc place) (item v vs) is = item_below count place vs (and_parts (regexes_below count v) (items_regexes_below count vs) is).1

argument_below : (count : ℕ) (vs : Items) (place : Option ℕ) → items_regexes_below count vs ≡ true → below_if count (argument_in vs place) ≡ true
argument_below count vs None is = refl
argument_below count vs (Some place) is = item_below count place vs is

all_below : (count : ℕ) (vs : Items) (places : List (Option ℕ)) → items_regexes_below count vs ≡ true → arguments_below count (map (argument_in vs) places) ≡ true
all_below count vs [] is = refl
all_below count vs (place ∷ places) is = and_from (below_if count (argument_in vs place)) _ (argument_below count vs place is) (all_below count vs places is)

fits_behind : (count sources n : ℕ) (args : List Node) → AllFit count sources (parts_view args) → AllFit count sources (parts_view (drop n args))
fits_behind count sources zero args fits = fits
fits_behind count sources (suc n) [] fits = tt
fits_behind count sources (suc n) (a ∷ args) fits = fits_behind count sources n args fits.1

pub regexes_below_all : (law : MeaningsStayWellFormed) (names : Names) (setting : SettingTree) (store : Store) (run : List Value) (args : List Node) (places : List (Option ℕ)) (vs : List (Option Tree))
    → AllFit (length names) (length setting.sources) (parts_view args) → AllPlain (map linked_of (drop (length run) args)) → AreWellFormed (length setting.sources) (map tree_of run)
    → IsWellFormedStore (length setting.sources) store → vs ≡ map (argument_in (argument_values names store run args)) places → arguments_below (length setting.sources) vs ≡ true
regexes_below_all law names setting store run args places vs fits plain formed is one =
    let count = length setting.sources in
    let others = drop (length run) args in
    let means_all = law.parts names setting (length names) (parts_view others) (map tree_of run) store (fits_behind (length names) count (length run) args fits) formed is in
    let ended = plain_mean names setting (map linked_of others) (map tree_of run) store plain in
    let all : IsWellFormed count (items (argument_values names store run args)) = subst (λ e. IsWellFormedOutcome count e.outcome) ended means_all.0 in
    ap (arguments_below count) one ∙ all_below count (argument_values names store run args) places all.below
