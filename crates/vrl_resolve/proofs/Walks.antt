-- Steps of a walk: what is behind a part that was run.
use Rattle.std.proofs.Common.{◌≡◌, Bool, true, false, ℕ, ◌+◌, ◌<◌, ◌≤◌, List, [], ◌∷◌, ◌++◌, drop, get_or, length, map, take, arith, refl, sym, ap, ◌∙◌, subst, append_assoc, append-nil}
use Rattle.std.proofs.lemmas.List.{at_drop_all, at_drop_more, map-append}
use Rattle.std.specs.declared.result.Result.{Result}
use Rattle.std.specs.declared.result.Result.TheVariants.{Ok, Err}
use Rattle.vrl_value.specs.Tree.{Tree, Members, array as items, null, object, put}
use Rattle.vrl_value.specs.View.{items_of_trees, tree_of}
use Rattle.vrl_value.specs.declared.value.Value.{Value}
use Rattle.vrl_syntax.specs.Stores.{Store, store_kept}
use Rattle.vrl_syntax.specs.declared.root.Op.{Op}
use Rattle.vrl_syntax.specs.declared.root.Op.TheVariants as ops
use Rattle.vrl_syntax.specs.declared.root.Target.{Target}
use Rattle.vrl_store.specs.Operators.{applied}
use Rattle.vrl_store.specs.Outcomes.{Ended, Outcome, aborted, banged, deep, ends, error, on_error, on_value, returned, value, value_then}
use Rattle.vrl_store.specs.Places.{writes_to}
use Rattle.vrl_store.specs.StoreView.{count_of, left_with, AreNames, IsKnown, Names}
use Rattle.vrl_store.specs.Results.{Ends, Stops}
use Rattle.vrl_store.specs.WellFormed.{IsWellFormedEnded}
use Rattle.vrl_store.specs.declared.target_path.Base.{Base}
use Rattle.vrl_store.specs.declared.target_path.Base.TheVariants as base
use Rattle.vrl_store.specs.declared.stop.Stop.{Stop}
use Rattle.vrl_store.specs.declared.stop.Stop.TheVariants as stops
use Rattle.vrl_store.specs.declared.store.Store.{Store as CodeStore}
use Rattle.vrl_store.proofs.Left.{block_ended}
use Rattle.vrl_resolve.specs.Laws.{MeaningsStayWellFormed}
use Rattle.vrl_resolve.specs.Linked.{Linked, array, linked_of, no_pairs, pair, pairs_view, parts_of_list, parts_view}
use Rattle.vrl_resolve.specs.LinkedMeaning.{all_mean, items_mean, pairs_mean}
use Rattle.vrl_resolve.specs.Meaning.{assigned, both_sides, combined, written_both}
use Rattle.vrl_resolve.specs.Walking.{AllFitIn, EndsAsked, FitsIn, IsReadyStore, PairsFitIn, Stays, meant, names_in, setting_in, store_at}
use Rattle.vrl_resolve.specs.declared.node.Node.{Node}
use Rattle.vrl_resolve.specs.declared.walk.Context.{Context}

-- ---- what stays of the store

pub stays_here : (s : CodeStore) → Stays s s
stays_here s = record { front = ([], sym (append-nil s.present.items)); as_many = refl }

pub stays_then : (s t u : CodeStore) → Stays s t → Stays t u → Stays s u
stays_then s t u first second = record {
  front = (first.front.0 ++ second.front.0, second.front.1 ∙ ap (λ ps. ps ++ second.front.0) first.front.1 ∙ append_assoc s.present.items first.front.0 second.front.0);
  as_many = second.as_many ∙ first.as_many;
}

pub names_after : (names : Names) (s t : CodeStore) → AreNames names s → Stays s t → AreNames names t
names_after names s t are stays = record { as_many = stays.as_many ∙ are.as_many; distinct = are.distinct; first = are.first }

-- a root that is known is one that the store has
pub known_base : (x : Context) (s : CodeStore) (b : Base) → AreNames (names_in x) s → IsKnown (length (names_in x)) b → IsKnown (count_of s) b
known_base x s base.Event are known = tt
known_base x s (base.Variable number) are known = let as_many = are.as_many in omega (arith, known)

-- ---- the store is ready for what is run next

pub ready_from : (x : Context) (s t : CodeStore) (ended : Ended) (outcome : Outcome) → IsWellFormedEnded (length (setting_in x).sources) ended → ended ≡ ends outcome (store_at x t) → IsReadyStore x s → Stays s t → IsReadyStore x t
ready_from x s t ended outcome formed is ready stays = record {
  names = names_after (names_in x) s t ready.names stays;
  formed = (subst (IsWellFormedEnded (length (setting_in x).sources)) is formed).1;
}

pub ready_after : (x : Context) (s t : CodeStore) (n : Linked) (outcome : Outcome) → MeaningsStayWellFormed → FitsIn x n → meant x n s ≡ ends outcome (store_at x t) → IsReadyStore x s → Stays s t → IsReadyStore x t
ready_after x s t n outcome law fits is ready stays =
    ready_from x s t (meant x n s) outcome (law.node (names_in x) (setting_in x) (length (names_in x)) n (store_at x s) fits ready.formed) is ready stays

-- ---- how a form ends whose part ended so

pub after_value : (m : Ended) (next : Tree → Store → Ended) (v : Tree) (store t : Store) (r : Result Value Stop) → m ≡ ends (value v) store → Ends (next v store) t r → Ends (on_value m next) t r
after_value m next v store t r is rest = subst (λ e. Ends (on_value e next) t r) (sym is) rest

pub after_stop : (m : Ended) (next : Tree → Store → Ended) (store : Store) (stop : Stop) → Stops m store stop → Stops (on_value m next) store stop
after_stop m next store (stops.Error text) is = ap (λ e. on_value e next) is
after_stop m next store (stops.Aborted message) is = ap (λ e. on_value e next) is
after_stop m next store (stops.Returned v) is = ap (λ e. on_value e next) is
after_stop m next store (stops.Banged text) is = ap (λ e. on_value e next) is
after_stop m next store stops.Deep is = ap (λ e. on_value e next) is
after_stop m next store stops.Memory is = tt

pub after_error : (m : Ended) (next : List ℕ → Store → Ended) (text : List ℕ) (store t : Store) (r : Result Value Stop) → m ≡ ends (error text) store → Ends (next text store) t r → Ends (on_error m next) t r
after_error m next text store t r is rest = subst (λ e. Ends (on_error e next) t r) (sym is) rest

-- what becomes of the store in which a part ended
stops_then : (next : Store → Store) (m : Ended) (store : Store) (stop : Stop) → Stops m store stop → Stops (ends m.outcome (next m.store)) (next store) stop
stops_then next m store (stops.Error text) is = ap (λ e. ends e.outcome (next e.store)) is
stops_then next m store (stops.Aborted message) is = ap (λ e. ends e.outcome (next e.store)) is
stops_then next m store (stops.Returned v) is = ap (λ e. ends e.outcome (next e.store)) is
stops_then next m store (stops.Banged text) is = ap (λ e. ends e.outcome (next e.store)) is
stops_then next m store stops.Deep is = ap (λ e. ends e.outcome (next e.store)) is
stops_then next m store stops.Memory is = tt

pub ends_then : (asked : Bool) (next : Store → Store) (m : Ended) (store : Store) (r : Result Value Stop) → EndsAsked asked m store r
    → EndsAsked asked (ends m.outcome (next m.store)) (next store) r
ends_then asked next m store (Err stop) is = stops_then next m store stop is
ends_then true next m store (Ok v) is = ap (λ e. ends e.outcome (next e.store)) is
ends_then false next m store (Ok v) is = (is.0, ap (λ e. ends e.outcome (next e.store)) is.1)

-- ---- a value that is asked for, or isn't

-- where it is told anyhow
pub told_anyhow : (asked : Bool) (m : Ended) (store : Store) (r : Result Value Stop) → Ends m store r → EndsAsked asked m store r
told_anyhow asked m store (Err stop) is = is
told_anyhow true m store (Ok v) is = is
told_anyhow false m store (Ok v) is = (tree_of v, is)

-- where it is asked for
pub told_asked : (m : Ended) (store : Store) (r : Result Value Stop) → EndsAsked true m store r → Ends m store r
told_asked m store (Ok v) is = is
told_asked m store (Err stop) is = is

-- where it is copied if it is asked for
pub copy_told : (asked : Bool) (m : Ended) (v : Tree) (copy : Value) (store : Store) → m ≡ ends (value v) store → (asked ≡ true → tree_of copy ≡ v)
    → EndsAsked asked m store (Ok copy)
copy_told true m v copy store is copied = is ∙ ap (λ w. ends (value w) store) (sym (copied refl))
copy_told false m v copy store is copied = (v, is)

-- ---- loops

-- what is left to be run, in the store behind what was run, is all that there was to be run
pub record IsPartway {A : Type 0} (x : Context) (before now : CodeStore) (left whole : A) : Type 0 where
  pub same : left ≡ whole
  pub ready : IsReadyStore x now
  pub stays : Stays before now

pub partway_next : {A : Type 0} (x : Context) (before now after : CodeStore) (left next whole : A) → IsPartway x before now left whole → left ≡ next → IsReadyStore x after → Stays now after → IsPartway x before after next whole
partway_next x before now after left next whole so_far is ready stays = record { same = sym is ∙ so_far.same; ready = ready; stays = stays_then before now after so_far.stays stays }

pub next_part : (all : List Node) (i : ℕ) (n : Node) → i < length all → n ≡ get_or all i n → map linked_of (drop i all) ≡ linked_of n ∷ map linked_of (drop (i + 1) all)
next_part all i n below is = at_drop_more (map linked_of) all i n below ∙ ap (λ m. linked_of m ∷ map linked_of (drop (i + 1) all)) (sym is)

pub no_part_left : (all : List Node) (i : ℕ) → length all ≤ i → map linked_of (drop i all) ≡ []
no_part_left all i end = at_drop_all (map linked_of) all i end

-- items before one more, whatever value stands before them
abbrev pub items_before : Context → List Linked → Store → Linked → Tree → Ended
items_before x ns store last v = items_mean (names_in x) (setting_in x) v (parts_of_list (ns ++ last ∷ [])) store

-- that value plays no part
before_unused : (x : Context) (ns : List Linked) (store : Store) (last : Linked) (v w : Tree) → items_before x ns store last v ≡ items_before x ns store last w
before_unused x [] store last v w = refl
before_unused x (n ∷ ns) store last v w = refl

pub before_start : (x : Context) (before : CodeStore) (ns : List Linked) → IsReadyStore x before
    → IsPartway {A = Linked → Tree → Ended} x before before (items_before x ns (store_at x before)) (λ last v. items_before x ns (store_at x before) last null)
before_start x before ns ready =
    record { same = λ i last v. before_unused x ns (store_at x before) last v null i; ready = ready; stays = stays_here before }

pub before_next : (law : MeaningsStayWellFormed) (x : Context) (before now after : CodeStore) (all : List Node) (i : ℕ) (n : Node) (v : Tree)
    (whole : Linked → Tree → Ended) → i < length all → n ≡ get_or all i n → AllFitIn x (parts_view (drop i all))
    → IsPartway {A = Linked → Tree → Ended} x before now (items_before x (map linked_of (drop i all)) (store_at x now)) whole
    → meant x (linked_of n) now ≡ ends (value v) (store_at x after) → Stays now after
    → IsPartway {A = Linked → Tree → Ended} x before after (items_before x (map linked_of (drop (i + 1) all)) (store_at x after)) whole
    × AllFitIn x (parts_view (drop (i + 1) all))
before_next law x before now after all i n v whole below here fits so_far is stays =
    let next = next_part all i n below here in
    let rest = map linked_of (drop (i + 1) all) in
    let both : FitsIn x (linked_of n) × AllFitIn x (parts_of_list rest) = subst (λ ns. AllFitIn x (parts_of_list ns)) next fits in
    let step : (last : Linked) (w : Tree) → items_before x (map linked_of (drop i all)) (store_at x now) last w ≡ items_before x rest (store_at x after) last w =
    λ last w. ap (λ ns. items_before x ns (store_at x now) last w) next
    ∙ (ap (λ e. on_value e (λ u end. items_before x rest end last u)) is ∙ before_unused x rest (store_at x after) last v w) in (
      partway_next {A = Linked → Tree → Ended} x before now after _ _ whole so_far (λ j last w. step last w j)
          (ready_after x now after (linked_of n) (value v) law both.0 is so_far.ready stays) stays,
      both.1,
    )

pub before_stop : (x : Context) (before now : CodeStore) (all : List Node) (i : ℕ) (n : Node) (whole : Linked → Tree → Ended) (store : Store) (stop : Stop)
    → i < length all → n ≡ get_or all i n
    → IsPartway {A = Linked → Tree → Ended} x before now (items_before x (map linked_of (drop i all)) (store_at x now)) whole
    → Stops (meant x (linked_of n) now) store stop → (last : Linked) (v : Tree) → Stops (whole last v) store stop
before_stop x before now all i n whole store stop below here so_far is last v =
    let rest = map linked_of (drop (i + 1) all) in
    subst (λ f. Stops (f last v) store stop) so_far.same
    (subst (λ ns. Stops (items_before x ns (store_at x now) last v) store stop) (sym (next_part all i n below here))
    (after_stop (meant x (linked_of n) now) (λ u end. items_before x rest end last u) store stop is))

-- the step that gives the value itself
value_itself : (o : Outcome) (store : Store) → value_then o store (λ v after. ends (value v) after) ≡ ends o store
value_itself (value v) store = refl
value_itself (error text) store = refl
value_itself (aborted m) store = refl
value_itself (returned v) store = refl
value_itself (banged text) store = refl
value_itself deep store = refl

-- the last one is left
pub before_end : (x : Context) (before now : CodeStore) (all : List Node) (i : ℕ) (whole : Linked → Tree → Ended) → length all ≤ i
    → IsPartway {A = Linked → Tree → Ended} x before now (items_before x (map linked_of (drop i all)) (store_at x now)) whole
    → (last : Linked) (v : Tree) → whole last v ≡ meant x last now
before_end x before now all i whole end so_far last v =
    let m = meant x last now in
    sym (ap (λ f. f last v) so_far.same) ∙ ap (λ ns. items_before x ns (store_at x now) last v) (no_part_left all i end) ∙ value_itself m.outcome m.store

-- the last one, and those before it
pub last_part : (all others : List Node) (last : Node) → all ≡ others ++ last ∷ [] → parts_view all ≡ parts_of_list (map linked_of others ++ linked_of last ∷ [])
last_part all others last is = ap parts_of_list (ap (map linked_of) is ∙ map-append linked_of others (last ∷ []))

pub last_fits : (x : Context) (ns : List Linked) (last : Linked) → AllFitIn x (parts_of_list (ns ++ last ∷ [])) → AllFitIn x (parts_of_list ns) × FitsIn x last
last_fits x [] last fits = (tt, fits.0)
last_fits x (n ∷ ns) last fits = let others = last_fits x ns last fits.1 in ((fits.0, others.0), others.1)

pub parts_next : (law : MeaningsStayWellFormed) (x : Context) (before now after : CodeStore) (all : List Node) (i : ℕ) (n : Node) (vs ws : List Value) (v : Value) (whole : List Linked → Ended) → i < length all → n ≡ get_or all i n
    → AllFitIn x (parts_view (drop i all))
    → IsPartway {A = List Linked → Ended} x before now (λ more. all_mean (names_in x) (setting_in x) (parts_of_list (map linked_of (drop i all) ++ more)) (map tree_of vs) (store_at x now)) whole
    → meant x (linked_of n) now ≡ ends (value (tree_of v)) (store_at x after) → Stays now after → ws ≡ vs ++ v ∷ []
    → IsPartway {A = List Linked → Ended} x before after (λ more. all_mean (names_in x) (setting_in x) (parts_of_list (map linked_of (drop (i + 1) all) ++ more)) (map tree_of ws) (store_at x after)) whole
    × AllFitIn x (parts_view (drop (i + 1) all))
parts_next law x before now after all i n vs ws v whole below here fits so_far is stays pushed =
    let next = next_part all i n below here in
    let rest = map linked_of (drop (i + 1) all) in
    let both : FitsIn x (linked_of n) × AllFitIn x (parts_of_list rest) = subst (λ ns. AllFitIn x (parts_of_list ns)) next fits in
    let trees : map tree_of ws ≡ map tree_of vs ++ tree_of v ∷ [] = ap (map tree_of) pushed ∙ map-append tree_of vs (v ∷ []) in
    let step : (more : List Linked) → all_mean (names_in x) (setting_in x) (parts_of_list (map linked_of (drop i all) ++ more)) (map tree_of vs) (store_at x now) ≡ all_mean (names_in x) (setting_in x) (parts_of_list (rest ++ more)) (map tree_of ws) (store_at x after) =
    λ more. ap (λ ns. all_mean (names_in x) (setting_in x) (parts_of_list (ns ++ more)) (map tree_of vs) (store_at x now)) next
    ∙ (ap (λ e. on_value e (λ w end. all_mean (names_in x) (setting_in x) (parts_of_list (rest ++ more)) (map tree_of vs ++ w ∷ []) end)) is
    ∙ ap (λ ts. all_mean (names_in x) (setting_in x) (parts_of_list (rest ++ more)) ts (store_at x after)) (sym trees)) in
    (partway_next {A = List Linked → Ended} x before now after _ _ whole so_far (λ i more. step more i) (ready_after x now after (linked_of n) (value (tree_of v)) law both.0 is so_far.ready stays) stays, both.1)

pub next_pair : (all : List (List ℕ × Node)) (i : ℕ) (p : List ℕ × Node) → i < length all → p ≡ get_or all i p → pairs_view (drop i all) ≡ pair p.0 (linked_of p.1) (pairs_view (drop (i + 1) all))
next_pair all i p below is = at_drop_more pairs_view all i p below ∙ ap (λ q. pair q.0 (linked_of q.1) (pairs_view (drop (i + 1) all))) (sym is)

pub pairs_next : (law : MeaningsStayWellFormed) (x : Context) (before now after : CodeStore) (all : List (List ℕ × Node)) (i : ℕ) (p : List ℕ × Node) (ms ns : Members) (v : Tree) (whole : Ended) → i < length all → p ≡ get_or all i p
    → PairsFitIn x (pairs_view (drop i all)) → IsPartway x before now (pairs_mean (names_in x) (setting_in x) (pairs_view (drop i all)) ms (store_at x now)) whole
    → meant x (linked_of p.1) now ≡ ends (value v) (store_at x after) → Stays now after → ns ≡ put p.0 v ms
    → IsPartway x before after (pairs_mean (names_in x) (setting_in x) (pairs_view (drop (i + 1) all)) ns (store_at x after)) whole × PairsFitIn x (pairs_view (drop (i + 1) all))
pairs_next law x before now after all i p ms ns v whole below here fits so_far is stays inserted =
    let next = next_pair all i p below here in
    let rest = pairs_view (drop (i + 1) all) in
    let both : FitsIn x (linked_of p.1) × PairsFitIn x rest = subst (PairsFitIn x) next fits in
    let step : pairs_mean (names_in x) (setting_in x) (pairs_view (drop i all)) ms (store_at x now) ≡ pairs_mean (names_in x) (setting_in x) rest ns (store_at x after) =
    ap (λ ps. pairs_mean (names_in x) (setting_in x) ps ms (store_at x now)) next
    ∙ (ap (λ e. on_value e (λ w end. pairs_mean (names_in x) (setting_in x) rest (put p.0 w ms) end)) is ∙ ap (λ ms. pairs_mean (names_in x) (setting_in x) rest ms (store_at x after)) (sym inserted)) in
    (partway_next x before now after _ _ whole so_far step (ready_after x now after (linked_of p.1) (value v) law both.0 is so_far.ready stays) stays, both.1)

pub no_pair_left : (all : List (List ℕ × Node)) (i : ℕ) → length all ≤ i → pairs_view (drop i all) ≡ no_pairs
no_pair_left all i end = at_drop_all pairs_view all i end

pub parts_stop : (x : Context) (before now : CodeStore) (all : List Node) (i : ℕ) (n : Node) (vs : List Tree) (whole : List Linked → Ended) (store : Store) (stop : Stop) → i < length all → n ≡ get_or all i n
    → IsPartway {A = List Linked → Ended} x before now (λ more. all_mean (names_in x) (setting_in x) (parts_of_list (map linked_of (drop i all) ++ more)) vs (store_at x now)) whole
    → Stops (meant x (linked_of n) now) store stop → (more : List Linked) → Stops (whole more) store stop
parts_stop x before now all i n vs whole store stop below here so_far is more =
    let next = next_part all i n below here in
    let rest = map linked_of (drop (i + 1) all) in
    subst (λ f. Stops (f more) store stop) so_far.same
    (subst (λ ns. Stops (all_mean (names_in x) (setting_in x) (parts_of_list (ns ++ more)) vs (store_at x now)) store stop) (sym next)
    (after_stop (meant x (linked_of n) now) (λ w end. all_mean (names_in x) (setting_in x) (parts_of_list (rest ++ more)) (vs ++ w ∷ []) end) store stop is))

pub parts_end : (x : Context) (before now : CodeStore) (all : List Node) (i : ℕ) (vs : List Tree) (whole : List Linked → Ended) → length all ≤ i
    → IsPartway {A = List Linked → Ended} x before now (λ more. all_mean (names_in x) (setting_in x) (parts_of_list (map linked_of (drop i all) ++ more)) vs (store_at x now)) whole
    → (more : List Linked) → whole more ≡ all_mean (names_in x) (setting_in x) (parts_of_list more) vs (store_at x now)
parts_end x before now all i vs whole end so_far more =
    sym (ap (λ f. f more) so_far.same) ∙ ap (λ ns. all_mean (names_in x) (setting_in x) (parts_of_list (ns ++ more)) vs (store_at x now)) (no_part_left all i end)

pub pairs_end : (x : Context) (before now : CodeStore) (all : List (List ℕ × Node)) (i : ℕ) (ms : Members) (v : Tree) (whole : Ended) → length all ≤ i → v ≡ object ms
    → IsPartway x before now (pairs_mean (names_in x) (setting_in x) (pairs_view (drop i all)) ms (store_at x now)) whole → whole ≡ ends (value v) (store_at x now)
pairs_end x before now all i ms v whole end is so_far =
    sym so_far.same ∙ ap (λ ps. pairs_mean (names_in x) (setting_in x) ps ms (store_at x now)) (no_pair_left all i end) ∙ ap (λ w. ends (value w) (store_at x now)) (sym is)

-- ---- blocks

-- the store behind a block, with the names that were there before it
pub block_store : (x : Context) (before middle after : CodeStore) (count : ℕ) → IsReadyStore x before → Stays before middle → count ≡ length before.present.items
    → store_at x after ≡ left_with (names_in x) (take count middle.present.items) (store_at x middle) → store_kept (store_at x before) (store_at x middle) ≡ store_at x after
block_store x before middle after count ready stays counted left =
    sym (left ∙ ap (λ k. left_with (names_in x) (take k middle.present.items) (store_at x middle)) counted ∙ block_ended (names_in x) before middle ready.names stays.front)

-- ---- operators

-- an operator that asks both its sides
pub asks_both : (o : Op) (left : Ended) (right : Store → Ended) → (o ≡ ops.Coalesce → ⊥) → (o ≡ ops.Or → ⊥) → (o ≡ ops.And → ⊥) → combined o left right ≡ both_sides o left right
asks_both ops.Coalesce left right no_coalesce no_or no_and = absurd (no_coalesce refl)
asks_both ops.Or left right no_coalesce no_or no_and = absurd (no_or refl)
asks_both ops.And left right no_coalesce no_or no_and = absurd (no_and refl)
asks_both ops.Equal left right no_coalesce no_or no_and = refl
asks_both ops.Unequal left right no_coalesce no_or no_and = refl
asks_both ops.Less left right no_coalesce no_or no_and = refl
asks_both ops.AtMost left right no_coalesce no_or no_and = refl
asks_both ops.More left right no_coalesce no_or no_and = refl
asks_both ops.AtLeast left right no_coalesce no_or no_and = refl
asks_both ops.Merge left right no_coalesce no_or no_and = refl
asks_both ops.Plus left right no_coalesce no_or no_and = refl
asks_both ops.Minus left right no_coalesce no_or no_and = refl
asks_both ops.Times left right no_coalesce no_or no_and = refl

-- an operator behind its left side
pub beside_ends : (o : Op) (left : Ended) (right : Store → Ended) (v : Tree) (store t : Store) (r : Result Value Stop) → combined o left right ≡ both_sides o left right → left ≡ ends (value v) store
    → Ends (on_value (right store) (λ w end. ends (applied o v w) end)) t r → Ends (combined o left right) t r
beside_ends o left right v store t r asks is rest =
    subst (λ e. Ends e t r) (sym asks) (after_value left (λ w after. on_value (right after) (λ u end. ends (applied o w u) end)) v store t r is rest)

-- ---- arrays

-- the parts, with nothing behind them
pub array_ends : (x : Context) (ns : List Linked) (before after : CodeStore) (vs : List Tree) → ((more : List Linked) → all_mean (names_in x) (setting_in x) (parts_of_list (ns ++ more)) [] (store_at x before) ≡ all_mean (names_in x) (setting_in x) (parts_of_list more) vs (store_at x after))
    → meant x (array (parts_of_list ns)) before ≡ ends (value (items (items_of_trees vs))) (store_at x after)
array_ends x ns before after vs all = ap (λ ms. all_mean (names_in x) (setting_in x) (parts_of_list ms) [] (store_at x before)) (sym (append-nil ns)) ∙ all []

pub array_stops : (x : Context) (ns : List Linked) (before : CodeStore) (store : Store) (stop : Stop) → ((more : List Linked) → Stops (all_mean (names_in x) (setting_in x) (parts_of_list (ns ++ more)) [] (store_at x before)) store stop)
    → Stops (meant x (array (parts_of_list ns)) before) store stop
array_stops x ns before store stop all = subst (λ ms. Stops (all_mean (names_in x) (setting_in x) (parts_of_list ms) [] (store_at x before)) store stop) (append-nil ns) (all [])

-- ---- writes

pub assigned_ends : (asked : Bool) (target : Target) (m : Ended) (v : Tree) (copy : Value) (store t : Store) → m ≡ ends (value v) store
    → (asked ≡ true → tree_of copy ≡ v) → ((next : Store → Ended) → writes_to target v store next ≡ next t)
    → EndsAsked asked (assigned target m) t (Ok copy)
assigned_ends asked target m v copy store t is copied writes =
    copy_told asked (assigned target m) v copy t (ap (assigned target) is ∙ writes (λ end. ends (value v) end)) copied

pub assigned_stops : (target : Target) (m : Ended) (v : Tree) (store t : Store) (stop : Stop) → m ≡ ends (value v) store
    → ((next : Store → Ended) → Stops (writes_to target v store next) t stop) → Stops (assigned target m) t stop
assigned_stops target m v store t stop is writes = subst (λ e. Stops (assigned target e) t stop) (sym is) (writes (λ end. ends (value v) end))

-- both of two writes
pub both_end : (asked : Bool) (ok err : Target) (whole : Ended) (v w : Tree) (copy : Value) (store middle t : Store) → whole ≡ written_both ok err v w store
    → (asked ≡ true → tree_of copy ≡ v) → ((next : Store → Ended) → writes_to ok v store next ≡ next middle)
    → ((next : Store → Ended) → writes_to err w middle next ≡ next t) → EndsAsked asked whole t (Ok copy)
both_end asked ok err whole v w copy store middle t is copied first second =
    copy_told asked whole v copy t (is ∙ first (λ after. writes_to err w after (λ end. ends (value v) end)) ∙ second (λ end. ends (value v) end)) copied

-- the first one isn't done
pub first_stops : (ok err : Target) (whole : Ended) (v w : Tree) (store t : Store) (stop : Stop) → whole ≡ written_both ok err v w store
    → ((next : Store → Ended) → Stops (writes_to ok v store next) t stop) → Stops whole t stop
first_stops ok err whole v w store t stop is writes =
    subst (λ e. Stops e t stop) (sym is) (writes (λ after. writes_to err w after (λ end. ends (value v) end)))

-- the second one
pub second_stops : (ok err : Target) (whole : Ended) (v w : Tree) (store middle t : Store) (stop : Stop) → whole ≡ written_both ok err v w store
    → ((next : Store → Ended) → writes_to ok v store next ≡ next middle) → ((next : Store → Ended) → Stops (writes_to err w middle next) t stop)
    → Stops whole t stop
second_stops ok err whole v w store middle t stop is first second =
    subst (λ e. Stops e t stop) (sym (is ∙ first (λ after. writes_to err w after (λ end. ends (value v) end)))) (second (λ end. ends (value v) end))
