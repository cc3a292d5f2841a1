-- The names of a closure: what the store holds behind its body, one name after the other.
use Rattle.std.proofs.Common.{◌≡◌, ℕ, Bool, true, false, cond, ◌||◌, ◌≤◌, List, [], ◌∷◌, length, length-append, take, Option, Some, None, is_some, option_map, refl, sym, ap, ◌∙◌, subst, append-nil, arith, if◌then◌else◌}
use Rattle.std.specs.FinMap as finite
use Rattle.std.specs.Prelude.{IfSome, IsTrue}
use Rattle.std.specs.declared.result.Result.{Result}
use Rattle.vrl_value.specs.Tree.{Tree, null}
use Rattle.vrl_value.specs.declared.value.Value.{Value}
use Rattle.vrl_syntax.specs.Stores.{Store, Values, store_back, store_kept, value_back, value_of, values_back, with_value}
use Rattle.vrl_syntax.specs.declared.root.Root.TheVariants.{Name}
use Rattle.vrl_store.specs.Kept.{is_held}
use Rattle.vrl_store.specs.Outcomes.{Ended, ends}
use Rattle.vrl_store.specs.StoreView.{count_of, hidden_tree, is_among, left_with, name_at, present_of, store_in, AreNames, IsFront, Names}
use Rattle.vrl_store.specs.WellFormed.{IsWellFormed, IsWellFormedStore}
use Rattle.vrl_store.specs.declared.hidden_value.HiddenValue.{HiddenValue}
use Rattle.vrl_store.specs.declared.stop.Stop.{Stop}
use Rattle.vrl_store.specs.declared.store.Store.{Store as CodeStore}
use Rattle.vrl_store.proofs.Left.{block_ended, retained, take_front}
use Rattle.vrl_store.proofs.Variables.{inserted, named_so, one_map, tied}
use Rattle.vrl_resolve.specs.Fits.{IsKnownSlot}
use Rattle.vrl_resolve.specs.Iterating.{bound_slot, given_back, IsHiddenBy, MayBeGivenBack}
use Rattle.vrl_resolve.specs.LinkedMeaning.{body_means, bound_slots, hidden_slots, items_mean}
use Rattle.vrl_resolve.specs.Linked.{Parts}
use Rattle.vrl_resolve.specs.Meaning.{body_left}
use Rattle.vrl_resolve.specs.Walking.{names_in, setting_in, store_at, EndsAsked, IsReadyStore, Stays}
use Rattle.vrl_resolve.specs.declared.walk.Context.{Context}
use Rattle.vrl_resolve.proofs.Walks.{ends_then, names_after, stays_then}
use Rattle.vrl_resolve.proofs.WellFormedEnds.{with_value_is}

-- ---- maps

abbrev or_else : Option Tree → Option Tree → Option Tree
or_else None other = other
or_else (Some v) other = Some v

-- the value before, where the name is one of those and had one
abbrev back_at : Bool → Option Tree → Option Tree → Option Tree
back_at among was is = if among then or_else was is else is

none_back : (b : Bool) (is : Option Tree) → back_at b None is ≡ is
none_back true is = refl
none_back false is = refl

one_back : (x y : List ℕ) (was : Option Tree) (m : Values) → finite.get (value_back x was m) y ≡ back_at (tied y x) was (finite.get m y)
one_back x y None m = sym (none_back (tied y x) (finite.get m y))
one_back x y (Some v) m = inserted m x v y ∙ either (tied y x) where
  either : (b : Bool) → cond b (Some v) (finite.get m y) ≡ back_at b (Some v) (finite.get m y)
  either true = refl
  either false = refl

twice_back : (b c : Bool) (was own is : Option Tree) → (b ≡ true → own ≡ was) → back_at b own (back_at c was is) ≡ back_at (b || c) was is
twice_back false c was own is same = refl
twice_back true c was own is same = ap (λ o. or_else o (back_at c was is)) (same refl) ∙ either was where
  either : (o : Option Tree) → or_else o (back_at c o is) ≡ or_else o is
  either None = none_back c is
  either (Some v) = refl

own_value : (x y : List ℕ) (m : Values) → tied y x ≡ true → finite.get m x ≡ finite.get m y
own_value x y m is = ap (finite.get m) (sym (named_so y x is))

all_back : (hidden : List (List ℕ)) (before m : Values) (y : List ℕ) → finite.get (values_back hidden before m) y ≡ back_at (is_among y hidden) (finite.get before y) (finite.get m y)
all_back [] before m y = refl
all_back (x ∷ hidden) before m y =
    one_back x y (finite.get before x) (values_back hidden before m)
    ∙ ap (back_at (tied y x) (finite.get before x)) (all_back hidden before m y)
    ∙ twice_back (tied y x) (is_among y hidden) (finite.get before y) (finite.get before x) (finite.get m y) (own_value x y before)

kept_at : (before after : Store) (y : List ℕ) → finite.get (store_kept before after).variables y ≡ cond (is_some (finite.get before.variables y)) (finite.get after.variables y) None
kept_at before after y = retained after.variables (λ x. finite.contains_key before.variables x) y

-- behind the body
abbrev held_at : Bool → Option Tree → Option Tree → Option Tree
held_at among was is = back_at among was (cond (is_some was) is None)

back_is : (hidden : List (List ℕ)) (before after : Store) (y : List ℕ) → finite.get (store_back hidden before after).variables y ≡ held_at (is_among y hidden) (finite.get before.variables y) (finite.get after.variables y)
back_is hidden before after y =
    all_back hidden before.variables (store_kept before after).variables y ∙ ap (back_at (is_among y hidden) (finite.get before.variables y)) (kept_at before after y)

-- ---- one name within others

kept_twice : (c : Bool) (was is : Option Tree) → cond (is_some was) (held_at c was is) None ≡ held_at c was is
kept_twice c None is = sym (none_back c None)
kept_twice c (Some v) is = refl

-- where no name is bound before
pub none_within : (hidden : List (List ℕ)) (before after : Store) → store_kept before (store_back hidden before after) ≡ store_back hidden before after
none_within hidden before after = λ i. record { event = after.event; variables = same i } where
  same : (store_kept before (store_back hidden before after)).variables ≡ (store_back hidden before after).variables
  same = one_map _ _ (λ y.
      kept_at before (store_back hidden before after) y
      ∙ ap (λ o. cond (is_some (finite.get before.variables y)) o None) (back_is hidden before after y)
      ∙ kept_twice (is_among y hidden) (finite.get before.variables y) (finite.get after.variables y)
      ∙ sym (back_is hidden before after y))

inner_name : (b c : Bool) (was own is : Option Tree) (v : Tree) → (b ≡ true → own ≡ was)
    → back_at b own (cond (is_some was) (held_at c (cond b (Some v) was) is) None) ≡ held_at (b || c) was is
inner_name true c None own is v same = ap (λ o. or_else o None) (same refl)
inner_name true c (Some w) own is v same = ap (λ o. or_else o (held_at c (Some v) is)) (same refl)
inner_name false c None own is v same = sym (none_back c None)
inner_name false c (Some w) own is v same = refl

-- where this name is bound before the others, and has its value back behind them
pub one_within : (x : List ℕ) (v : Tree) (hidden : List (List ℕ)) (before after : Store)
    → record (store_back hidden (with_value (Name x) v before) after) { variables = value_back x (finite.get before.variables x) (store_kept before (store_back hidden (with_value (Name x) v before) after)).variables } ≡ store_back (x ∷ hidden) before after
one_within x v hidden before after = λ i. record { event = after.event; variables = same i } where
  middle : Store
  middle = store_back hidden (with_value (Name x) v before) after

  same : value_back x (finite.get before.variables x) (store_kept before middle).variables ≡ (store_back (x ∷ hidden) before after).variables
  same = one_map _ _ (λ y.
      one_back x y (finite.get before.variables x) (store_kept before middle).variables
      ∙ ap (back_at (tied y x) (finite.get before.variables x)) (kept_at before middle y
      ∙ ap (λ o. cond (is_some (finite.get before.variables y)) o None) (back_is hidden (with_value (Name x) v before) after y
      ∙ ap (λ o. held_at (is_among y hidden) o (finite.get after.variables y)) (inserted before.variables x v y)))
      ∙ inner_name (tied y x) (is_among y hidden) (finite.get before.variables y) (finite.get before.variables x) (finite.get after.variables y) v (own_value x y before.variables)
      ∙ sym (back_is (x ∷ hidden) before after y))

-- ---- how a body ends

-- the store that is left where the values that were hidden are given back
back_given : (x : List ℕ) (before kept : Store) (hidden : Option Tree) → hidden ≡ finite.get before.variables x
    → (names : Names) (number : ℕ) → name_at names number ≡ x → given_back names (Some number) hidden kept ≡ record kept { variables = value_back x (finite.get before.variables x) kept.variables }
back_given x before kept hidden is names number named = chosen hidden ∙ back is where
  back : {o p : Option Tree} → o ≡ p → ◌≡◌ {A = Store} (record kept { variables = value_back x o kept.variables }) (record kept { variables = value_back x p kept.variables })
  back same = λ i. record kept { variables = value_back x (same i) kept.variables }

  chosen : (o : Option Tree) → given_back names (Some number) o kept ≡ record kept { variables = value_back x o kept.variables }
  chosen None = refl
  chosen (Some v) = ap (λ y. with_value (Name y) v kept) named

slot_left : (names : Names) (slot : Option ℕ) (before kept : Store) (hidden : Option Tree)
    → ((number : ℕ) → slot ≡ Some number → hidden ≡ value_of (Name (name_at names number)) before) → (after : Store) → kept ≡ store_kept before after
    → given_back names slot hidden kept ≡ store_back (hidden_slots names (slot ∷ [])) before after
slot_left names None before kept hidden was after is = is
slot_left names (Some number) before kept hidden was after is =
    let back : Store → Store = λ s. record s { variables = value_back (name_at names number) (finite.get before.variables (name_at names number)) s.variables } in
    back_given (name_at names number) before kept hidden (was number refl) names number refl ∙ ap back is

was_hidden : (names : Names) (slot : Option ℕ) (hidden : Option HiddenValue) (before : CodeStore) → AreNames names before → IsHiddenBy slot hidden before
    → (number : ℕ) → slot ≡ Some number → option_map hidden_tree hidden ≡ value_of (Name (name_at names number)) (store_in names before)
was_hidden names None hidden before are is number one = cc
was_hidden names (Some n) hidden before are is number one =
    let same : n ≡ number = cc in
    subst (λ k. option_map hidden_tree hidden ≡ value_of (Name (name_at names k)) (store_in names before)) same (is.0 names are)

-- ---- the store

pub bound_ready : (x : Context) (slot : Option ℕ) (v : Tree) (before after : CodeStore) → IsReadyStore x before → Stays before after → IsWellFormed (length (setting_in x).sources) v
    → ((names : Names) → AreNames names before → store_in names after ≡ bound_slot names slot v (store_in names before)) → IsReadyStore x after
bound_ready x slot v before after ready stays formed bound = record {
  names = names_after (names_in x) before after ready.names stays;
  formed = subst (IsWellFormedStore (length (setting_in x).sources)) (sym (bound (names_in x) ready.names)) (bound_formed slot);
} where
  bound_formed : (s : Option ℕ) → IsWellFormedStore (length (setting_in x).sources) (bound_slot (names_in x) s v (store_at x before))
  bound_formed None = ready.formed
  bound_formed (Some number) = with_value_is (length (setting_in x).sources) (Name (name_at (names_in x) number)) v (store_at x before) formed ready.formed

pub known_slot : (x : Context) (slot : Option ℕ) (s : CodeStore) → IsReadyStore x s → IsKnownSlot (length (names_in x)) slot → IsKnownSlot (length s.variables.items) slot
known_slot x None s ready known = tt
known_slot x (Some number) s ready known = let as_many = ready.names.as_many in omega (arith, known)

-- what stays where a part was run behind a name that was bound
pub bound_then : (before bound middle : CodeStore) → IsFront (present_of before) (present_of bound) → count_of bound ≡ count_of before → Stays bound middle → Stays before middle
bound_then before bound middle front as_many stays = stays_then before bound middle (record { front = front; as_many = as_many }) stays

-- the numbers that were there before are those that are left
pub front_again : (before middle : CodeStore) (count : ℕ) → Stays before middle → count ≡ length (present_of before) → take count (present_of middle) ≡ present_of before
front_again before middle count stays counted = ap (λ n. take n (present_of middle)) counted ∙ take_front (present_of before) stays.front.0 (present_of middle) stays.front.1

pub count_within : (before middle : CodeStore) (count : ℕ) → Stays before middle → count ≡ length (present_of before) → count ≤ length (present_of middle)
count_within before middle count stays counted =
    let longer = ap length stays.front.1 ∙ length-append (present_of before) stays.front.0 in
    omega arith

pub may_be_given_back : (slot : Option ℕ) (hidden : Option HiddenValue) (before : CodeStore) (numbers : List ℕ) → IsHiddenBy slot hidden before → numbers ≡ present_of before → MayBeGivenBack slot hidden numbers
may_be_given_back None hidden before numbers is same = tt
may_be_given_back (Some number) hidden before numbers is same = subst (λ ns. IfSome hidden (λ v. IsTrue (is_held number ns))) (sym same) is.1

pub stays_again : (before middle after : CodeStore) (count : ℕ) → Stays before middle → count ≡ length (present_of before) → present_of after ≡ take count (present_of middle)
    → length after.variables.items ≡ length middle.variables.items → Stays before after
stays_again before middle after count stays counted left as_many = record {
  front = ([], left ∙ front_again before middle count stays counted ∙ sym (append-nil (present_of before)));
  as_many = as_many ∙ stays.as_many;
}

-- what is left of the store
left_store : (x : Context) (slot : Option ℕ) (hidden : Option HiddenValue) (before middle after : CodeStore) (count : ℕ) → IsReadyStore x before → Stays before middle → count ≡ length (present_of before)
    → IsHiddenBy slot hidden before
    → store_at x after ≡ given_back (names_in x) slot (option_map hidden_tree hidden) (left_with (names_in x) (take count (present_of middle)) (store_at x middle))
    → store_at x after ≡ store_back (hidden_slots (names_in x) (slot ∷ [])) (store_at x before) (store_at x middle)
left_store x slot hidden before middle after count ready stays counted was left =
    let kept : left_with (names_in x) (take count (present_of middle)) (store_at x middle) ≡ store_kept (store_at x before) (store_at x middle) =
    ap (λ n. left_with (names_in x) (take n (present_of middle)) (store_at x middle)) counted ∙ block_ended (names_in x) before middle ready.names stays.front in
    left
    ∙ slot_left (names_in x) slot (store_at x before) (left_with (names_in x) (take count (present_of middle)) (store_at x middle)) (option_map hidden_tree hidden)
    (was_hidden (names_in x) slot hidden before ready.names was) (store_at x middle) kept

-- items behind one name
pub one_name_ends : (x : Context) (slot : Option ℕ) (v : Tree) (ns : Parts) (hidden : Option HiddenValue) (before bound middle after : CodeStore) (count : ℕ) (asked : Bool) (r : Result Value Stop) → IsReadyStore x before
    → Stays before middle → count ≡ length (present_of before) → IsHiddenBy slot hidden before
    → store_at x bound ≡ bound_slot (names_in x) slot v (store_at x before)
    → EndsAsked asked (items_mean (names_in x) (setting_in x) null ns (store_at x bound)) (store_at x middle) r
    → store_at x after ≡ given_back (names_in x) slot (option_map hidden_tree hidden) (left_with (names_in x) (take count (present_of middle)) (store_at x middle))
    → EndsAsked asked (body_means (names_in x) (setting_in x) (slot ∷ []) ns (v ∷ []) (store_at x before)) (store_at x after) r
one_name_ends x slot v ns hidden before bound middle after count asked r ready stays counted was is ended left =
    let names = names_in x in
    let left_so = left_store x slot hidden before middle after count ready stays counted was left in
    let told = subst (λ s. EndsAsked asked (items_mean names (setting_in x) null ns s) (store_at x middle) r) (is ∙ one_bound names slot v (store_at x before)) ended in
    subst (λ s. EndsAsked asked (body_means names (setting_in x) (slot ∷ []) ns (v ∷ []) (store_at x before)) s r) (sym left_so)
    (ends_then asked (store_back (hidden_slots names (slot ∷ [])) (store_at x before)) (items_mean names (setting_in x) null ns (bound_slots names (slot ∷ []) (v ∷ []) (store_at x before))) (store_at x middle) r told) where
      one_bound : (names : Names) (s : Option ℕ) (u : Tree) (store : Store) → bound_slot names s u store ≡ bound_slots names (s ∷ []) (u ∷ []) store
      one_bound names None u store = refl
      one_bound names (Some number) u store = refl

-- one name before another
two_names : (names : Names) (first second : Option ℕ) (v : Tree) (before after : Store)
    → store_back (hidden_slots names (first ∷ [])) before (store_back (hidden_slots names (second ∷ [])) (bound_slot names first v before) after) ≡ store_back (hidden_slots names (first ∷ second ∷ [])) before after
two_names names None second v before after = none_within (hidden_slots names (second ∷ [])) before after
two_names names (Some number) second v before after = one_within (name_at names number) v (hidden_slots names (second ∷ [])) before after

two_bound : (names : Names) (first second : Option ℕ) (v w : Tree) (store : Store) → bound_slots names (second ∷ []) (w ∷ []) (bound_slot names first v store) ≡ bound_slots names (first ∷ second ∷ []) (v ∷ w ∷ []) store
two_bound names None second v w store = refl
two_bound names (Some number) second v w store = refl

pub two_names_end : (x : Context) (first second : Option ℕ) (v w : Tree) (ns : Parts) (hidden : Option HiddenValue) (before bound middle after : CodeStore) (count : ℕ) (asked : Bool) (r : Result Value Stop) → IsReadyStore x before
    → Stays before middle → count ≡ length (present_of before) → IsHiddenBy first hidden before
    → store_at x bound ≡ bound_slot (names_in x) first v (store_at x before)
    → EndsAsked asked (body_means (names_in x) (setting_in x) (second ∷ []) ns (w ∷ []) (store_at x bound)) (store_at x middle) r
    → store_at x after ≡ given_back (names_in x) first (option_map hidden_tree hidden) (left_with (names_in x) (take count (present_of middle)) (store_at x middle))
    → EndsAsked asked (body_means (names_in x) (setting_in x) (first ∷ second ∷ []) ns (v ∷ w ∷ []) (store_at x before)) (store_at x after) r
two_names_end x first second v w ns hidden before bound middle after count asked r ready stays counted was is ended left =
    let names = names_in x in
    let start = store_at x before in
    let inner : Store → Ended = λ s. items_mean names (setting_in x) null ns (bound_slots names (second ∷ []) (w ∷ []) s) in
    let left_so = left_store x first hidden before middle after count ready stays counted was left in
    let told = subst (λ s. EndsAsked asked (body_means names (setting_in x) (second ∷ []) ns (w ∷ []) s) (store_at x middle) r) is ended in
    let m = inner (bound_slot names first v start) in
    let behind = ends_then asked (store_back (hidden_slots names (first ∷ [])) start) (body_left (hidden_slots names (second ∷ [])) (bound_slot names first v start) m) (store_at x middle) r told in
    let both : ends m.outcome (store_back (hidden_slots names (first ∷ [])) start (store_back (hidden_slots names (second ∷ [])) (bound_slot names first v start) m.store)) ≡ body_means names (setting_in x) (first ∷ second ∷ []) ns (v ∷ w ∷ []) start =
    ap (ends m.outcome) (two_names names first second v start m.store)
    ∙ ap (λ s. body_left (hidden_slots names (first ∷ second ∷ [])) start (items_mean names (setting_in x) null ns s)) (two_bound names first second v w start) in
    subst (λ s. EndsAsked asked (body_means names (setting_in x) (first ∷ second ∷ []) ns (v ∷ w ∷ []) start) s r) (sym left_so)
    (subst (λ e. EndsAsked asked e (store_back (hidden_slots names (first ∷ [])) start (store_at x middle)) r) both behind)
