-- What is read and set at a place of an array, by the place from the start that it stands for.
use Rattle.std.proofs.Common.{◌≡◌, ℕ, ℤ, pos, negsuc, zero, suc, ◌-◌, ◌<◌, ◌≤◌, nat_lt, if◌then◌else◌, unsigned_abs, Bool, true, false, List, [], ◌∷◌, ◌++◌, length, get_or, take, drop, Option, Some, None, IsSome, Result, Ok, Err, IfOk, OnOk, refl, sym, ap, ◌∙◌, subst, arith}
use Rattle.std.proofs.lemmas.Bool.{ltb-false}
use Rattle.std.proofs.lemmas.List.{take_rest}
use Rattle.vrl_value.specs.Look.{there, missing, place, found_behind, found_if, item_at}
use Rattle.vrl_value.specs.Parts.{count_of, put_item, replace_item}
use Rattle.vrl_value.specs.Tree.{Tree, null, array, Items, no_items, item}
use Rattle.vrl_value.specs.View.{items_of, items_view, tree_of}
use Rattle.vrl_value.specs.declared.value.Items.{Items as ItemsIn}
use Rattle.vrl_value.specs.declared.value.Value.{Value}
use Rattle.vrl_path.specs.FromEnd.{behind_nulls, front_padded, part_behind, step_in}
use Rattle.vrl_path.specs.Parts.{items_in, placed, replace_part, set_part, tree_or_null}
use Rattle.vrl_path.specs.Read.{place_of, read_at, signed_raw_at, tree_found}
use Rattle.vrl_path.specs.Remove.{removable_at}
use Rattle.vrl_path.specs.Trees.{if_there, items_if, items_if_array, read_in, remove_in_items, remove_tree, removable_in, set_in_items, set_tree}
use Rattle.vrl_path.specs.declared.path.Step.{Step}
use Rattle.vrl_path.specs.declared.path.Step.TheVariants.{Field, Place}

before_if : (b : Bool) (i count : ℕ) → nat_lt i count ≡ b → (if b then Some (count - suc i) else None) ≡ None → count ≤ i
before_if true i count is none = absurd cc
before_if false i count is none = ltb-false i count is

-- a place that is before the first is farther from the end than there are items
pub before_first : (count : ℕ) (z : ℤ) → place_of count z ≡ None → count < unsigned_abs z
before_first count (pos i) none = absurd cc
before_first count (negsuc i) none = let h = before_if (nat_lt i count) i count refl none in omega arith

-- a part set at a place that is before the first is the first, with nulls behind it
pub set_in_front : (v : Tree) (z : ℤ) (t : Tree) → place_of (count_of (items_in (there v))) z ≡ None
    → set_part (step_in v (Place z)) t (front_padded v (Place z)) ≡ array (item t (behind_nulls (unsigned_abs z - count_of (items_in (there v)) - 1) (items_in (there v))))
set_in_front v z t none =
    let ts = items_in (there v) in
    let h = before_first (count_of ts) z none in
    let some : unsigned_abs z - count_of ts ≡ suc (unsigned_abs z - count_of ts - 1) = omega arith in
    rw none (ap (λ k. set_part (place 0) t (array (behind_nulls k ts))) some)

-- and no part stood there
pub behind_front : (v : Tree) (z : ℤ) → place_of (count_of (items_in (there v))) z ≡ None → part_behind v (Place z) ≡ null
behind_front v z none =
    let ts = items_in (there v) in
    let h = before_first (count_of ts) z none in
    let some : unsigned_abs z - count_of ts ≡ suc (unsigned_abs z - count_of ts - 1) = omega arith in
    rw none (ap (λ k. tree_or_null (found_if (item_at 0 (behind_nulls k ts)))) some)

-- a part alone, in a new array, at a place that is before the first
pub held_in_front : {E : Type 0} (r : Result ItemsIn E) (z : ℤ) (t : Tree) (k : ℕ) → IfOk r (λ held. items_of held ≡ item t (behind_nulls (k - 1) no_items)) → None ≡ place_of 0 z → k ≡ unsigned_abs z
    → IfOk r (λ held. array (items_of held) ≡ set_part (step_in null (Place z)) t (front_padded null (Place z)))
held_in_front (Ok held) z t k is none distance =
    let same : k - 1 ≡ unsigned_abs z - 0 - 1 = omega arith in
    ap array (is ∙ ap (λ k. item t (behind_nulls k no_items)) same) ∙ sym (set_in_front null z t (sym none))
held_in_front (Err e) z t k is none distance = tt

-- in null no part stands behind a step
behind_null : (s : Step) → part_behind null s ≡ null
behind_null (Field k) = refl
behind_null (Place z) = by_place (place_of 0 z) refl where
  by_place : (o : Option ℕ) → place_of 0 z ≡ o → part_behind null (Place z) ≡ null
  by_place None is = behind_front null z is
  by_place (Some i) is = rw is refl

new_step : (s : Step) (p : List Step) (n : Tree) → set_part (step_in null s) (set_tree null p n) (front_padded null s) ≡ set_tree null (s ∷ p) n
new_step s p n = sym (ap (λ u. set_part (step_in null s) (set_tree u p n) (front_padded null s)) (behind_null s))

-- steps are their first one and those behind it
pub first_and_rest : (steps : List Step) (s : Step) → s ≡ get_or steps 0 s → 1 ≤ length steps → steps ≡ s ∷ take (length steps - 1) (drop 1 steps)
first_and_rest [] s is some = absurd (omega arith)
first_and_rest (q ∷ rest) s is some = ap (λ x. x ∷ rest) (sym is) ∙ ap (λ p. s ∷ p) (sym (take_rest (q ∷ rest) 1))

-- a set in null goes on in null
pub new_at : {E : Type 0} (r : Result Value E) (steps : List Step) (s : Step) (rest : List Step) (n part : Tree) → part ≡ set_tree null rest n
    → IfOk r (λ value. tree_of value ≡ set_part (step_in null s) part (front_padded null s)) → steps ≡ s ∷ rest → IfOk r (λ value. tree_of value ≡ set_tree null steps n)
new_at (Ok value) steps s rest n part new is whole =
    is ∙ ap (λ t. set_part (step_in null s) t (front_padded null s)) new ∙ new_step s rest n ∙ ap (λ p. set_tree null p n) (sym whole)
new_at (Err e) steps s rest n part new is whole = tt

items_at : (o : Option Tree) (i : ℕ) (ts : Items) (p : List Step) (n : Tree)
    → array (items_if o (λ u. replace_item i (set_tree u p n) ts) (put_item i (set_tree null p n) ts)) ≡ placed (found_if o) (place i) (set_tree (tree_or_null (found_if o)) p n) (array ts)
items_at None i ts p n = refl
items_at (Some u) i ts p n = refl

-- a set in an array, where there is the place
pub set_at_place : (ts : Items) (z : ℤ) (i : ℕ) (p : List Step) (n : Tree) → place_of (count_of ts) z ≡ Some i → array (set_in_items i ts p n) ≡ set_tree (array ts) (Place z ∷ p) n
set_at_place ts z i p n is = rw is (items_at (item_at i ts) i ts p n)

-- and where it is before the first
pub set_before_first : (ts : Items) (z : ℤ) (p : List Step) (n : Tree) → place_of (count_of ts) z ≡ None
    → array (item (set_tree null p n) (behind_nulls (unsigned_abs z - count_of ts - 1) ts)) ≡ set_tree (array ts) (Place z ∷ p) n
set_before_first ts z p n none =
    sym (ap (λ u. set_part (step_in (array ts) (Place z)) (set_tree u p n) (front_padded (array ts) (Place z))) (behind_front (array ts) z none) ∙ set_in_front (array ts) z (set_tree null p n) none)

pub front_set : {T E : Type 0} (r : Result T E) (ts : Items) (z : ℤ) (p : List Step) (n : Tree) (k : ℕ) (part : Tree) (us : Items) → OnOk r (us ≡ item part (behind_nulls (k - 1) ts)) → part ≡ set_tree null p n
    → place_of (count_of ts) z ≡ None → k ≡ unsigned_abs z - count_of ts → OnOk r (array us ≡ set_tree (array ts) (Place z ∷ p) n)
front_set (Ok x) ts z p n k part us is new none distance =
    ap array (is ∙ ap (λ t. item t (behind_nulls (k - 1) ts)) new ∙ ap (λ k. item (set_tree null p n) (behind_nulls (k - 1) ts)) distance) ∙ set_before_first ts z p n none
front_set (Err e) ts z p n k part us is new none distance = tt

read_item : (o : Option Tree) (p : List Step) → tree_found (found_behind (found_if o) p (λ u. signed_raw_at u p)) ≡ read_in o p
read_item None [] = refl
read_item None (s ∷ p) = refl
read_item (Some u) p = refl

-- a read in an array, where there is the place
pub read_at_place : (ts : Items) (z : ℤ) (i : ℕ) (p : List Step) → place_of (count_of ts) z ≡ Some i → read_at (array ts) (Place z ∷ p) ≡ read_in (item_at i ts) p
read_at_place ts z i p is = rw is (read_item (item_at i ts) p)

nothing_behind : (p : List Step) → tree_found (found_behind missing p (λ u. signed_raw_at u p)) ≡ None
nothing_behind [] = refl
nothing_behind (s ∷ p) = refl

-- and where it is before the first
pub read_before_first : (ts : Items) (z : ℤ) (p : List Step) → place_of (count_of ts) z ≡ None → read_at (array ts) (Place z ∷ p) ≡ None
read_before_first ts z p none = rw none (nothing_behind p)

pub no_read : {P : Type 0} (ts : Items) (z : ℤ) (p : List Step) → place_of (count_of ts) z ≡ None → IsSome (read_at (array ts) (Place z ∷ p)) → P
no_read ts z p none found = let h = subst IsSome (read_before_first ts z p none) found in absurd cc

-- what is no array is as null, where a value is set at a place
pub set_no_array : (v : Tree) (z : ℤ) (p : List Step) (n : Tree) → None ≡ items_if_array v → set_tree v (Place z ∷ p) n ≡ set_tree null (Place z ∷ p) n
set_no_array (array ts) z p n none = absurd cc
set_no_array v z p n none = by_place (place_of 0 z) refl where
  by_place : (o : Option ℕ) → place_of 0 z ≡ o → set_tree v (Place z ∷ p) n ≡ set_tree null (Place z ∷ p) n
  by_place None is = rw is refl
  by_place (Some i) is = rw is refl

-- so is what stands at the first step of a path
pub no_array_set : (v : Tree) (steps : List Step) (s : Step) (z : ℤ) (n : Tree) → s ≡ get_or steps 0 s → s ≡ Place z → 1 ≤ length steps → None ≡ items_if_array v → set_tree null steps n ≡ set_tree v steps n
no_array_set v [] s z n is place_is some none = absurd (omega arith)
no_array_set v (q ∷ rest) s z n is place_is some none =
    let first = sym is ∙ place_is in
    ap (λ x. set_tree null (x ∷ rest) n) first ∙ sym (set_no_array v z rest n none) ∙ ap (λ x. set_tree v (x ∷ rest) n) (sym first)

-- ---- removals

removable_item : (o : Option Tree) (p : List Step) → 0 < length p → removable_in o p ≡ read_in o p
removable_item o [] some = absurd (omega arith)
removable_item None (s ∷ p) some = refl
removable_item (Some u) (s ∷ p) some = refl

-- what is removed in an array, where there is the place
pub removable_at_place : (ts : Items) (z : ℤ) (i : ℕ) (p : List Step) → 0 < length p → place_of (count_of ts) z ≡ Some i → removable_in (item_at i ts) p ≡ removable_at (array ts) (Place z ∷ p)
removable_at_place ts z i p some is = removable_item (item_at i ts) p some ∙ sym (read_at_place ts z i p is)

left_items : (o : Option Tree) (i : ℕ) (ts : Items) (p : List Step) → array (items_if o (λ u. replace_item i (remove_tree u p) ts) ts) ≡ if_there (found_if o) (λ u. replace_part (place i) (remove_tree u p) (array ts)) (array ts)
left_items None i ts p = refl
left_items (Some u) i ts p = refl

-- and what is left
pub removed_at_place : (ts : Items) (z : ℤ) (i : ℕ) (p : List Step) → 0 < length p → place_of (count_of ts) z ≡ Some i → array (remove_in_items i ts p) ≡ remove_tree (array ts) (Place z ∷ p)
removed_at_place ts z i [] some is = absurd (omega arith)
removed_at_place ts z i (r ∷ p) some is = rw is (left_items (item_at i ts) i ts (r ∷ p))

-- nothing is removed where the place is before the first
pub removed_before_first : (ts : Items) (z : ℤ) (p : List Step) → place_of (count_of ts) z ≡ None → array ts ≡ remove_tree (array ts) (Place z ∷ p)
removed_before_first ts z [] none = rw none refl
removed_before_first ts z (r ∷ p) none = rw none refl

-- ---- nulls in memory

put_nulls : (k : ℕ) → put_item k null no_items ≡ behind_nulls (suc k) no_items
put_nulls zero = refl
put_nulls (suc k) = ap (item null) (put_nulls k)

-- one item, and one with nulls put behind it
pub one_made : (count : ℕ) (t : Tree) (ts : Items) → count < 2 → ts ≡ put_item 0 t no_items → ts ≡ item t (behind_nulls (count - 1) no_items)
one_made zero t ts one is = is
one_made (suc zero) t ts one is = is
one_made (suc (suc k)) t ts one is = absurd (omega arith)

pub nulls_made : (count : ℕ) (t : Tree) (ts us : Items) → 2 ≤ count → ts ≡ put_item 0 t no_items → us ≡ put_item (count - 1) null ts → us ≡ item t (behind_nulls (count - 1) no_items)
nulls_made zero t ts us more first is = absurd (omega arith)
nulls_made (suc zero) t ts us more first is = absurd (omega arith)
nulls_made (suc (suc k)) t ts us more first is =
    let before : suc (suc k) - 1 ≡ suc k = omega arith in
    is ∙ ap (put_item (suc (suc k) - 1) null) first ∙ ap (λ n. put_item n null (item t no_items)) before ∙ ap (item t) (put_nulls k) ∙ ap (λ n. item t (behind_nulls n no_items)) (sym before)

nulls_joined : (k : ℕ) (xs ys : List Value) → items_view xs ≡ behind_nulls k no_items → items_view (xs ++ ys) ≡ behind_nulls k (items_view ys)
nulls_joined zero [] ys is = refl
nulls_joined zero (x ∷ xs) ys is = absurd cc
nulls_joined (suc k) [] ys is = absurd cc
nulls_joined (suc k) (x ∷ xs) ys is =
    let first : tree_of x ≡ null = cc in
    let rest : items_view xs ≡ behind_nulls k no_items = cc in
    ap (λ t. item t (items_view (xs ++ ys))) first ∙ ap (item null) (nulls_joined k xs ys rest)

-- items behind a first one and nulls
pub front_joined : (k : ℕ) (t : Tree) (xs ys : List Value) → items_view xs ≡ item t (behind_nulls k no_items) → items_view (xs ++ ys) ≡ item t (behind_nulls k (items_view ys))
front_joined k t [] ys is = absurd cc
front_joined k t (x ∷ xs) ys is =
    let first : tree_of x ≡ t = cc in
    let rest : items_view xs ≡ behind_nulls k no_items = cc in
    ap (λ u. item u (items_view (xs ++ ys))) first ∙ ap (item t) (nulls_joined k xs ys rest)
