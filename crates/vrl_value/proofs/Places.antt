-- The values of an array by their places, in the code and as trees.
use Rattle.std.proofs.Common.{◌≡◌, ℕ, zero, suc, ◌≤◌, ◌<◌, ◌+◌, List, [], ◌∷◌, ◌++◌, replicate, Option, Some, None, option_map, Vec, Global, slice_set, slice_get, length, refl, sym, ap, ◌∙◌, rules, arith, ◌-◌, append_assoc, remove, vec_len, Result, Ok, Err, OnOk}
use Rattle.std.proofs.lemmas.List.{replicate_more}
use Rattle.std.proofs.lemmas.Option.{slice_get_read, slice_get_past}
use Rattle.std.specs.List.{ItemBy}
use Rattle.vrl_value.specs.Look.{item_at}
use Rattle.vrl_value.specs.Parts.{count_of, put_item, replace_item, without_item}
use Rattle.vrl_value.specs.Tree.{item, null}
use Rattle.vrl_value.specs.View.{items_of, items_view, tree_of}
use Rattle.vrl_value.specs.declared.value.Value.{Value, the_lemmas}
use Rattle.vrl_value.specs.declared.value.Value.TheVariants.{Null}
use Rattle.vrl_value.specs.declared.value.Items.{Items, out-Items}
use Rattle.vrl_value.specs.declared.value.Value.TheViews.{roll-Items}
use Rattle.vrl_value.proofs.Copies.{items_of-out}

pub count_of-view : (vs : List Value) → length vs ≡ count_of (items_view vs)
count_of-view [] = refl
count_of-view (v ∷ vs) = ap suc (count_of-view vs)

pub item_at-view : (i : ℕ) (vs : List Value) → option_map tree_of (slice_get vs i) ≡ item_at i (items_view vs)
item_at-view i [] = refl
item_at-view zero (v ∷ vs) = refl
item_at-view (suc i) (v ∷ vs) = item_at-view i vs

-- what is read at a place is what stands there
pub item_read : {R : Type 0} (now : R → Value) (i : ℕ) (vs : List Value) (r : Option R) → ItemBy now vs i i r → option_map (λ x. tree_of (now x)) r ≡ item_at i (items_view vs)
item_read now i vs None found = ap (option_map tree_of) (sym (slice_get_past vs i found.3)) ∙ item_at-view i vs
item_read now i vs (Some x) found = ap (option_map tree_of) (sym (slice_get_read vs (length vs) i (now x) refl found.3.0 found.1)) ∙ item_at-view i vs

pub items_view-set : (i : ℕ) (vs : List Value) (w : Value) → items_view (slice_set vs i w) ≡ replace_item i (tree_of w) (items_view vs)
items_view-set i [] w = refl
items_view-set zero (v ∷ vs) w = refl
items_view-set (suc i) (v ∷ vs) w = ap (item (tree_of v)) (items_view-set i vs w)

pub items_view-remove : (i : ℕ) (vs : List Value) → i < length vs → items_view (remove vs i) ≡ without_item i (items_view vs)
items_view-remove i [] within = absurd (omega arith)
items_view-remove zero (v ∷ vs) within = refl
items_view-remove (suc i) (v ∷ vs) within = ap (item (tree_of v)) (items_view-remove i vs (omega arith))

pub items_of-roll : (v : Vec Value Global) → items_of (roll-Items record { items = v }) ≡ items_view v.items
items_of-roll v = search (rules, the_lemmas)

pub vec_len_items : (v : Vec Value Global) → vec_len v ≡ length v.items
vec_len_items v = search rules

-- the number of values that a vector holds is that of the items
pub vec_len_view : (items : Items) → vec_len (out-Items items).items ≡ count_of (items_of items)
vec_len_view items = vec_len_items (out-Items items).items ∙ count_of-view (out-Items items).items.items ∙ ap count_of (items_of-out items)

-- past the end nothing is taken out
pub without_item-past : (i : ℕ) (vs : List Value) → length vs ≤ i → without_item i (items_view vs) ≡ items_view vs
without_item-past i [] past = refl
without_item-past zero (v ∷ vs) past = absurd (omega arith)
without_item-past (suc i) (v ∷ vs) past = ap (item (tree_of v)) (without_item-past i vs (omega arith))

tree_of-null : tree_of Null ≡ null
tree_of-null = search (rules, the_lemmas)

-- one null more
pub one_more : (vs : List Value) (start i : ℕ) → start ≤ i → (vs ++ replicate (i - start) Null) ++ Null ∷ [] ≡ vs ++ replicate (i + 1 - start) Null
one_more vs start i later =
    let next : i - start + 1 ≡ i + 1 - start = omega arith in
    append_assoc vs (replicate (i - start) Null) (Null ∷ []) ∙ ap (λ ns. vs ++ ns) (replicate_more (i - start) Null) ∙ ap (λ n. vs ++ replicate n Null) next

-- a value behind as many nulls as are needed is put at its place
pub items_view-push_at : (vs : List Value) (i count : ℕ) (w : Value) → length vs + count ≡ i → items_view (vs ++ (replicate count Null ++ w ∷ [])) ≡ put_item i (tree_of w) (items_view vs)
items_view-push_at [] zero zero w e = refl
items_view-push_at [] zero (suc count) w e = absurd (omega arith)
items_view-push_at [] (suc i) zero w e = absurd (omega arith)
items_view-push_at [] (suc i) (suc count) w e = rw tree_of-null (ap (item null) (items_view-push_at [] i count w (omega arith)))
items_view-push_at (v ∷ vs) zero count w e = absurd (omega arith)
items_view-push_at (v ∷ vs) (suc i) count w e = ap (item (tree_of v)) (items_view-push_at vs i count w (omega arith))

pub on_ok : {T E : Type 0} (r : Result T E) (P Q : Type 0) → (P → Q) → OnOk r P → OnOk r Q
on_ok (Ok x) P Q f p = f p
on_ok (Err e) P Q f p = tt
