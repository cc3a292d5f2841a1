-- The values of an array, as what holds them, and from a place on.
use Rattle.std.proofs.Common.{◌≡◌, ℕ, suc, ◌+◌, ◌<◌, ◌≤◌, List, [], ◌∷◌, ◌++◌, length, get_or, take, drop, drop-cons, add-one, map, sym, ap, ◌∙◌, subst, rules}
use Rattle.std.proofs.Math.Seq.{take-suc}
use Rattle.std.proofs.lemmas.List.{drop_all, map-append}
use Rattle.vrl_value.specs.Tree.{item, IsOrdered, ItemsAreOrdered}
use Rattle.vrl_value.specs.View.{items_of, items_view, tree_of}
use Rattle.vrl_value.specs.declared.value.Value.{Value, the_lemmas}
use Rattle.vrl_value.specs.declared.value.Items.{Items, out-Items}

pub items_of-out : (items : Items) → items_view (out-Items items).items.items ≡ items_of items
items_of-out items = search (rules, the_lemmas)

-- the parts from a place on are the part there and those behind it
pub items_from : (vs : List Value) (i : ℕ) (v : Value) → i < length vs → v ≡ get_or vs i v → items_view (drop i vs) ≡ item (tree_of v) (items_view (drop (i + 1) vs))
items_from vs i v here is = rw (add-one, drop-cons vs i v here) (ap (λ w. item (tree_of w) (items_view (drop (suc i) vs))) (sym is))

-- one copy more
pub one_copied : (done vs : List Value) (i : ℕ) (v copy : Value) → i < length vs → v ≡ get_or vs i v → map tree_of done ≡ map tree_of (take i vs) → tree_of copy ≡ tree_of v
    → map tree_of (done ++ copy ∷ []) ≡ map tree_of (take (i + 1) vs)
one_copied done vs i v copy here is before same =
    map-append tree_of done (copy ∷ []) ∙ rw (before, same, is, add-one, take-suc vs i v here, map-append tree_of (take i vs) (get_or vs i v ∷ []))

-- all are in order where those from a place on are
pub ordered_from : (vs : List Value) (i : ℕ) (v : Value) → i < length vs → v ≡ get_or vs i v → IsOrdered (tree_of v) → (ItemsAreOrdered (items_view (drop i vs)) → ItemsAreOrdered (items_view vs))
    → ItemsAreOrdered (items_view (drop (i + 1) vs)) → ItemsAreOrdered (items_view vs)
ordered_from vs i v here is first all rest = all (subst ItemsAreOrdered (sym (items_from vs i v here is)) (first, rest))

pub ordered_end : (items : Items) (i : ℕ) → length (out-Items items).items.items ≤ i
    → (ItemsAreOrdered (items_view (drop i (out-Items items).items.items)) → ItemsAreOrdered (items_view (out-Items items).items.items)) → ItemsAreOrdered (items_of items)
ordered_end items i past all =
    subst ItemsAreOrdered (items_of-out items) (all (subst (λ vs. ItemsAreOrdered (items_view vs)) (sym (drop_all i (out-Items items).items.items past)) tt))
