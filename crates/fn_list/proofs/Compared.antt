-- Two arrays, compared item by item.
use Rattle.std.proofs.Common.{◌≡◌, ◌<◌, ◌≤◌, ◌+◌, ℕ, List, [], ◌∷◌, drop, get_or, length, refl, sym, ap, ◌∙◌, arith}
use Rattle.std.proofs.Math.ListN.{drop_of_length-le}
use Rattle.std.specs.Ordering.{ordering_then}
use Rattle.std.specs.declared.cmp.Ordering.{Ordering}
use Rattle.std.specs.declared.cmp.Ordering.TheVariants.{Less, Greater}
use Rattle.vrl_value.specs.View.{items_view, tree_of}
use Rattle.vrl_value.specs.declared.value.Value.{Value}
use Rattle.fn_list.specs.Order.{order, order_items}
use Rattle.fn_list.proofs.Itemwise.{left_at}

-- two items decide, or else what stands behind both
pub decided : (items right rest : List Value) (i : ℕ) (v w : Value) (o whole : Ordering) → i < length items → v ≡ get_or items i v → right ≡ w ∷ rest → o ≡ order (tree_of v) (tree_of w) →
    order_items (items_view (drop i items)) (items_view right) ≡ whole → ordering_then o (order_items (items_view (drop (i + 1) items)) (items_view rest)) ≡ whole
decided items right rest i v w o whole below is some told before =
    ap (λ p. ordering_then p (order_items (items_view (drop (i + 1) items)) (items_view rest))) told ∙ sym (ap (λ ts. order_items ts (items_view (w ∷ rest))) (left_at items i v below is))
    ∙ sym (ap (λ us. order_items (items_view (drop i items)) (items_view us)) some) ∙ before

-- the first has an item more
pub longer : (items right : List Value) (i : ℕ) (v : Value) (whole : Ordering) → i < length items → v ≡ get_or items i v → right ≡ [] →
    order_items (items_view (drop i items)) (items_view right) ≡ whole → Greater ≡ whole
longer items right i v whole below is none before =
    sym (ap (λ ts. order_items ts (items_view [])) (left_at items i v below is)) ∙ sym (ap (λ us. order_items (items_view (drop i items)) (items_view us)) none) ∙ before

-- the first has no item more
pub ended : (items right others : List Value) (i : ℕ) (whole : Ordering) → length items ≤ i → right ≡ others →
    order_items (items_view (drop i items)) (items_view right) ≡ whole → order_items (items_view []) (items_view others) ≡ whole
ended items right others i whole past same before =
    sym (ap (λ ts. order_items (items_view ts) (items_view others)) (drop_of_length-le items past)) ∙ sym (ap (λ us. order_items (items_view (drop i items)) (items_view us)) same) ∙ before

-- the second has an item more
pub shorter : (items right : List Value) (i : ℕ) (whole : Ordering) → length items ≤ i → 0 < length right → order_items (items_view (drop i items)) (items_view right) ≡ whole → Less ≡ whole
shorter items [] i whole past some before = absurd (omega (arith, some))
shorter items (w ∷ right) i whole past some before = ended items (w ∷ right) (w ∷ right) i whole past refl before
