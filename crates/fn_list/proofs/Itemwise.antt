-- A walk over the items of an array that adds what each of them has.
use Rattle.std.proofs.Common.{◌≡◌, ◌<◌, ◌≤◌, ◌+◌, ℕ, List, [], ◌∷◌, ◌++◌, drop, get_or, length, sym, ap, ◌∙◌, arith, append_assoc}
use Rattle.std.proofs.Math.ListN.{drop_of_length-le}
use Rattle.std.proofs.lemmas.List.{append-nil, drop_more}
use Rattle.vrl_value.specs.Tree.{Tree, Items, no_items, item}
use Rattle.vrl_value.specs.View.{items_view, tree_of}
use Rattle.vrl_value.specs.declared.value.Value.{Value}
use Rattle.vrl_builtin.proofs.Sizes.{items_size, size_of}

-- what is left from a place on is the value there, and then what is left behind it
pub left_at : (items : List Value) (i : ℕ) (v : Value) → i < length items → v ≡ get_or items i v → items_view (drop i items) ≡ item (tree_of v) (items_view (drop (i + 1) items))
left_at items i v below is = ap items_view (drop_more items i v below ∙ ap (λ w. w ∷ drop (i + 1) items) (sym is))

-- the value there has fewer parts than all that is left, and what is left behind it has no more
pub fewer_left : (items : List Value) (i : ℕ) (v : Value) (most : ℕ) → i < length items → v ≡ get_or items i v → items_size (items_view (drop i items)) ≤ most →
    (size_of (tree_of v) < most) × (items_size (items_view (drop (i + 1) items)) ≤ most)
fewer_left items i v most below is few =
    let sizes : items_size (items_view (drop i items)) ≡ size_of (tree_of v) + items_size (items_view (drop (i + 1) items)) + 1 = ap items_size (left_at items i v below is) in
    (omega (arith, sizes, few), omega (arith, sizes, few))

-- what was added so far, with what is left, is the whole: also behind one more item, which has this part
pub walked : (whole : Items → List Tree) (items : List Value) (i : ℕ) (v : Value) (part before after all : List Tree) → i < length items → v ≡ get_or items i v →
    ((ts : Items) → whole (item (tree_of v) ts) ≡ part ++ whole ts) → after ≡ before ++ part → before ++ whole (items_view (drop i items)) ≡ all →
    after ++ whole (items_view (drop (i + 1) items)) ≡ all
walked whole items i v part before after all below is step added told =
    let left = items_view (drop (i + 1) items) in
    ap (λ ts. ts ++ whole left) added ∙ append_assoc before part (whole left) ∙ sym (ap (λ ts. before ++ ts) (ap whole (left_at items i v below is) ∙ step left)) ∙ told

-- and at the end it is the whole itself
pub all_walked : (whole : Items → List Tree) (items : List Value) (i : ℕ) (before all : List Tree) → whole no_items ≡ [] → length items ≤ i →
    before ++ whole (items_view (drop i items)) ≡ all → before ≡ all
all_walked whole items i before all empty past told =
    sym (append-nil before) ∙ sym (ap (λ ts. before ++ ts) (ap (λ vs. whole (items_view vs)) (drop_of_length-le items past) ∙ empty)) ∙ told
