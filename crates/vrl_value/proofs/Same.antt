-- Arrays that are equal part by part.
use Rattle.std.proofs.Common.{◌≡◌, ℕ, suc, ◌+◌, ◌<◌, ◌≤◌, ◌↔◌, IsTrue, false, true≢false, nat_eq, eqb-true, eq-eqb, List, [], ◌∷◌, length, get_or, drop, refl, sym, ap, ◌∙◌, arith}
use Rattle.std.proofs.lemmas.List.{drop_all}
use Rattle.vrl_value.specs.View.{items_of, items_view, tree_of}
use Rattle.vrl_value.specs.declared.value.Value.{Value}
use Rattle.vrl_value.specs.declared.value.Items.{Items, out-Items}
use Rattle.vrl_value.proofs.Copies.{items_of-out, items_from}

same_length : (a b : List Value) → items_view a ≡ items_view b → length a ≡ length b
same_length [] [] e = refl
same_length [] (y ∷ b) e = absurd cc
same_length (x ∷ a) [] e = absurd cc
same_length (x ∷ a) (y ∷ b) e = let rest : items_view a ≡ items_view b = cc in ap suc (same_length a b rest)

-- at the end of the first, they are equal where the other ends too
pub same_end : (a b : List Value) (i m n : ℕ) → length a ≤ i → i ≤ length a → m ≡ length a → n ≡ length b
    → (items_view (drop i a) ≡ items_view (drop i b)) ↔ (items_view a ≡ items_view b) → IsTrue (nat_eq m n) ↔ (items_view a ≡ items_view b)
same_end a b i m n low high first second rest = (
  λ e. rest.0 (let same = eqb-true m n e in rw (drop_all i a low, drop_all i b (omega arith))),
  λ e. eq-eqb m n (omega (arith, same_length a b e)),
)

-- behind two parts that are equal
pub same_behind : (a b : List Value) (i : ℕ) (v w : Value) → i < length a → v ≡ get_or a i v → i < length b → w ≡ get_or b i w → tree_of v ≡ tree_of w
    → (items_view (drop i a) ≡ items_view (drop i b)) ↔ (items_view a ≡ items_view b) → (items_view (drop (i + 1) a) ≡ items_view (drop (i + 1) b)) ↔ (items_view a ≡ items_view b)
same_behind a b i v w first_here first second_here second same rest =
    let first_from = items_from a i v first_here first in
    let second_from = items_from b i w second_here second in
    (λ e. rest.0 cc, λ e. let whole = rest.1 e in cc)

-- at two parts that are not
pub other_part : (a b : List Value) (i : ℕ) (v w : Value) → i < length a → v ≡ get_or a i v → i < length b → w ≡ get_or b i w → (tree_of v ≡ tree_of w → ⊥)
    → (items_view (drop i a) ≡ items_view (drop i b)) ↔ (items_view a ≡ items_view b) → items_view a ≡ items_view b → ⊥
other_part a b i v w first_here first second_here second other rest e =
    let first_from = items_from a i v first_here first in
    let second_from = items_from b i w second_here second in
    let whole = rest.1 e in
    other cc

-- and where only the second ends
pub other_end : (a b : List Value) (i : ℕ) → i < length a → length b ≤ i → items_view a ≡ items_view b → ⊥
other_end a b i here end e = omega (arith, same_length a b e)

pub not_same : (a b : Items) → (items_view (out-Items a).items.items ≡ items_view (out-Items b).items.items → ⊥) → IsTrue false ↔ (items_of a ≡ items_of b)
not_same a b other = (λ no. absurd (true≢false (sym no)), λ e. absurd (other (items_of-out a ∙ e ∙ sym (items_of-out b))))
