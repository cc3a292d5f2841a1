-- A list has one order by a total order in which no two elements tie.
use Rattle.std.proofs.Common.{◌≡◌, ℕ, suc, ◌+◌, Bool, true, false, cond, List, [], ◌∷◌, refl, sym, ap, ◌∙◌, subst, arith}
use Rattle.std.specs.Cmp.{IsTotalOrder}
use Rattle.std.specs.List.{slice_index_or, sum_by}
use Rattle.std.specs.List.Sorted.{IsPermutation, IsSorted}
use Rattle.std.specs.Ordering.{is_lt, is_gt, ordering_reverse}
use Rattle.std.specs.declared.cmp.Ordering.{Ordering}
use Rattle.std.specs.declared.cmp.Ordering.TheVariants.{Less, Equal, Greater}
use Rattle.std.proofs.lemmas.Cmp.{tied_itself, upto}
use Rattle.std.proofs.lemmas.List.Sorted.{sum_by-IsPermutation}
use Rattle.std.proofs.lemmas.List.Sums.{sum_by-cons}

-- 1 where y is less than x
abbrev below : {X : Type 0} → (X → X → Ordering) → X → X → ℕ
below R x y = cond (is_lt (R y x)) 1 0

pub reversed_gt : (a b : Ordering) → a ≡ ordering_reverse b → is_lt a ≡ false → is_gt b ≡ false
reversed_gt a Less same not_less = refl
reversed_gt a Equal same not_less = refl
reversed_gt a Greater same not_less = let less : a ≡ Less = same in cc

reversed_lt : (a b : Ordering) → a ≡ ordering_reverse b → is_gt b ≡ false → is_lt a ≡ false
reversed_lt a Less same not_greater = ap is_lt same
reversed_lt a Equal same not_greater = ap is_lt same
reversed_lt a Greater same not_greater = cc

equal_of_both : (a b : Ordering) → a ≡ ordering_reverse b → is_lt a ≡ false → is_lt b ≡ false → a ≡ Equal
equal_of_both a Less same one two = cc
equal_of_both a Equal same one two = same
equal_of_both a Greater same one two = let less : a ≡ Less = same in cc

pub sorted_tail : {X : Type 0} (R : X → X → Ordering) (x : X) (xs : List X) → IsSorted R (x ∷ xs) → IsSorted R xs
sorted_tail R x xs sorted = λ k d low high. subst (λ n. is_lt (R (slice_index_or (x ∷ xs) n d) (slice_index_or xs k d)) ≡ false) (next k) (sorted (suc k) d (omega arith) (omega (arith, high)))
  where
    next : (k : ℕ) → suc k + 1 ≡ suc (k + 1)
    next k = omega arith

-- nothing in a sorted list is less than what is no greater than its first element
none_below : {X : Type 0} {R : X → X → Ordering} → IsTotalOrder R → (y x : X) (xs : List X) → is_gt (R y x) ≡ false → IsSorted R (x ∷ xs) → sum_by (below R y) (x ∷ xs) ≡ 0
none_below {R = R} total y x [] above sorted =
    let first : is_lt (R x y) ≡ false = reversed_lt (R x y) (R y x) (total.antisymm x y) above in
    sum_by-cons (below R y) x [] ∙ ap (λ b. cond b 1 0 + 0) first
none_below {R = R} total y x (z ∷ zs) above sorted =
    let first : is_lt (R x y) ≡ false = reversed_lt (R x y) (R y x) (total.antisymm x y) above in
    let next : is_gt (R x z) ≡ false = reversed_gt (R z x) (R x z) (total.antisymm z x) (sorted 0 x (omega arith) (omega arith)) in
    let more = none_below total y z zs (upto total y x z above next) (sorted_tail R x (z ∷ zs) sorted) in
    sum_by-cons (below R y) x (z ∷ zs) ∙ rw (first, more) refl

-- the first of one sorted list is not less than the first of another, where both have the same elements
not_less : {X : Type 0} {R : X → X → Ordering} → IsTotalOrder R → (x y : X) (xs ys : List X) → IsSorted R (x ∷ xs) → sum_by (below R x) (x ∷ xs) ≡ sum_by (below R x) (y ∷ ys) → is_lt (R y x) ≡ false
not_less {R = R} total x y xs ys sorted same =
    let itself : is_gt (R x x) ≡ false = ap is_gt (tied_itself total x) in
    let none = none_below total x x xs itself sorted in
    let first = sum_by-cons (below R x) y ys in
    by (is_lt (R y x)) refl (omega (arith, none, same, first))
  where
    by : (b : Bool) → is_lt (R y x) ≡ b → below R x y ≡ 0 → is_lt (R y x) ≡ false
    by false is zero = is
    by true is zero = let one : below R x y ≡ 1 = ap (λ b. cond b 1 0) is in absurd (omega (arith, one, zero))

same_order : {X : Type 0} {R : X → X → Ordering} → IsTotalOrder R → ((x y : X) → R x y ≡ Equal → x ≡ y) → (xs ys : List X) → IsSorted R xs → IsSorted R ys → ((f : X → ℕ) → sum_by f xs ≡ sum_by f ys) → xs ≡ ys
same_order total apart [] [] one two same = refl
same_order total apart [] (y ∷ ys) one two same = let none = same (λ _. 1) in let some = sum_by-cons (λ _. 1) y ys in absurd (omega (arith, none, some))
same_order total apart (x ∷ xs) [] one two same = let none = same (λ _. 1) in let some = sum_by-cons (λ _. 1) x xs in absurd (omega (arith, none, some))
same_order {R = R} total apart (x ∷ xs) (y ∷ ys) one two same =
    let first = not_less total x y xs ys one (same (below R x)) in
    let second = not_less total y x ys xs two (sym (same (below R y))) in
    let head : x ≡ y = apart x y (equal_of_both (R x y) (R y x) (total.antisymm x y) second first) in
    let tail : xs ≡ ys = same_order total apart xs ys (sorted_tail R x xs one) (sorted_tail R y ys two) (λ f. rest f head) in
    cc (head, tail)
  where
    rest : (f : _) → x ≡ y → sum_by f xs ≡ sum_by f ys
    rest f head = let whole = same f in let left = sum_by-cons f x xs in let right = sum_by-cons f y ys in let equal = ap f head in omega (arith, whole, left, right, equal)

-- two sorted lists with the same elements are the same
pub one_order : {X : Type 0} {R : X → X → Ordering} → IsTotalOrder R → ((x y : X) → R x y ≡ Equal → x ≡ y) → (zs xs ys : List X) → IsPermutation zs xs → IsSorted R xs → IsPermutation zs ys → IsSorted R ys → xs ≡ ys
one_order total apart zs xs ys one xs_sorted two ys_sorted = same_order total apart xs ys xs_sorted ys_sorted (λ f. sum_by-IsPermutation f zs xs one ∙ sym (sum_by-IsPermutation f zs ys two))
