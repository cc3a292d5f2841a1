-- A walk over a list that adds what each part has.
use Rattle.std.proofs.Common.{◌≡◌, ℕ, suc, ◌<◌, ◌≤◌, List, [], ◌∷◌, Result, OnOk, ◌++◌, length, drop, drop-cons, get_or, refl, sym, ap, ◌∙◌, append_assoc}
use Rattle.std.proofs.lemmas.List.{append-nil, at_drop_all}
use Rattle.std.proofs.lemmas.Result.{on_ok_weaker}

-- what is left from a place on is the part there, and then what is left behind it
pub drop_one : {A : Type 0} (xs : List A) (i next : ℕ) (x : A) → next ≡ suc i → i < length xs → x ≡ get_or xs i x → drop i xs ≡ x ∷ drop next xs
drop_one xs i next x n below is = drop-cons xs i x below ∙ (λ k. sym is k ∷ drop (sym n k) xs)

-- with what the rest has it is the whole, also behind one more part, which has this
pub walked_on : {A R : Type 0} (whole : List A → List R) (part : A → List R) → ((x : A) (xs : List A) → whole (x ∷ xs) ≡ part x ++ whole xs)
    → (items : List A) (i next : ℕ) (x : A) (before after all this : List R) → next ≡ suc i → i < length items → x ≡ get_or items i x
    → part x ≡ this → after ≡ before ++ this → before ++ whole (drop i items) ≡ all → after ++ whole (drop next items) ≡ all
walked_on whole part step items i next x before after all this n below is has adds so_far =
    ap (λ t. t ++ whole (drop next items)) adds ∙ append_assoc before this (whole (drop next items))
    ∙ ap (λ t. before ++ t) (ap (λ p. p ++ whole (drop next items)) (sym has) ∙ sym (ap whole (drop_one items i next x n below is) ∙ step x (drop next items))) ∙ so_far

-- the same where it is added in two steps
pub walked_twice : {A R : Type 0} (whole : List A → List R) (first second : A → List R) → ((x : A) (xs : List A) → whole (x ∷ xs) ≡ first x ++ (second x ++ whole xs))
    → (items : List A) (i next : ℕ) (x : A) (before between after all this that : List R) → next ≡ suc i → i < length items → x ≡ get_or items i x
    → first x ≡ this → second x ≡ that → between ≡ before ++ this → after ≡ between ++ that → before ++ whole (drop i items) ≡ all → after ++ whole (drop next items) ≡ all
walked_twice whole first second step items i next x before between after all this that n below is has also adds more so_far =
    walked_on whole (λ y. first y ++ second y) (λ y ys. step y ys ∙ sym (append_assoc (first y) (second y) (whole ys))) items i next x before after all (this ++ that) n below is
    (rw (has, also) refl) (more ∙ ap (λ t. t ++ that) adds ∙ append_assoc before this that) so_far

-- what a call adds behind what was added before it, where it goes well
pub added_also : {R T E : Type 0} (result : Result T E) (before between after this that whole : List R) → between ≡ before ++ this → OnOk result (after ≡ between ++ that)
    → whole ≡ this ++ that → OnOk result (after ≡ before ++ whole)
added_also result before between after this that whole adds more is =
    on_ok_weaker result (λ added. added ∙ ap (λ t. t ++ that) adds ∙ append_assoc before this that ∙ ap (λ t. before ++ t) (sym is)) more

pub added_third : {R T E : Type 0} (result : Result T E) (before between behind after this that those whole : List R) → between ≡ before ++ this → behind ≡ between ++ that
    → OnOk result (after ≡ behind ++ those) → whole ≡ this ++ (that ++ those) → OnOk result (after ≡ before ++ whole)
added_third result before between behind after this that those whole adds more last is =
    added_also result before between after this (that ++ those) whole adds (added_also result between behind after that those (that ++ those) more last refl) is

-- with none left, which has nothing, what was added is what the whole has
pub walked_through : {A R : Type 0} (whole : List A → List R) (items : List A) (i : ℕ) (before after : List R) → length items ≤ i → whole [] ≡ []
    → after ++ whole (drop i items) ≡ before ++ whole items → after ≡ before ++ whole items
walked_through whole items i before after end none so_far = sym (append-nil after) ∙ sym (ap (λ t. after ++ t) (at_drop_all whole items i end ∙ none)) ∙ so_far
