-- The counts of the stretches that go on at a place are those of a stack that goes along the tokens.
use Rattle.std.proofs.Common.{arith, ◌≡◌, refl, ap, ◌∙◌, ℕ, suc, ◌+◌, ◌<◌, ◌≤◌, ◌==◌, inl, inr, Bool, true, false, ◌&&◌, ◌||◌, if◌then◌else◌, List, [], ◌∷◌, length, map}
use Rattle.std.proofs.lemmas.Bool.Decides.{eqb_tells}
use Rattle.vrl_token.specs.Brackets.{closes}
use Rattle.vrl_token.specs.Nesting.{count_in, is_counted, is_innermost, last_nesting, nesting_in, opens, own_nesting, parts, stretches_behind, with_innermost, without_innermost}
use Rattle.vrl_token.specs.declared.token.Token.{Token}
use Rattle.vrl_token.specs.declared.token.Token.TheVariants as token
use Rattle.vrl_format.proofs.Joining.{behind_all}
use Rattle.vrl_format.proofs.Deepest.{deepest, finish, maxed, move, move_by, moved, nest, totals}
use Rattle.vrl_format.proofs.Worst.{depth, most}

-- ---- what a token does to the stretches

abbrev from_by : Bool → Bool → Bool → ℕ → List ℕ → List ℕ
from_by o c p n rs = if o then n ∷ rs else if c then without_innermost rs else if p then with_innermost n rs else rs

-- the token is counted, and does something to the stretches
abbrev clash : Bool → Bool → Bool → Bool → Bool
clash o c p k = k && (o || (c || p))

no_clash : (t : Token) → clash (opens t) (closes t) (parts t) (is_counted t) ≡ false
no_clash token.Separator = refl
no_clash t = refl

-- ---- stretches in order

-- each begins before the one that it holds, and all begin before this place
abbrev Ordered : ℕ → List ℕ → Type 0
Ordered n [] = Unit {0}
Ordered n (s ∷ rs) = (s < n) × Ordered s rs

ordered_up : (m n : ℕ) (rs : List ℕ) → m ≤ n → Ordered m rs → Ordered n rs
ordered_up m n [] up h = tt
ordered_up m n (s ∷ rs) up h = let here = h.0 in (omega arith, h.1)

ordered_by : (o c p : Bool) (n : ℕ) (rs : List ℕ) → Ordered n rs → Ordered (suc n) (from_by o c p n rs)
ordered_by true c p n rs h = (omega arith, h)
ordered_by false true p n [] h = tt
ordered_by false true p n (s ∷ []) h = ordered_up n (suc n) (s ∷ []) (omega arith) h
ordered_by false true p n (s ∷ r ∷ rs) h = let outer = h.0 in let inner = h.1.0 in (omega arith, h.1.1)
ordered_by false false true n [] h = tt
ordered_by false false true n (s ∷ rs) h = let here = h.0 in (omega arith, ordered_up s n rs (omega arith) h.1)
ordered_by false false false n rs h = ordered_up n (suc n) rs (omega arith) h

ordered : (ts : List Token) → Ordered (suc (length ts)) (stretches_behind ts)
ordered [] = (omega arith, tt)
ordered (t ∷ ts) = ordered_by (opens t) (closes t) (parts t) (suc (length ts)) (stretches_behind ts) (ordered ts)

-- ---- stretches that have ended

abbrev Without : ℕ → List ℕ → Type 0
Without s [] = Unit {0}
Without s (r ∷ rs) = ((s == r) ≡ false) × Without s rs

unequal : (s r : ℕ) → ¬ (s ≡ r) → (s == r) ≡ false
unequal s r differ = elim (eqb_tells s r) [ inl same ↦ absurd (differ same.1) | inr other ↦ other.0 ]

equal : (s : ℕ) → (s == s) ≡ true
equal s = elim (eqb_tells s s) [ inl same ↦ same.0 | inr other ↦ absurd (other.1 refl) ]

above : (s r : ℕ) → r < s → (s == r) ≡ false
above s r lower = unequal s r (λ same. omega arith)

below : (s r : ℕ) → s < r → (s == r) ≡ false
below s r lower = unequal s r (λ same. omega arith)

without_ordered : (s : ℕ) (rs : List ℕ) → Ordered s rs → Without s rs
without_ordered s [] h = tt
without_ordered s (r ∷ rs) h = let here = h.0 in (above s r here, without_ordered s rs (ordered_up r s rs (omega arith) h.1))

without_by : (o c p : Bool) (n s : ℕ) (rs : List ℕ) → s < n → Without s rs → Without s (from_by o c p n rs)
without_by true c p n s rs early h = (below s n early, h)
without_by false true p n s [] early h = tt
without_by false true p n s (r ∷ []) early h = h
without_by false true p n s (r ∷ q ∷ rs) early h = h.1
without_by false false true n s [] early h = tt
without_by false false true n s (r ∷ rs) early h = (below s n early, h.1)
without_by false false false n s rs early h = h

not_innermost : (s : ℕ) (rs : List ℕ) → Without s rs → is_innermost s rs ≡ false
not_innermost s [] h = refl
not_innermost s (r ∷ rs) h = h.0

abbrev one_if : Bool → ℕ
one_if b = if b then 1 else 0

one_none : (k b : Bool) → b ≡ false → one_if (k && b) ≡ 0
one_none true b fails = ap one_if fails
one_none false b fails = refl

passed_over : (t : Token) (s : ℕ) (ts : List Token) → Without s (stretches_behind ts) → count_in s (t ∷ ts) ≡ count_in s ts
passed_over t s ts ended =
    let none = one_none (is_counted t) (is_innermost s (stretches_behind ts)) (not_innermost s (stretches_behind ts) ended) in omega arith

-- a stretch that begins later has no tokens
fresh : (s : ℕ) (ts : List Token) → length ts < s → count_in s ts ≡ 0
fresh s [] later = refl
fresh s (t ∷ ts) later =
    passed_over t s ts (without_ordered s (stretches_behind ts) (ordered_up (suc (length ts)) s (stretches_behind ts) (omega arith) (ordered ts))) ∙ fresh s ts (omega arith)

-- one that has ended gets no more
ended_count : (s : ℕ) (before ts : List Token) → s < suc (length before) → Without s (stretches_behind before) → count_in s (behind_all before ts) ≡ count_in s before
ended_count s before [] early ended = refl
ended_count s before (t ∷ ts) early ended =
    ended_count s (t ∷ before) ts (omega arith) (without_by (opens t) (closes t) (parts t) (suc (length before)) s (stretches_behind before) early ended) ∙ passed_over t s before ended

-- ---- counts so far

abbrev pub stack : List Token → List ℕ
stack before = map (λ s. count_in s before) (stretches_behind before)

cons_same : {a b : ℕ} {as_ bs : List ℕ} → a ≡ b → as_ ≡ bs → a ∷ as_ ≡ b ∷ bs
cons_same {b = b} {as_ = as_} p q = ap (λ (n : ℕ). n ∷ as_) p ∙ ap (λ (l : List ℕ). b ∷ l) q

plain_counts : (C : ℕ → ℕ) (rs : List ℕ) → map (λ s. 0 + C s) rs ≡ map C rs
plain_counts C [] = refl
plain_counts C (s ∷ rs) = let here : 0 + C s ≡ C s = omega arith in cons_same here (plain_counts C rs)

other_counts : (C : ℕ → ℕ) (s : ℕ) (rs : List ℕ) → Ordered s rs → map (λ r. (if r == s then 1 else 0) + C r) rs ≡ map C rs
other_counts C s [] h = refl
other_counts C s (r ∷ rs) h =
    let here = h.0 in
    let none : one_if (r == s) ≡ 0 = ap one_if (below r s here) in
    let same : one_if (r == s) + C r ≡ C r = omega arith in
    cons_same same (other_counts C s rs (ordered_up r s rs (omega arith) h.1))

one_more : (C : ℕ → ℕ) (s : ℕ) → (if s == s then 1 else 0) + C s ≡ suc (C s)
one_more C s = let yes : one_if (s == s) ≡ 1 = ap one_if (equal s) in omega arith

begun : (a : ℕ) → a ≡ 0 → 0 + a ≡ 0
begun a zero_is = omega arith

stack_by : (o c p k : Bool) (n : ℕ) (rs : List ℕ) (C : ℕ → ℕ) → clash o c p k ≡ false → C n ≡ 0 → Ordered n rs
    → map (λ s. (if k && is_innermost s rs then 1 else 0) + C s) (from_by o c p n rs) ≡ moved (move_by o c p k) (map C rs)
stack_by true c p true n rs C e none h = let nothing : ⊥ = cc in absurd nothing
stack_by true c p false n rs C e none h = cons_same (begun (C n) none) (plain_counts C rs)
stack_by false true p true n rs C e none h = let nothing : ⊥ = cc in absurd nothing
stack_by false true p false n [] C e none h = refl
stack_by false true p false n (s ∷ []) C e none h = plain_counts C (s ∷ [])
stack_by false true p false n (s ∷ r ∷ rs) C e none h = plain_counts C (r ∷ rs)
stack_by false false true true n rs C e none h = let nothing : ⊥ = cc in absurd nothing
stack_by false false true false n [] C e none h = refl
stack_by false false true false n (s ∷ rs) C e none h = cons_same (begun (C n) none) (plain_counts C rs)
stack_by false false false true n [] C e none h = refl
stack_by false false false true n (s ∷ rs) C e none h = cons_same (one_more C s) (other_counts C s rs h.1)
stack_by false false false false n rs C e none h = plain_counts C rs

stack_more : (t : Token) (before : List Token) → stack (t ∷ before) ≡ moved (move t) (stack before)
stack_more t before = stack_by (opens t) (closes t) (parts t) (is_counted t) (suc (length before)) (stretches_behind before) (λ s. count_in s before)
    (no_clash t) (fresh (suc (length before)) before (omega arith)) (ordered before)

-- ---- whole counts

totals_by : (o c p k : Bool) (n : ℕ) (rs : List ℕ) (F C : ℕ → ℕ) → clash o c p k ≡ false → Ordered n rs
    → ((s : ℕ) → s < n → Without s (from_by o c p n rs) → F s ≡ (if k && is_innermost s rs then 1 else 0) + C s)
    → map F rs ≡ totals (move_by o c p k) (map C rs) (map F (from_by o c p n rs))
totals_by true c p k n rs F C e h ended = refl
totals_by false true p true n rs F C e h ended = let nothing : ⊥ = cc in absurd nothing
totals_by false true p false n [] F C e h ended = refl
totals_by false true p false n (s ∷ []) F C e h ended = refl
totals_by false true p false n (s ∷ r ∷ rs) F C e h ended =
    let last : F s ≡ 0 + C s = ended s h.0 (without_ordered s (r ∷ rs) h.1) in
    let same : F s ≡ C s = omega arith in
    ap (λ (m : ℕ). m ∷ map F (r ∷ rs)) same
totals_by false false true true n rs F C e h ended = let nothing : ⊥ = cc in absurd nothing
totals_by false false true false n [] F C e h ended = refl
totals_by false false true false n (s ∷ rs) F C e h ended =
    let last : F s ≡ 0 + C s = ended s h.0 (below s n h.0, without_ordered s rs h.1) in
    let same : F s ≡ C s = omega arith in
    ap (λ (m : ℕ). m ∷ map F rs) same
totals_by false false false true n rs F C e h ended = refl
totals_by false false false false n rs F C e h ended = refl

totals_are : (before ts : List Token) → map (λ s. count_in s (behind_all before ts)) (stretches_behind before) ≡ finish (stack before) ts
totals_are before [] = refl
totals_are before (t ∷ ts) =
    totals_by (opens t) (closes t) (parts t) (is_counted t) (suc (length before)) (stretches_behind before) (λ s. count_in s (behind_all (t ∷ before) ts)) (λ s. count_in s before)
    (no_clash t) (ordered before) (λ s early ended. ended_count s (t ∷ before) ts (omega arith) ended)
    ∙ ap (λ (l : List ℕ). totals (move t) (stack before) l) (totals_are (t ∷ before) ts ∙ ap (λ (l : List ℕ). finish l ts) (stack_more t before))

-- ---- depths

nesting_is : (all : List Token) (rs : List ℕ) → nesting_in all rs ≡ nest (map (λ s. count_in s all) rs)
nesting_is all [] = refl
nesting_is all (s ∷ []) = refl
nesting_is all (s ∷ r ∷ rs) = ap (λ (n : ℕ). count_in s all + (1 + n)) (nesting_is all (r ∷ rs))

pub deepest_is : (before ts : List Token) → most (depth (behind_all before ts)) before ts ≡ deepest (stack before) (last_nesting before) ts
deepest_is before [] = ap (λ (n : ℕ). n + last_nesting before) (nesting_is before (stretches_behind before))
deepest_is before (t ∷ ts) =
    maxed (ap (λ (n : ℕ). n + last_nesting before) (nesting_is (behind_all (t ∷ before) ts) (stretches_behind before) ∙ ap nest (totals_are before (t ∷ ts))))
    (deepest_is (t ∷ before) ts ∙ ap (λ (l : List ℕ). deepest l (own_nesting t) ts) (stack_more t before))
