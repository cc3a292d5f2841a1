-- What a store keeps where a variable gets a value.
use Rattle.std.proofs.Common.{◌≡◌, ◌⊎◌, inl, inr, ℕ, zero, suc, ◌<◌, ◌==◌, Bool, true, false, ◌||◌, ◌&&◌, List, [], ◌∷◌, ◌++◌, length, set, Option, Some, refl, sym, ap, ◌∙◌, subst, arith}
use Rattle.std.proofs.lemmas.Bool.{and_parts, or_from, or_left, or_right}
use Rattle.std.proofs.lemmas.List.Folds.{list_any-append}
use Rattle.std.specs.Cmp.{unsigned_Decides}
use Rattle.std.specs.List.{list_any}
use Rattle.vrl_value.specs.Tree.{Tree}
use Rattle.vrl_value.specs.View.{tree_of}
use Rattle.vrl_value.specs.declared.value.Value.{Value}
use Rattle.vrl_store.specs.Kept.{is_numbered, trees_of, AreCounted, AreKept, ArePresent, AreShallow, IsShallow}
use Rattle.vrl_store.proofs.StoreReads.{length_map, map_set}

-- ---- which variables are there

stays : (vs : List (Option Tree)) (n i : ℕ) (v : Tree) → is_numbered vs i ≡ true → is_numbered (set vs n (Some v)) i ≡ true
stays [] n i v is = is
stays (w ∷ vs) zero zero v is = refl
stays (w ∷ vs) zero (suc i) v is = is
stays (w ∷ vs) (suc n) zero v is = is
stays (w ∷ vs) (suc n) (suc i) v is = stays vs n i v is

here : (vs : List (Option Tree)) (n : ℕ) (v : Tree) → n < length vs → is_numbered (set vs n (Some v)) n ≡ true
here [] n v within = absurd (omega arith)
here (w ∷ vs) zero v within = refl
here (w ∷ vs) (suc n) v within = here vs n v (omega arith)

before : (vs : List (Option Tree)) (n i : ℕ) (v : Tree) → is_numbered (set vs n (Some v)) i ≡ true → (n ≡ i) ⊎ (is_numbered vs i ≡ true)
before [] n i v is = inr is
before (w ∷ vs) zero zero v is = inl refl
before (w ∷ vs) zero (suc i) v is = inr is
before (w ∷ vs) (suc n) zero v is = inr is
before (w ∷ vs) (suc n) (suc i) v is = elim (before vs n i v is) [ inl one ↦ inl (ap suc one) | inr was ↦ inr was ]

-- ---- a variable that was there

present_set : (vs : List (Option Tree)) (n : ℕ) (v : Tree) (ps : List ℕ) → ArePresent vs ps → ArePresent (set vs n (Some v)) ps
present_set vs n v [] are = tt
present_set vs n v (p ∷ ps) are = (stays vs n p v are.0, (are.1.0, present_set vs n v ps are.1.1))

counted_set : (vs : List (Option Tree)) (n : ℕ) (v : Tree) (ps : List ℕ) → is_numbered vs n ≡ true → AreCounted vs ps → AreCounted (set vs n (Some v)) ps
counted_set vs n v ps was counted = λ i is. elim (before vs n i v is) [
  | inl one ↦ counted i (subst (λ k. is_numbered vs k ≡ true) one was)
  | inr old ↦ counted i old
]

-- ---- one that wasn't

pub itself : (n : ℕ) → (n == n) ≡ true
itself n = (unsigned_Decides n n).1 refl

among_more : (ps : List ℕ) (n i : ℕ) → list_any (λ m. m == i) (ps ++ n ∷ []) ≡ (list_any (λ m. m == i) ps || ((n == i) || false))
among_more ps n i = list_any-append (λ m. m == i) ps (n ∷ [])

counted_more : (vs : List (Option Tree)) (n : ℕ) (v : Tree) (ps : List ℕ) → AreCounted vs ps → AreCounted (set vs n (Some v)) (ps ++ n ∷ [])
counted_more vs n v ps counted = λ i is. elim (before vs n i v is) [
  | inl one ↦ among_more ps n i ∙ or_right (list_any (λ m. m == i) ps) _ (or_left (n == i) false (subst (λ k. (n == k) ≡ true) one (itself n)))
  | inr old ↦ among_more ps n i ∙ or_left _ _ (counted i old)
]

other : (vs : List (Option Tree)) (n p : ℕ) (b : Bool) → (n == p) ≡ b → is_numbered vs n ≡ false → is_numbered vs p ≡ true → (n == p) ≡ false
other vs n p true is none there = let one : n ≡ p = (unsigned_Decides n p).0 is in let wrong : false ≡ true = sym none ∙ ap (is_numbered vs) one ∙ there in absurd (cc)
other vs n p false is none there = is

present_more : (vs : List (Option Tree)) (n : ℕ) (v : Tree) (ps : List ℕ) → n < length vs → is_numbered vs n ≡ false → ArePresent vs ps → ArePresent (set vs n (Some v)) (ps ++ n ∷ [])
present_more vs n v [] within none are = (here vs n v within, (refl, tt))
present_more vs n v (p ∷ ps) within none are = (
  stays vs n p v are.0,
  (
    among_more ps n p ∙ or_from (list_any (λ m. m == p) ps) _ are.1.0 (or_from (n == p) false (other vs n p (n == p) refl none are.0) refl),
    present_more vs n v ps within none are.1.1,
  ),
)

-- ---- depth

shallow_set : (vs : List (Option Tree)) (n : ℕ) (v : Tree) → AreShallow vs → IsShallow v → AreShallow (set vs n (Some v))
shallow_set [] n v are is = tt
shallow_set (w ∷ vs) zero v are is = (is, are.1)
shallow_set (w ∷ vs) (suc n) v are is = (are.0, shallow_set vs n v are.1 is)

-- ---- the whole

-- what is marked so where both are
pub both_marked : (a b c : Bool) → c ≡ (a && b) → c ≡ true → (a ≡ true) × (b ≡ true)
both_marked a b c both is = let parts = and_parts a b (sym both ∙ is) in (parts.0, parts.1)

-- a variable that was there gets another value; where they are marked as shallow then, they were before
pub kept_set : (before after : Bool) (items : List (Option Value)) (ps : List ℕ) (n : ℕ) (v : Value) → (after ≡ true → before ≡ true) → AreKept before (trees_of items) ps
    → is_numbered (trees_of items) n ≡ true → (after ≡ true → IsShallow (tree_of v)) → AreKept after (trees_of (set items n (Some v))) ps
kept_set before after items ps n v marked kept there shallow =
    let vs = trees_of items in
    subst (λ ws. AreKept after ws ps) (sym (map_set items n (Some v))) (record {
      present = present_set vs n (tree_of v) ps kept.present;
      counted = counted_set vs n (tree_of v) ps there kept.counted;
      shallow = λ is. shallow_set vs n (tree_of v) (kept.shallow (marked is)) (shallow is);
    })

-- a variable that wasn't there gets a value
pub kept_more : (before after : Bool) (items : List (Option Value)) (ps : List ℕ) (n : ℕ) (v : Value) → (after ≡ true → before ≡ true) → AreKept before (trees_of items) ps → n < length items
    → is_numbered (trees_of items) n ≡ false → (after ≡ true → IsShallow (tree_of v)) → AreKept after (trees_of (set items n (Some v))) (ps ++ n ∷ [])
kept_more before after items ps n v marked kept within none shallow =
    let vs = trees_of items in
    let as_many = length_map items in
    subst (λ ws. AreKept after ws (ps ++ n ∷ [])) (sym (map_set items n (Some v))) (record {
      present = present_more vs n (tree_of v) ps (omega arith) none kept.present;
      counted = counted_more vs n (tree_of v) ps kept.counted;
      shallow = λ is. shallow_set vs n (tree_of v) (kept.shallow (marked is)) (shallow is);
    })
