-- The first of equal elements, told item by item.
use Rattle.std.proofs.Common.{◌≡◌, ◌<◌, ◌+◌, ℕ, Bool, true, false, ◌||◌, List, [], ◌∷◌, ◌++◌, drop, get_or, length, map, refl, sym, ap, ◌∙◌, append_assoc, if◌then◌else◌}
use Rattle.std.proofs.lemmas.Bool.{true≢false}
use Rattle.std.proofs.lemmas.List.{append-nil, drop_more}
use Rattle.std.specs.List.{list_any}
use Rattle.vrl_value.specs.Tree.{Tree}
use Rattle.fn_list.specs.Same.{same}
use Rattle.fn_list.specs.Seen.{is_in}
use Rattle.fn_list.specs.Unique.{firsts, without}
use Rattle.vrl_value.specs.View.{tree_of}
use Rattle.vrl_value.specs.declared.value.Value.{Value}
use Rattle.fn_list.proofs.Equality.{equality_is_told}

-- those that equal none of the first list
abbrev pub unseen : List Tree → List Tree → List Tree
unseen ks [] = []
unseen ks (t ∷ ts) = if is_in ks t then unseen ks ts else t ∷ unseen ks ts

same_value : (v w : Tree) → same v w ≡ true → v ≡ w
same_value v w is = (equality_is_told v w).0 is

-- two that are equal are in a list together
in_too : (ks : List Tree) (v w : Tree) → same w v ≡ true → is_in ks v ≡ is_in ks w
in_too ks v w is = ap (is_in ks) (sym (same_value w v is))

-- what a list has is taken out anyway
met_at : (ks : List Tree) (v t : Tree) (ts us : List Tree) (b c : Bool) → same t v ≡ b → is_in ks t ≡ c → is_in ks v ≡ true → unseen ks us ≡ unseen ks ts →
    unseen ks (if b then us else t ∷ us) ≡ (if c then unseen ks ts else t ∷ unseen ks ts)
met_at ks v t ts us true true is met in_list later = later
met_at ks v t ts us true false is met in_list later = absurd (true≢false (sym in_list ∙ in_too ks v t is ∙ met))
met_at ks v t ts us false true is met in_list later = rw met later
met_at ks v t ts us false false is met in_list later = rw met (ap (λ vs. t ∷ vs) later)

met : (ks : List Tree) (v : Tree) (ts : List Tree) → is_in ks v ≡ true → unseen ks (without v ts) ≡ unseen ks ts
met ks v [] in_list = refl
met ks v (t ∷ ts) in_list = met_at ks v t ts (without v ts) (same t v) (is_in ks t) refl refl in_list (met ks v ts in_list)

pub any_more : (f : Tree → Bool) (ks : List Tree) (k : Tree) → list_any f (ks ++ k ∷ []) ≡ (list_any f ks || f k)
any_more f [] k = or_false (f k) where
  or_false : (b : Bool) → (b || false) ≡ b
  or_false true = refl
  or_false false = refl
any_more f (l ∷ ks) k = ap (λ b. f l || b) (any_more f ks k) ∙ or_assoc (f l) (list_any f ks) (f k) where
  or_assoc : (a b c : Bool) → (a || (b || c)) ≡ ((a || b) || c)
  or_assoc true b c = refl
  or_assoc false b c = refl

turned : (v w : Tree) → same v w ≡ same w v
turned v w = by (same v w) (same w v) refl refl where
  by : (b c : Bool) → same v w ≡ b → same w v ≡ c → b ≡ c
  by true true first second = refl
  by true false first second = absurd (true≢false (sym ((equality_is_told w v).1 (sym (same_value v w first))) ∙ second))
  by false true first second = absurd (true≢false (sym ((equality_is_told v w).1 (sym (same_value w v second))) ∙ first))
  by false false first second = refl

-- and one more
new_at : (ks : List Tree) (v t : Tree) (ts us : List Tree) (b c : Bool) → same t v ≡ b → is_in ks t ≡ c → unseen ks us ≡ unseen (ks ++ v ∷ []) ts →
    unseen ks (if b then us else t ∷ us) ≡ (if is_in (ks ++ v ∷ []) t then unseen (ks ++ v ∷ []) ts else t ∷ unseen (ks ++ v ∷ []) ts)
new_at ks v t ts us true true is found later = rw (any_more (λ k. same k t) ks v, found) later
new_at ks v t ts us true false is found later = rw (any_more (λ k. same k t) ks v, found, turned v t, is) later
new_at ks v t ts us false true is found later =
    let both : is_in (ks ++ v ∷ []) t ≡ true = any_more (λ k. same k t) ks v ∙ ap (λ b. b || same v t) found in
    ap (λ b. if b then unseen ks us else t ∷ unseen ks us) found ∙ later ∙ sym (ap (λ b. if b then unseen (ks ++ v ∷ []) ts else t ∷ unseen (ks ++ v ∷ []) ts) both)
new_at ks v t ts us false false is found later =
    let none : is_in (ks ++ v ∷ []) t ≡ false = any_more (λ k. same k t) ks v ∙ ap (λ b. b || same v t) found ∙ turned v t ∙ is in
    ap (λ b. if b then unseen ks us else t ∷ unseen ks us) found ∙ ap (λ vs. t ∷ vs) later ∙ sym (ap (λ b. if b then unseen (ks ++ v ∷ []) ts else t ∷ unseen (ks ++ v ∷ []) ts) none)

new : (ks : List Tree) (v : Tree) (ts : List Tree) → unseen ks (without v ts) ≡ unseen (ks ++ v ∷ []) ts
new ks v [] = refl
new ks v (t ∷ ts) = new_at ks v t ts (without v ts) (same t v) (is_in ks t) refl refl (new ks v ts)

step_at : (b : Bool) (kept later : List Tree) (v : Tree) (ts whole : List Tree) → is_in kept v ≡ b → later ≡ (if b then kept else kept ++ v ∷ []) → kept ++ unseen kept (firsts (v ∷ ts)) ≡ whole → later ++ unseen later (firsts ts) ≡ whole
step_at true kept later v ts whole is told before = rw told (ap (λ us. kept ++ us) (sym (met kept v (firsts ts) is)) ∙ ap (λ b. kept ++ (if b then unseen kept (without v (firsts ts)) else v ∷ unseen kept (without v (firsts ts)))) (sym is) ∙ before)
step_at false kept later v ts whole is told before =
    rw told (append_assoc kept (v ∷ []) (unseen (kept ++ v ∷ []) (firsts ts)) ∙ ap (λ us. kept ++ (v ∷ us)) (sym (new kept v (firsts ts)))
    ∙ ap (λ b. kept ++ (if b then unseen kept (without v (firsts ts)) else v ∷ unseen kept (without v (firsts ts)))) (sym is) ∙ before)

pub step : (kept later : List Tree) (v : Tree) (ts whole : List Tree) → later ≡ (if is_in kept v then kept else kept ++ v ∷ []) → kept ++ unseen kept (firsts (v ∷ ts)) ≡ whole → later ++ unseen later (firsts ts) ≡ whole
step kept later v ts whole told before = step_at (is_in kept v) kept later v ts whole refl told before

all_unseen : (ts : List Tree) → unseen [] ts ≡ ts
all_unseen [] = refl
all_unseen (t ∷ ts) = ap (λ us. t ∷ us) (all_unseen ts)

pub start : (kept ts : List Tree) → kept ≡ [] → kept ++ unseen kept (firsts ts) ≡ firsts ts
start kept ts none = ap (λ ks. ks ++ unseen ks (firsts ts)) none ∙ all_unseen (firsts ts)

pub ended : (kept whole : List Tree) → kept ++ unseen kept (firsts []) ≡ whole → kept ≡ whole
ended kept whole told = sym (append-nil kept) ∙ told

-- the code's own walk
pub walked : (items kept later : List Value) (i : ℕ) (v : Value) (whole : List Tree) → i < length items → v ≡ get_or items i v →
    map tree_of later ≡ (if is_in (map tree_of kept) (tree_of v) then map tree_of kept else map tree_of kept ++ (tree_of v ∷ [])) →
    map tree_of kept ++ unseen (map tree_of kept) (firsts (map tree_of (drop i items))) ≡ whole → map tree_of later ++ unseen (map tree_of later) (firsts (map tree_of (drop (i + 1) items))) ≡ whole
walked items kept later i v whole below is told before =
    step (map tree_of kept) (map tree_of later) (tree_of v) (map tree_of (drop (i + 1) items)) whole told
    (ap (λ vs. map tree_of kept ++ unseen (map tree_of kept) (firsts (map tree_of vs))) (sym (drop_more items i v below ∙ ap (λ w. w ∷ drop (i + 1) items) (sym is))) ∙ before)
