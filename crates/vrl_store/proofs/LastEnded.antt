-- What a store keeps where the variable that came last ends.
use Rattle.std.proofs.Common.{◌≡◌, ℕ, zero, suc, ◌<◌, ◌==◌, Bool, true, false, ◌||◌, List, [], ◌∷◌, ◌++◌, length, set, Option, None, is_some, refl, sym, ap, ◌∙◌, subst}
use Rattle.std.proofs.lemmas.Bool.{or_parts, or_right}
use Rattle.std.proofs.lemmas.List.Folds.{list_any-append}
use Rattle.std.specs.Cmp.{unsigned_Decides}
use Rattle.vrl_value.specs.Tree.{Tree}
use Rattle.vrl_value.specs.declared.value.Value.{Value}
use Rattle.vrl_store.specs.Kept.{is_numbered, is_one_of, trees_of, AreCounted, AreKept, ArePresent, AreShallow}
use Rattle.vrl_store.specs.StoreView.{Stay}
use Rattle.vrl_store.proofs.Kept.{itself}
use Rattle.vrl_store.proofs.Left.{numbered_within, present_numbered}
use Rattle.vrl_store.proofs.StoreReads.{map_set}
use Rattle.vrl_store.proofs.Variables.{found_at}

-- ---- the last of numbers

behind : (ps : List ℕ) (n i : ℕ) → is_one_of i (ps ++ n ∷ []) ≡ (is_one_of i ps || ((n == i) || false))
behind ps n i = list_any-append (λ m. m == i) ps (n ∷ [])

or_none : (b : Bool) → (b || false) ≡ b
or_none true = refl
or_none false = refl

first_one : (a b : Bool) → (a || b) ≡ true → b ≡ false → a ≡ true
first_one true b is none = refl
first_one false b is none = let wrong : false ≡ true = sym none ∙ is in absurd (cc)

last_one : (ps : List ℕ) (n : ℕ) → is_one_of n (ps ++ n ∷ []) ≡ true
last_one ps n = behind ps n n ∙ or_right (is_one_of n ps) _ (or_none (n == n) ∙ itself n)

pub last_within : (vs : List (Option Tree)) (ps : List ℕ) (n : ℕ) → ArePresent vs (ps ++ n ∷ []) → n < length vs
last_within vs ps n are = numbered_within vs n (present_numbered vs n (ps ++ n ∷ []) are (last_one ps n))

-- no number before it is equal to it
apart_last : (vs : List (Option Tree)) (ps : List ℕ) (n i : ℕ) → ArePresent vs (ps ++ n ∷ []) → is_one_of i ps ≡ true → (n == i) ≡ false
apart_last vs [] n i are is = absurd (cc)
apart_last vs (p ∷ ps) n i are is = chosen (p == i) refl is (λ here. apart_last vs ps n i are.1.1 here) where
  chosen : (b : Bool) → (p == i) ≡ b → (b || is_one_of i ps) ≡ true → (is_one_of i ps ≡ true → (n == i) ≡ false) → (n == i) ≡ false
  chosen true one here others =
      let last = (or_parts (is_one_of p ps) _ (sym (behind ps n p) ∙ are.1.0)).1 in
      subst (λ k. (n == k) ≡ false) ((unsigned_Decides p i).0 one) (or_parts (n == p) false last).0
  chosen false one here others = others here

-- ---- a variable that ends

other_found : (vs : List (Option Tree)) (n i : ℕ) → (n == i) ≡ false → found_at (set vs n None) i ≡ found_at vs i
other_found [] n i other = refl
other_found (v ∷ vs) zero zero other = let wrong : true ≡ false = sym (itself zero) ∙ other in absurd (cc)
other_found (v ∷ vs) zero (suc i) other = refl
other_found (v ∷ vs) (suc n) zero other = refl
other_found (v ∷ vs) (suc n) (suc i) other = other_found vs n i (apart other) where
  apart : (suc n == suc i) ≡ false → (n == i) ≡ false
  apart is = chosen (n == i) refl where
    chosen : (b : Bool) → (n == i) ≡ b → b ≡ false
    chosen true one = sym ((unsigned_Decides (suc n) (suc i)).1 (ap suc ((unsigned_Decides n i).0 one))) ∙ is
    chosen false one = refl

none_there : (vs : List (Option Tree)) (n : ℕ) → is_numbered (set vs n None) n ≡ false
none_there [] n = refl
none_there (v ∷ vs) zero = refl
none_there (v ∷ vs) (suc n) = none_there vs n

stays_numbered : (vs : List (Option Tree)) (n i : ℕ) → (n == i) ≡ false → is_numbered (set vs n None) i ≡ is_numbered vs i
stays_numbered vs n i other = ap is_some (other_found vs n i other)

pub stay_ended : (vs : List (Option Tree)) (ps : List ℕ) (n : ℕ) → ArePresent vs (ps ++ n ∷ []) → Stay vs (set vs n None) ps
stay_ended vs ps n are = λ i is. other_found vs n i (apart_last vs ps n i are is)

present_ended : (vs : List (Option Tree)) (ps : List ℕ) (n : ℕ) → ArePresent vs (ps ++ n ∷ []) → ArePresent (set vs n None) ps
present_ended vs [] n are = tt
present_ended vs (p ∷ ps) n are =
    let others = or_parts (is_one_of p ps) _ (sym (behind ps n p) ∙ are.1.0) in
    let other = (or_parts (n == p) false others.1).0 in
    (stays_numbered vs n p other ∙ are.0, (others.0, present_ended vs ps n are.1.1))

counted_ended : (vs : List (Option Tree)) (ps : List ℕ) (n : ℕ) → AreCounted vs (ps ++ n ∷ []) → AreCounted (set vs n None) ps
counted_ended vs ps n counted = λ i is. chosen i is (n == i) refl where
  chosen : (i : ℕ) → is_numbered (set vs n None) i ≡ true → (b : Bool) → (n == i) ≡ b → is_one_of i ps ≡ true
  chosen i is true one =
      let none : is_numbered (set vs n None) i ≡ false = subst (λ k. is_numbered (set vs n None) k ≡ false) ((unsigned_Decides n i).0 one) (none_there vs n) in
      let wrong : false ≡ true = sym none ∙ is in absurd (cc)
  chosen i is false one = first_one (is_one_of i ps) _ (sym (behind ps n i) ∙ counted i (sym (stays_numbered vs n i one) ∙ is)) (or_none (n == i) ∙ one)

shallow_ended : (vs : List (Option Tree)) (n : ℕ) → AreShallow vs → AreShallow (set vs n None)
shallow_ended [] n are = tt
shallow_ended (v ∷ vs) zero are = (tt, are.1)
shallow_ended (v ∷ vs) (suc n) are = (are.0, shallow_ended vs n are.1)

pub kept_ended : (shallow : Bool) (items : List (Option Value)) (ps : List ℕ) (n : ℕ) → AreKept shallow (trees_of items) (ps ++ n ∷ []) → AreKept shallow (trees_of (set items n None)) ps
kept_ended shallow items ps n kept =
    let vs = trees_of items in
    subst (λ ws. AreKept shallow ws ps) (sym (map_set items n None)) (record {
      present = present_ended vs ps n kept.present;
      counted = counted_ended vs ps n kept.counted;
      shallow = λ is. shallow_ended vs n (kept.shallow is);
    })
