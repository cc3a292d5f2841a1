-- What a block leaves behind: the variables that were there before it.
use Rattle.std.proofs.Common.{◌≡◌, ℕ, zero, suc, ◌<◌, ◌==◌, Bool, true, false, cond, ◌||◌, List, [], ◌∷◌, ◌++◌, length, map, take, Option, Some, None, is_eq, is_some, refl, sym, ap, ◌∙◌, subst, true≢false, arith}
use Rattle.std.specs.Cmp.{unsigned_Decides}
use Rattle.std.specs.FinMap as finite
use Rattle.vrl_value.specs.Tree.{Tree}
use Rattle.vrl_syntax.specs.Stores.{store_kept}
use Rattle.vrl_store.specs.Kept.{is_numbered, is_one_of, trees_of, AreCounted, ArePresent}
use Rattle.vrl_store.specs.StoreView.{is_among, left_with, name_at, store_in, variables_of, AreDistinct, AreNames, IsFront, Names, Stay, Variables}
use Rattle.vrl_store.specs.declared.store.Store.{Store as CodeStore}
use Rattle.vrl_store.proofs.StoreReads.{length_map}
use Rattle.vrl_store.proofs.Variables.{apart_at, found_at, itself, named_so, none_among, one_map, tied, tied_swapped, variable_at}

-- ---- numbers of names

-- a name among others is the one with some number
index_of : (x : List ℕ) (names : Names) → is_among x names ≡ true → (i : ℕ) × (i < length names) × (x ≡ name_at names i)
index_of x [] is = absurd (cc)
index_of x (y ∷ names) is = chosen (tied x y) refl is (λ here. index_of x names here) where
  chosen : (b : Bool) → tied x y ≡ b → (b || is_among x names) ≡ true → (is_among x names ≡ true → (i : ℕ) × (i < length names) × (x ≡ name_at names i))
      → (i : ℕ) × (i < suc (length names)) × (x ≡ name_at (y ∷ names) i)
  chosen true one here others = (0, omega arith, named_so x y one)
  chosen false one here others = let later = others here in (suc later.0, omega arith, later.2)

same_number : (i j : ℕ) → i ≡ j → (j == i) ≡ true
same_number i j one = (unsigned_Decides j i).1 (sym one)

other_number : (i j : ℕ) (b : Bool) → (j == i) ≡ b → (i ≡ j → ⊥) → false ≡ b
other_number i j true is apart = absurd (apart (sym ((unsigned_Decides j i).0 is)))
other_number i j false is apart = refl

next_number : (i j : ℕ) → (j == i) ≡ (suc j == suc i)
next_number i j = chosen (j == i) refl where
  chosen : (b : Bool) → (j == i) ≡ b → b ≡ (suc j == suc i)
  chosen true one = sym (same_number (suc i) (suc j) (ap suc (sym ((unsigned_Decides j i).0 one))))
  chosen false one = other_number (suc i) (suc j) (suc j == suc i) refl (λ same. let equal : i ≡ j = omega arith in let wrong : true ≡ false = sym (same_number i j equal) ∙ one in true≢false wrong)

-- two names are one where their numbers are
tied_at : (names : Names) (i j : ℕ) → AreDistinct names → i < length names → j < length names → tied (name_at names i) (name_at names j) ≡ (j == i)
tied_at [] i j distinct first second = absurd (omega arith)
tied_at (x ∷ names) zero zero distinct first second = itself x
tied_at (x ∷ names) zero (suc j) distinct first second = apart_at x names j distinct.0 (omega arith) ∙ other_number zero (suc j) (suc j == zero) refl (λ one. omega arith)
tied_at (x ∷ names) (suc i) zero distinct first second = tied_swapped (name_at names i) x ∙ apart_at x names i distinct.0 (omega arith) ∙ other_number (suc i) zero (zero == suc i) refl (λ one. omega arith)
tied_at (x ∷ names) (suc i) (suc j) distinct first second = tied_at names i j distinct.1 (omega arith) (omega arith) ∙ next_number i j

-- ---- numbers that are there

pub numbered_within : (vs : List (Option Tree)) (n : ℕ) → is_numbered vs n ≡ true → n < length vs
numbered_within [] n is = absurd (cc)
numbered_within (v ∷ vs) zero is = omega arith
numbered_within (v ∷ vs) (suc n) is = let h = numbered_within vs n is in omega arith

-- a name with a number is among the names of numbers where the number is one of them
among_names : (names : Names) (vs : List (Option Tree)) (i : ℕ) (ps : List ℕ) → AreDistinct names → length vs ≡ length names → i < length names → ArePresent vs ps
    → is_among (name_at names i) (map (name_at names) ps) ≡ is_one_of i ps
among_names names vs i [] distinct as_many within are = refl
among_names names vs i (p ∷ ps) distinct as_many within are =
    let inside = numbered_within vs p are.0 in
    ap (λ b. b || is_among (name_at names i) (map (name_at names) ps)) (tied_at names i p distinct within (omega arith))
    ∙ ap (λ b. (p == i) || b) (among_names names vs i ps distinct as_many within are.1.1)

pub present_numbered : (vs : List (Option Tree)) (i : ℕ) (ps : List ℕ) → ArePresent vs ps → is_one_of i ps ≡ true → is_numbered vs i ≡ true
present_numbered vs i [] are is = absurd (cc)
present_numbered vs i (p ∷ ps) are is = chosen (p == i) refl is (λ here. present_numbered vs i ps are.1.1 here) where
  chosen : (b : Bool) → (p == i) ≡ b → (b || is_one_of i ps) ≡ true → (is_one_of i ps ≡ true → is_numbered vs i ≡ true) → is_numbered vs i ≡ true
  chosen true one here others = subst (λ n. is_numbered vs n ≡ true) ((unsigned_Decides p i).0 one) are.0
  chosen false one here others = others here

-- a variable is there where its number is one of those present
numbered_present : (vs : List (Option Tree)) (i : ℕ) (ps : List ℕ) (a b : Bool) → ArePresent vs ps → AreCounted vs ps → is_numbered vs i ≡ a → is_one_of i ps ≡ b → a ≡ b
numbered_present vs i ps true b are counted first second = sym (counted i first) ∙ second
numbered_present vs i ps false true are counted first second = sym first ∙ present_numbered vs i ps are second
numbered_present vs i ps false false are counted first second = refl

-- ---- maps of which only some names are left

pub retained : (m : Variables) (p : List ℕ → Bool) (x : List ℕ) → finite.get (finite.retain_keys m p) x ≡ cond (p x) (finite.get m x) None
retained m p x = finite.get-retain_keys m p x (λ y tie. ap p (sym (named_so x y (ap is_eq tie))))

both_none : (b : Bool) (m : Option Tree) → m ≡ None → cond b m None ≡ None
both_none true m is = is
both_none false m is = refl

-- a variable that isn't there has no value
pub not_found : (vs : List (Option Tree)) (i : ℕ) (v : Option Tree) → found_at vs i ≡ v → is_numbered vs i ≡ false → v ≡ None
not_found vs i None is none = refl
not_found vs i (Some v) is none = let wrong : true ≡ false = ap is_some (sym is) ∙ none in absurd (cc)

left_at : (vs ws : List (Option Tree)) (ps : List ℕ) (i : ℕ) (b : Bool) → ArePresent ws ps → AreCounted ws ps → Stay vs ws ps → is_one_of i ps ≡ b
    → found_at ws i ≡ cond b (found_at vs i) None
left_at vs ws ps i true are counted stay is = stay i is
left_at vs ws ps i false are counted stay is = not_found ws i (found_at ws i) refl (numbered_present ws i ps (is_numbered ws i) false are counted refl is)

-- those that are left have the names of the numbers that are
pub left_names : (names : Names) (vs ws : List (Option Tree)) (ps : List ℕ) → AreDistinct names → length vs ≡ length names → length ws ≡ length names
    → ArePresent ws ps → AreCounted ws ps → Stay vs ws ps → variables_of names ws ≡ finite.retain_keys (variables_of names vs) (λ x. is_among x (map (name_at names) ps))
left_names names vs ws ps distinct as_many left_many are counted stay = one_map _ _ (λ x. at x (is_among x names) refl ∙ sym (retained (variables_of names vs) kept x)) where
  kept : List ℕ → Bool
  kept x = is_among x (map (name_at names) ps)

  at_index : (i : ℕ) → i < length names → finite.get (variables_of names ws) (name_at names i) ≡ cond (kept (name_at names i)) (finite.get (variables_of names vs) (name_at names i)) None
  at_index i within =
      variable_at names ws i distinct within (omega arith)
      ∙ left_at vs ws ps i (is_one_of i ps) are counted stay refl
      ∙ ap (λ v. cond (is_one_of i ps) v None) (sym (variable_at names vs i distinct within (omega arith)))
      ∙ ap (λ b. cond b (finite.get (variables_of names vs) (name_at names i)) None) (sym (among_names names ws i ps distinct left_many within are))

  at : (x : List ℕ) (b : Bool) → is_among x names ≡ b → finite.get (variables_of names ws) x ≡ cond (kept x) (finite.get (variables_of names vs) x) None
  at x true is = let found = index_of x names is in subst (λ y. finite.get (variables_of names ws) y ≡ cond (kept y) (finite.get (variables_of names vs) y) None) (sym found.2) (at_index found.0 found.1)
  at x false is = none_among x names ws is ∙ sym (both_none (kept x) (finite.get (variables_of names vs) x) (none_among x names vs is))

-- ---- a block

-- behind a block only what was there before it
pub front_left : (names : Names) (before after : CodeStore) → AreNames names before
    → left_with names before.present.items (store_in names after) ≡ store_kept (store_in names before) (store_in names after)
front_left names before after store = λ i. record { event = (store_in names after).event; variables = same i } where
  vs : List (Option Tree)
  vs = trees_of before.variables.items

  ws : Variables
  ws = variables_of names (trees_of after.variables.items)

  left : List ℕ → Bool
  left x = is_among x (map (name_at names) (0 ∷ before.present.items))

  there : List ℕ → Bool
  there x = finite.contains_key (variables_of names vs) x

  at_index : (i : ℕ) → i < length names → left (name_at names i) ≡ there (name_at names i)
  at_index i within =
      let as_many = store.as_many in
      let mapped = length_map before.variables.items in
      among_names names vs i (0 ∷ before.present.items) store.distinct (omega arith) within before.kept.present
      ∙ sym (numbered_present vs i (0 ∷ before.present.items) (is_numbered vs i) (is_one_of i (0 ∷ before.present.items)) before.kept.present before.kept.counted refl refl)
      ∙ ap is_some (sym (variable_at names vs i store.distinct within (omega arith)))

  at : (x : List ℕ) (b : Bool) → is_among x names ≡ b → cond (left x) (finite.get ws x) None ≡ cond (there x) (finite.get ws x) None
  at x true is = let found = index_of x names is in subst (λ y. cond (left y) (finite.get ws y) None ≡ cond (there y) (finite.get ws y) None) (sym found.2) (ap (λ b. cond b (finite.get ws (name_at names found.0)) None) (at_index found.0 found.1))
  at x false is =
      let none = none_among x names (trees_of after.variables.items) is in
      both_none (left x) (finite.get ws x) none ∙ sym (both_none (there x) (finite.get ws x) none)

  same : finite.retain_keys ws left ≡ finite.retain_keys ws there
  same = one_map _ _ (λ x. retained ws left x ∙ at x (is_among x names) refl ∙ sym (retained ws there x))

pub take_front : (xs more ys : List ℕ) → ys ≡ xs ++ more → take (length xs) ys ≡ xs
take_front xs more ys is = ap (take (length xs)) is ∙ front xs where
  front : (zs : List ℕ) → take (length zs) (zs ++ more) ≡ zs
  front [] = refl
  front (z ∷ zs) = ap (λ t. z ∷ t) (front zs)

-- a block ends by leaving as many variables as there were before it
pub block_ended : (names : Names) (before after : CodeStore) → AreNames names before → IsFront before.present.items after.present.items
    → left_with names (take (length before.present.items) after.present.items) (store_in names after) ≡ store_kept (store_in names before) (store_in names after)
block_ended names before after store front =
    ap (λ ps. left_with names ps (store_in names after)) (take_front before.present.items front.0 after.present.items front.1) ∙ front_left names before after store
