-- An argument is bound to one parameter at most, where the parameters have names of their own.
use Rattle.std.proofs.Common.{◌≡◌, ℕ, zero, suc, ◌+◌, ◌<◌, ◌≤◌, arith, Bool, true, false, ◌||◌, List, [], ◌∷◌, map, Option, Some, None, option_map, bytes_eq, get_or, refl, sym, ap, ◌∙◌}
use Rattle.std.specs.List.{list_any}
use Rattle.std.specs.Option.{option_map_or}
use Rattle.std.proofs.lemmas.Bool.{true≢false}
use Rattle.std.proofs.lemmas.List.Quantifiers.{position-Some}
use Rattle.std.proofs.lemmas.Slice.Eq.{bytes_eq-Decides}
use Rattle.vrl_builtin.specs.Rows.{ParameterRow}
use Rattle.vrl_binding.specs.Binding.{bound_from, is_keyword, keyword_at, positional_at, Keywords}
use Rattle.vrl_table.specs.Table.{has_name_twice}
use Rattle.vrl_check.specs.Apart.{one_if}

Some≢None : {A : Type 0} {a : A} → Some a ≡ None → ⊥
Some≢None is = cc

some_is : {A : Type 0} {a b : A} → Some a ≡ Some b → a ≡ b
some_is is = cc

-- neither of two tests holds
neither : (a b : Bool) → (a || b) ≡ false → (a ≡ false) × (b ≡ false)
neither true b wrong = absurd (true≢false wrong)
neither false b none = (refl, none)

-- two places are one
abbrev pub same_place : ℕ → ℕ → Bool
same_place zero zero = true
same_place zero (suc n) = false
same_place (suc m) zero = false
same_place (suc m) (suc n) = same_place m n

same_is : (m n : ℕ) → same_place m n ≡ true → m ≡ n
same_is zero zero is = refl
same_is zero (suc n) wrong = absurd (true≢false (sym wrong))
same_is (suc m) zero wrong = absurd (true≢false (sym wrong))
same_is (suc m) (suc n) is = ap suc (same_is m n is)

-- how many of the places are this one
abbrev pub hits : ℕ → List (Option ℕ) → ℕ
hits n [] = 0
hits n (None ∷ places) = hits n places
hits n (Some m ∷ places) = one_if (same_place m n) + hits n places

-- the keyword that is written at a place; none where there is none, or nothing stands there
abbrev written : ℕ → Keywords → Option (List ℕ)
written n ks = get_or ks n None

-- a place that is found by a keyword has this keyword
found_keyword : (name : List ℕ) (ks : Keywords) (n : ℕ) → keyword_at name ks ≡ Some n → is_keyword name (written n ks) ≡ true
found_keyword name ks n found = (position-Some (is_keyword name) ks n None found).1

-- what comes one place later
before_it : (a : Option ℕ) (n : ℕ) → option_map suc a ≡ Some n → (m : ℕ) × (a ≡ Some m) × (n ≡ suc m)
before_it None n is = absurd (Some≢None (sym is))
before_it (Some m) n is = (m, refl, sym (some_is is))

-- a place that is found by its number among those without a keyword has none
found_without : (i : ℕ) (ks : Keywords) (n : ℕ) → positional_at i ks ≡ Some n → written n ks ≡ None
found_without i [] n found = absurd (Some≢None (sym found))
found_without zero (None ∷ ks) n found = ap (λ m. written m (None ∷ ks)) (sym (some_is found))
found_without (suc i) (None ∷ ks) n found =
    let there = before_it (positional_at i ks) n found in
    ap (λ m. written m (None ∷ ks)) there.2 ∙ found_without i ks there.0 there.1
found_without i (Some w ∷ ks) n found =
    let there = before_it (positional_at i ks) n found in
    ap (λ m. written m (Some w ∷ ks)) there.2 ∙ found_without i ks there.0 there.1

-- and has one number
one_number : (i k : ℕ) (ks : Keywords) (n : ℕ) → positional_at i ks ≡ Some n → positional_at k ks ≡ Some n → i ≡ k
one_number i k [] n found too = absurd (Some≢None (sym found))
one_number zero zero (None ∷ ks) n found too = refl
one_number zero (suc k) (None ∷ ks) n found too =
    let there = before_it (positional_at k ks) n too in
    let first : 0 ≡ n = some_is found in
    let more : n ≡ suc there.0 = there.2 in
    omega (arith, first, more)
one_number (suc i) zero (None ∷ ks) n found too =
    let there = before_it (positional_at i ks) n found in
    let first : 0 ≡ n = some_is too in
    let more : n ≡ suc there.0 = there.2 in
    omega (arith, first, more)
one_number (suc i) (suc k) (None ∷ ks) n found too =
    let one = before_it (positional_at i ks) n found in
    let two = before_it (positional_at k ks) n too in
    let same : two.0 ≡ one.0 = let a : n ≡ suc one.0 = one.2 in let b : n ≡ suc two.0 = two.2 in omega (arith, a, b) in
    ap suc (one_number i k ks one.0 one.1 (two.1 ∙ ap Some same))
one_number i k (Some w ∷ ks) n found too =
    let one = before_it (positional_at i ks) n found in
    let two = before_it (positional_at k ks) n too in
    let same : two.0 ≡ one.0 = let a : n ≡ suc one.0 = one.2 in let b : n ≡ suc two.0 = two.2 in omega (arith, a, b) in
    one_number i k ks one.0 one.1 (two.1 ∙ ap Some same)

-- one place before others: it is this one, and none of the others is, or it is another, and what holds of the others holds of all
one_before : (m n most : ℕ) (rest : List (Option ℕ)) → (m ≡ n → suc (hits n rest) ≤ most) → hits n rest ≤ most → hits n (Some m ∷ rest) ≤ most
one_before m n most rest here others = by (same_place m n) (λ same. here (same_is m n same)) where
  by : (same : Bool) → (same ≡ true → suc (hits n rest) ≤ most) → one_if same + hits n rest ≤ most
  by true first = let at : suc (hits n rest) ≤ most = first refl in omega (arith, at)
  by false first = omega (arith, others)

maybe_before : (place : Option ℕ) (n most : ℕ) (rest : List (Option ℕ)) → (place ≡ Some n → suc (hits n rest) ≤ most) → hits n rest ≤ most → hits n (place ∷ rest) ≤ most
maybe_before None n most rest here others = others
maybe_before (Some m) n most rest here others = one_before m n most rest (λ same. here (ap Some same)) others

-- the places of one parameter more
one_parameter : (i n most : ℕ) (p : ParameterRow) (ps : List ParameterRow) (ks : Keywords) →
    (keyword_at p.name ks ≡ Some n → suc (hits n (bound_from i ps ks)) ≤ most) → hits n (bound_from i ps ks) ≤ most →
    (positional_at i ks ≡ Some n → suc (hits n (bound_from (suc i) ps ks)) ≤ most) → hits n (bound_from (suc i) ps ks) ≤ most →
    hits n (bound_from i (p ∷ ps) ks) ≤ most
one_parameter i n most p ps ks named others positional behind = by (keyword_at p.name ks) named where
  by : (k : Option ℕ) → (k ≡ Some n → suc (hits n (bound_from i ps ks)) ≤ most) →
      hits n (option_map_or (λ place. Some place ∷ bound_from i ps ks) k (positional_at i ks ∷ bound_from (suc i) ps ks)) ≤ most
  by None first = maybe_before (positional_at i ks) n most (bound_from (suc i) ps ks) positional behind
  by (Some m) first = one_before m n most (bound_from i ps ks) (λ same. first (ap Some same)) others

-- ---- a place without a keyword

no_keyword : (name : List ℕ) (ks : Keywords) (n : ℕ) → written n ks ≡ None → keyword_at name ks ≡ Some n → ⊥
no_keyword name ks n without found = true≢false (sym (found_keyword name ks n found) ∙ ap (is_keyword name) without)

-- behind the parameter that has it none has it
taken : (i k n : ℕ) (ps : List ParameterRow) (ks : Keywords) → written n ks ≡ None → positional_at k ks ≡ Some n → k < i → hits n (bound_from i ps ks) ≤ 0
taken i k n [] ks without is behind = omega arith
taken i k n (p ∷ ps) ks without is behind =
    one_parameter i n 0 p ps ks
    (λ named. absurd (no_keyword p.name ks n without named)) (taken i k n ps ks without is behind)
    (λ positional. let same : i ≡ k = one_number i k ks n positional is in omega (arith, same, behind)) (taken (suc i) k n ps ks without is (omega (arith, behind)))

once_without : (i n : ℕ) (ps : List ParameterRow) (ks : Keywords) → written n ks ≡ None → hits n (bound_from i ps ks) ≤ 1
once_without i n [] ks without = omega arith
once_without i n (p ∷ ps) ks without =
    one_parameter i n 1 p ps ks
    (λ named. absurd (no_keyword p.name ks n without named)) (once_without i n ps ks without)
    (λ positional. let none = taken (suc i) i n ps ks without positional (omega arith) in omega (arith, none)) (once_without (suc i) n ps ks without)

-- ---- a place with a keyword

with_keyword : (w : List ℕ) (i : ℕ) (ks : Keywords) (n : ℕ) → written n ks ≡ Some w → positional_at i ks ≡ Some n → ⊥
with_keyword w i ks n is found = Some≢None (sym is ∙ found_without i ks n found)

-- the keyword is the parameter's name
is_name : (w : List ℕ) (p : ParameterRow) (ks : Keywords) (n : ℕ) → written n ks ≡ Some w → keyword_at p.name ks ≡ Some n → w ≡ p.name
is_name w p ks n is found = (bytes_eq-Decides w p.name).0 (ap (is_keyword p.name) (sym is) ∙ found_keyword p.name ks n found)

abbrev names : List ParameterRow → Keywords
names ps = map (λ p. Some p.name) ps

not_among : (w : List ℕ) (i n : ℕ) (ps : List ParameterRow) (ks : Keywords) → written n ks ≡ Some w → list_any (is_keyword w) (names ps) ≡ false → hits n (bound_from i ps ks) ≤ 0
not_among w i n [] ks is none = omega arith
not_among w i n (p ∷ ps) ks is none =
    let other = neither (bytes_eq p.name w) (list_any (is_keyword w) (names ps)) none in
    one_parameter i n 0 p ps ks
    (λ named. absurd (true≢false (sym ((bytes_eq-Decides p.name w).1 (sym (is_name w p ks n is named))) ∙ other.0))) (not_among w i n ps ks is other.1)
    (λ positional. absurd (with_keyword w i ks n is positional)) (not_among w (suc i) n ps ks is other.1)

once_named : (w : List ℕ) (i n : ℕ) (ps : List ParameterRow) (ks : Keywords) → written n ks ≡ Some w → has_name_twice ps ≡ false → hits n (bound_from i ps ks) ≤ 1
once_named w i n [] ks is apart = omega arith
once_named w i n (p ∷ ps) ks is apart =
    let parts = neither (list_any (is_keyword p.name) (names ps)) (has_name_twice ps) apart in
    one_parameter i n 1 p ps ks
    (λ named.
    let none = not_among w i n ps ks is (ap (λ v. list_any (is_keyword v) (names ps)) (is_name w p ks n is named) ∙ parts.0) in
    omega (arith, none))
    (once_named w i n ps ks is parts.1)
    (λ positional. absurd (with_keyword w i ks n is positional)) (once_named w (suc i) n ps ks is parts.1)

pub bound_once : (ps : List ParameterRow) (ks : Keywords) → has_name_twice ps ≡ false → (n : ℕ) → hits n (bound_from 0 ps ks) ≤ 1
bound_once ps ks apart n = by (written n ks) refl where
  by : (w : Option (List ℕ)) → written n ks ≡ w → hits n (bound_from 0 ps ks) ≤ 1
  by None is = once_without 0 n ps ks is
  by (Some w) is = once_named w 0 n ps ks is apart
