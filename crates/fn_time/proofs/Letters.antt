-- Whether a letter stands at a place goes by whether one stands at the place before.
use Rattle.std.proofs.Common.{◌≡◌, ℕ, suc, ◌+◌, ◌%◌, ◌==◌, ◌&&◌, ◌||◌, not, Bool, true, false, List, [], ◌∷◌, length, refl, sym, ap, ◌∙◌, arith, if◌then◌else◌}
use Rattle.std.proofs.lemmas.Bool.Decides.{nat_tests}
use Rattle.std.proofs.lemmas.List.{nil_from_length}
use Rattle.fn_time.specs.Format.{are_known, is_known, is_letter_place, is_shown_format, signs, times_in}

-- the same of what is left, by whether a letter stands first
abbrev pub known_from : Bool → List ℕ → Bool
known_from letter [] = not letter
known_from letter (b ∷ bs) = (not letter || is_known b) && known_from (not letter && b == 37) bs

abbrev pub times_from : ℕ → Bool → List ℕ → ℕ
times_from x letter [] = 0
times_from x letter (b ∷ bs) = (if letter && b == x then 1 else 0) + times_from x (not letter && b == 37) bs

odd_next : (n : ℕ) → (suc n % 2 == 1) ≡ not (n % 2 == 1)
odd_next n = grind (arith, nat_tests)

and_true : (a : Bool) → a ≡ (a && true)
and_true true = refl
and_true false = refl

and_false : (a : Bool) → false ≡ (a && false)
and_false true = refl
and_false false = refl

next_if : (sign : Bool) (n : ℕ) → ((if sign then suc n else 0) % 2 == 1) ≡ (not (n % 2 == 1) && sign)
next_if true n = odd_next n ∙ and_true (not (n % 2 == 1))
next_if false n = and_false (not (n % 2 == 1))

next_place : (b : ℕ) (before : List ℕ) → is_letter_place (b ∷ before) ≡ (not (is_letter_place before) && b == 37)
next_place b before = next_if (b == 37) (signs before)

pub known_is : (before bs : List ℕ) → are_known before bs ≡ known_from (is_letter_place before) bs
known_is before [] = refl
known_is before (b ∷ bs) = ap (λ rest. (not (is_letter_place before) || is_known b) && rest) (known_is (b ∷ before) bs ∙ ap (λ letter. known_from letter bs) (next_place b before))

pub times_is : (x : ℕ) (before bs : List ℕ) → times_in x before bs ≡ times_from x (is_letter_place before) bs
times_is x before [] = refl
times_is x before (b ∷ bs) = ap (λ rest. (if is_letter_place before && b == x then 1 else 0) + rest) (times_is x (b ∷ before) bs ∙ ap (λ letter. times_from x letter bs) (next_place b before))

-- what the walks over a format answer
pub known_at_end : (left : List ℕ) (letter : Bool) → length left ≡ 0 → known_from letter left ≡ not letter
known_at_end left letter end = ap (known_from letter) (nil_from_length left end)

pub shown_is : (format first left : List ℕ) (letter r : Bool) → first ≡ format → known_from false first ≡ known_from letter left → known_from letter left ≡ r → r ≡ is_shown_format format
shown_is format first left letter r same kept is = sym is ∙ sym kept ∙ ap (known_from false) same ∙ sym (known_is [] format)

pub times_are : (x times : ℕ) (format first left : List ℕ) (letter : Bool) → first ≡ format → times_from x false first ≡ times + times_from x letter left → length left ≡ 0 → times ≡ times_in x [] format
times_are x times format first left letter same kept end =
    let all : times_from x letter left ≡ 0 = ap (times_from x letter) (nil_from_length left end) in
    let sum : times ≡ times + times_from x letter left = omega (arith, all) in
    sum ∙ sym kept ∙ ap (times_from x false) same ∙ sym (times_is x [] format)
