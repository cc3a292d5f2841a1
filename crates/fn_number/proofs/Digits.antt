-- Digits of a base, read and written.
use Rattle.std.proofs.Common.{◌≡◌, ◌<◌, ◌≤◌, ◌++◌, ◌^◌, ◌/◌, ◌%◌, ℕ, zero, suc, leb, nat_lt, Bool, true, false, List, [], ◌∷◌, None, map, refl, sym, ap, ◌∙◌, arith, if◌then◌else◌}
use Rattle.std.proofs.lemmas.Bool.{leb-true, ltb-true, ltb-false}
use Rattle.std.proofs.lemmas.Int.Digits.{digits_of_step}
use Rattle.std.proofs.lemmas.List.{map-append}
use Rattle.std.proofs.lemmas.Nat.{le-div}
use Rattle.std.proofs.Math.Nat.{div-eq_of_lt, mod-eq_of_lt}
use Rattle.std.specs.Char.{digit_char}
use Rattle.std.specs.Int.Digits.{digits_of}
use Rattle.std.specs.Str.Parse.{digits_value, without_leading_plus, IsNumeral}
use Rattle.vrl_builtin.specs.Numeral.{has_64_bits, in_64_bits, is_numeral, number_of, with_sign}
use Rattle.vrl_builtin.proofs.Signed.{from_numeral, to_numeral}
use Rattle.fn_number.specs.Numeral.{numeral}
use Rattle.fn_number.proofs.Prefixes.{other_first, IsOther}

-- ---- reading

-- digits behind which no sign is passed over
pub plain : (ds : List ℕ) → IsOther 43 ds → without_leading_plus ds ≡ ds
plain [] other = refl
plain (c ∷ ds) other = rw (other_first c 43 ds other) refl

pub number_read : (negative : Bool) (base m : ℕ) (ds : List ℕ) → IsNumeral base ds → m ≡ digits_value base ds → in_64_bits (with_sign negative m) ≡ number_of negative base ds
number_read negative base m ds numeral is = rw (to_numeral base ds numeral, is) refl

small : (k : ℕ) (b : Bool) → leb k 9223372036854775807 ≡ b → 2 ^ 64 ≤ suc k → b ≡ false
small k true below large = let is : k ≤ 9223372036854775807 = leb-true k 9223372036854775807 below in let no : ⊥ = omega (arith, is, large) in absurd no
small k false below large = refl

too_large : (negative : Bool) (n : ℕ) → 2 ^ 64 ≤ n → has_64_bits (with_sign negative n) ≡ false
too_large true zero large = let no : ⊥ = omega (arith, large) in absurd no
too_large true (suc k) large = rw (small k (leb k 9223372036854775807) refl large) refl
too_large false n large = small n (leb n 9223372036854775807) refl (omega (arith, large))

unread_at : (negative : Bool) (base : ℕ) (ds : List ℕ) (numeral fits : Bool) → is_numeral base ds ≡ numeral → nat_lt (digits_value base ds) (2 ^ 64) ≡ fits →
    ¬ (IsNumeral base ds × (digits_value base ds < 2 ^ 64)) → None ≡ (if numeral then in_64_bits (with_sign negative (digits_value base ds)) else None)
unread_at negative base ds true true is below not_read = absurd (not_read (from_numeral base ds is, ltb-true _ _ below))
unread_at negative base ds true false is below not_read = rw (too_large negative (digits_value base ds) (ltb-false _ _ below)) refl
unread_at negative base ds false fits is below not_read = refl

pub number_unread : (negative : Bool) (base : ℕ) (ds : List ℕ) → ¬ (IsNumeral base ds × (digits_value base ds < 2 ^ 64)) → None ≡ number_of negative base ds
number_unread negative base ds not_read = unread_at negative base ds (is_numeral base ds) (nat_lt (digits_value base ds) (2 ^ 64)) refl refl not_read

-- ---- writing

positive : (base n : ℕ) → 0 < n → numeral base n ≡ map digit_char (digits_of base n)
positive base zero above = let no : ⊥ = omega (arith, above) in absurd no
positive base (suc n) above = refl

last_digit : (base n : ℕ) → 2 ≤ base → 0 < n → numeral base n ≡ map digit_char (digits_of base (n / base)) ++ (digit_char (n % base) ∷ [])
last_digit base n low above = positive base n above ∙ ap (map digit_char) (digits_of_step base n low above) ∙ map-append digit_char (digits_of base (n / base)) (n % base ∷ [])

pub numeral_more : (base n : ℕ) → 2 ≤ base → base ≤ n → numeral base n ≡ numeral base (n / base) ++ (digit_char (n % base) ∷ [])
numeral_more base n low many =
    let above : 0 < n / base = le-div 1 n base (omega arith) (omega arith) in
    last_digit base n low (omega arith) ∙ ap (λ ds. ds ++ (digit_char (n % base) ∷ [])) (sym (positive base (n / base) above))

pub numeral_one : (base n : ℕ) → 2 ≤ base → n < base → numeral base n ≡ digit_char n ∷ []
numeral_one base zero low few = refl
numeral_one base (suc n) low few =
    last_digit base (suc n) low (omega arith) ∙ ap (λ q. map digit_char (digits_of base q) ++ (digit_char (suc n % base) ∷ [])) (div-eq_of_lt few) ∙ ap (λ d. digit_char d ∷ []) (mod-eq_of_lt few)
