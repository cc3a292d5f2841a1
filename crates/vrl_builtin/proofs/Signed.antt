-- Texts of whole numbers, as std reads them.
use Rattle.std.proofs.Common.{◌≡◌, ◌≤◌, nat_lt, ℕ, ℤ, pos, negsuc, Bool, true, false, List, [], ◌∷◌, Some, None, FitsSigned, refl, sym, ap, ◌∙◌, arith, if◌then◌else◌}
use Rattle.std.proofs.lemmas.Bool.{and_parts, le-leb, leb-true, lt-ltb, ltb-true, true≢false}
use Rattle.std.specs.Char.{digit_value}
use Rattle.std.specs.List.{list_all}
use Rattle.std.specs.Result.{OkIff, result_ok}
use Rattle.std.specs.Str.Parse.{signed_digits_value, without_leading_sign, AllDigits, IsNumeral, ParsesSigned}
use Rattle.std.specs.declared.result.Result.{Result}
use Rattle.std.specs.declared.result.Result.TheVariants.{Ok, Err}
use Rattle.std.specs.Int.{w64}
use Rattle.vrl_builtin.specs.Numeral.{has_64_bits, is_numeral, read_in}

-- ---- 64 bits

to_64 : (z : ℤ) → FitsSigned w64 z → has_64_bits z ≡ true
to_64 (pos n) h = le-leb n 9223372036854775807 (omega (arith, h))
to_64 (negsuc n) h = rw (le-leb n 9223372036854775807 (omega (arith, h))) refl

from_64 : (z : ℤ) → has_64_bits z ≡ true → FitsSigned w64 z
from_64 (pos n) h = let below : n ≤ 9223372036854775807 = leb-true n 9223372036854775807 h in omega (arith, below)
from_64 (negsuc n) h = let below : n ≤ 9223372036854775807 = leb-true n 9223372036854775807 (and_parts _ _ h).0 in omega (arith, below)

-- ---- digits

all_to : (base : ℕ) (ds : List ℕ) → AllDigits base ds → list_all (λ c. nat_lt (digit_value c) base) ds ≡ true
all_to base [] h = refl
all_to base (c ∷ cs) h = rw (lt-ltb (digit_value c) base h.0) (all_to base cs h.1)

all_from : (base : ℕ) (ds : List ℕ) → list_all (λ c. nat_lt (digit_value c) base) ds ≡ true → AllDigits base ds
all_from base [] h = tt
all_from base (c ∷ cs) h = (ltb-true (digit_value c) base (and_parts _ _ h).0, all_from base cs (and_parts _ _ h).1)

pub to_numeral : (base : ℕ) (ds : List ℕ) → IsNumeral base ds → is_numeral base ds ≡ true
to_numeral base [] h = let no : ⊥ = omega (arith, h.0) in absurd no
to_numeral base (d ∷ ds) h = all_to base (d ∷ ds) h.1

pub from_numeral : (base : ℕ) (ds : List ℕ) → is_numeral base ds ≡ true → IsNumeral base ds
from_numeral base [] h = absurd (true≢false (sym h))
from_numeral base (d ∷ ds) h = (omega arith, all_from base (d ∷ ds) h)

-- ---- a reading

read_at : {E : Type 0} (base : ℕ) (ds : List ℕ) (z : ℤ) (r : Result ℤ E) (numeral fits : Bool) → is_numeral base ds ≡ numeral → has_64_bits z ≡ fits →
    OkIff r (IsNumeral base ds × FitsSigned w64 z) z → result_ok r ≡ (if numeral then (if fits then Some z else None) else None)
read_at base ds z (Ok x) true true is fit read = ap Some read.1
read_at base ds z (Ok x) true false is fit read = absurd (true≢false (sym (to_64 z read.0.1) ∙ fit))
read_at base ds z (Ok x) false fits is fit read = absurd (true≢false (sym (to_numeral base ds read.0.0) ∙ is))
read_at base ds z (Err e) true true is fit read = absurd (read (from_numeral base ds is, from_64 z fit))
read_at base ds z (Err e) true false is fit read = refl
read_at base ds z (Err e) false fits is fit read = refl

pub read_signed : {E : Type 0} (base : ℕ) (s : List ℕ) (r : Result ℤ E) → ParsesSigned w64 base s r → result_ok r ≡ read_in base s
read_signed base s r read =
    let ds = without_leading_sign s in let z = signed_digits_value base s in read_at base ds z r (is_numeral base ds) (has_64_bits z) refl refl read
