-- Whole numbers of 64 bits as texts: an optional sign and digits of a base.
use Rattle.std.specs.Prelude.{ℕ, ◌&&◌, Bool, false, ℤ, pos, negsuc, neg_ℤ, int_le, nat_lt, List, [], ◌∷◌, Option, Some, None, cond, if◌then◌else◌}
use Rattle.std.specs.Char.{digit_value}
use Rattle.std.specs.List.{list_all}
use Rattle.std.specs.Str.Parse.{digits_value, starts_with_minus, without_leading_sign}

-- one digit of the base or more, in either case
abbrev pub is_numeral : ℕ → List ℕ → Bool
is_numeral base [] = false
is_numeral base (d ∷ ds) = list_all (λ c. nat_lt (digit_value c) base) (d ∷ ds)

abbrev pub has_64_bits : ℤ → Bool
has_64_bits n = int_le (negsuc 9223372036854775807) n && int_le n (pos 9223372036854775807)

abbrev pub with_sign : Bool → ℕ → ℤ
with_sign negative n = cond negative (neg_ℤ (pos n)) (pos n)

abbrev pub in_64_bits : ℤ → Option ℤ
in_64_bits n = if has_64_bits n then Some n else None

-- the number that a sign and the digits of a base write; none where they write none, or one of more
-- than 64 bits
abbrev pub number_of : Bool → ℕ → List ℕ → Option ℤ
number_of negative base digits =
    if is_numeral base digits then in_64_bits (with_sign negative (digits_value base digits)) else None

-- the number that an optional sign and digits of the base write
abbrev pub read_in : ℕ → List ℕ → Option ℤ
read_in base text = number_of (starts_with_minus text) base (without_leading_sign text)
