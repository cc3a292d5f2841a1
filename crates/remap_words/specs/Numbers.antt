-- The numbers that stand in the values of options.
use Rattle.std.specs.Prelude.{ℕ, List, Option, Some, None, ◌&&◌, if◌then◌else◌, length, nat_le, nat_lt}
use Rattle.std.specs.Str.{all_ascii_digits}
use Rattle.std.specs.Str.Parse.{digits_value}

-- the number that the text writes, where the text is one to `most` decimal digits, and the number
-- is from `low` to `high`
abbrev pub number_in : ℕ → ℕ → ℕ → List ℕ → Option ℕ
number_in most low high text =
    if nat_lt 0 (length text) && (nat_le (length text) most
    && (all_ascii_digits text && (nat_le low (digits_value 10 text)
    && nat_le (digits_value 10 text) high))) then Some (digits_value 10 text) else None
