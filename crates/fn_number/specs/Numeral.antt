-- Whole numbers as digits of a base that a prefix tells, and how they are written.
use Rattle.std.specs.Prelude.{ℕ, zero, suc, ◌==◌, ◌&&◌, ◌||◌, Bool, false, ℤ, pos, negsuc, int_le, List, [], ◌∷◌, drop, map, codes, Option, if◌then◌else◌}
use Rattle.std.specs.Char.{digit_char, is_ascii_digit}
use Rattle.std.specs.Int.Digits.{digits_of}
use Rattle.vrl_builtin.specs.Numeral.{number_of}

-- 2 to 36, so that digits and letters serve
abbrev pub is_base : ℤ → Bool
is_base base = int_le (pos 2) base && int_le base (pos 36)

-- `-` stands first
abbrev pub is_negative : List ℕ → Bool
is_negative [] = false
is_negative (c ∷ ds) = c == 45

-- what stands behind a sign
abbrev pub behind_sign : List ℕ → List ℕ
behind_sign [] = []
behind_sign (c ∷ ds) = if c == 45 || c == 43 then ds else c ∷ ds

-- a decimal digit stands first
abbrev pub begins_with_digit : List ℕ → Bool
begins_with_digit [] = false
begins_with_digit (c ∷ ds) = is_ascii_digit c

-- the base that stands behind a `0`: `b`, `o` or `x` tells it, or another digit
abbrev pub base_behind_zero : List ℕ → ℕ
base_behind_zero [] = 10
base_behind_zero (c ∷ ds) =
    if c == 98 then 2 else (if c == 111 then 8 else (if c == 120 then 16 else (if is_ascii_digit c then 8 else 10)))

-- the base that digits tell by a prefix
abbrev pub base_of : List ℕ → ℕ
base_of [] = 10
base_of (z ∷ ds) = if z == 48 then base_behind_zero ds else 10

-- the letter of a base stands first
abbrev pub begins_with_letter : List ℕ → Bool
begins_with_letter [] = false
begins_with_letter (c ∷ ds) = c == 98 || (c == 111 || c == 120)

-- what stands behind `0b`, `0o` and `0x`; all the digits where they have no such prefix
abbrev pub behind_prefix : List ℕ → List ℕ
behind_prefix [] = []
behind_prefix (z ∷ ds) = if z == 48 && begins_with_letter ds then drop 1 ds else z ∷ ds

-- an optional sign, an optional prefix, and digits of the base that it tells
abbrev pub read_by_prefix : List ℕ → Option ℤ
read_by_prefix text =
    let digits = behind_sign text in number_of (is_negative text) (base_of digits) (behind_prefix digits)

-- the digits of a number in a base, in lower case, and no more than are needed: `0` for 0
abbrev pub numeral : ℕ → ℕ → List ℕ
numeral base zero = codes "0"
numeral base (suc n) = map digit_char (digits_of base (suc n))

-- the number in a base, with `-` first where it is negative
abbrev pub written_in : ℕ → ℤ → List ℕ
written_in base (pos n) = numeral base n
written_in base (negsuc n) = 45 ∷ numeral base (suc n)
