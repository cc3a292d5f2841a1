-- The number that the digits of a value write.
use Rattle.std.proofs.Common.{◌≡◌, ◌∙◌, ◌≤◌, ◌<◌, ◌^◌, ◌&&◌, ℕ, Bool, cond, true, false, refl, sym, arith, List, length, Option, Some, None, Err, nat_le, lt-ltb}
use Rattle.std.specs.Str.{all_ascii_digits}
use Rattle.std.specs.Str.Parse.{ParsesUnsigned, digits_value}
use Rattle.std.proofs.lemmas.Bool.{le-leb, leb-true}
use Rattle.std.proofs.lemmas.Str.Parse.{numerals_by_value, parse_digits, tells_all_ascii_digits}
use Rattle.remap_words.specs.Numbers.{number_in}

abbrev between : ℕ → ℕ → ℕ → Option ℕ
between low high n = cond (nat_le low n && nat_le n high) (Some n) None

-- a text of one digit to `most` is read by its number
pub number_is : (most low high : ℕ) (text : List ℕ) → 0 < length text → length text ≤ most → all_ascii_digits text ≡ true
    → number_in most low high text ≡ between low high (digits_value 10 text)
number_is most low high text some short digits = rw (lt-ltb 0 (length text) some, le-leb (length text) most short, digits) refl

-- one whose number is no 64-bit number is out of range
pub number_large : {E : Type 0} (most low high : ℕ) (text : List ℕ) (e : E) → ParsesUnsigned 64 10 text (Err e) → high < 2 ^ 64
    → 0 < length text → length text ≤ most → all_ascii_digits text ≡ true → None ≡ number_in most low high text
number_large most low high text e parses bound some short digits =
    sym (number_is most low high text some short digits ∙ go (nat_le low (digits_value 10 text)) (nat_le (digits_value 10 text) high) refl)
  where
    go : (a b : Bool) → nat_le (digits_value 10 text) high ≡ b → cond (a && b) (Some (digits_value 10 text)) None ≡ None
    go a true within =
        let small : digits_value 10 text ≤ high = leb-true (digits_value 10 text) high within in
        absurd (parse_digits (numerals_by_value (λ ds. all_ascii_digits ds ≡ true) tells_all_ascii_digits) 64 text (Err e) parses digits
        (some, omega (arith, small, bound)))
    go true false within = refl
    go false false within = refl
