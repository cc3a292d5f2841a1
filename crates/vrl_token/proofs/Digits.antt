-- Digits with single `_` between them, and the numbers that they stand for.
use Rattle.std.proofs.Common.{◌≡◌, ℕ, suc, ◌+◌, ◌*◌, ◌-◌, ◌^◌, ◌<◌, ◌≤◌, ◌==◌, if◌then◌else◌, Bool, true, false, ℤ, pos, ◌+ℤ◌, ◌-ℤ◌, FitsSigned, Option, List, [], ◌∷◌, ◌++◌, length, get_or, drop, inl, inr, refl, sym, ap, ◌∙◌, subst, append_assoc, arith}
use Rattle.std.proofs.Math.Seq.{drop-cons}
use Rattle.std.proofs.lemmas.Int.{ints}
use Rattle.std.proofs.lemmas.List.{drop_all}
use Rattle.std.specs.Int.{w64}
use Rattle.std.specs.Option.{SomeIff}
use Rattle.std.specs.List.{AllByRecursion}
use Rattle.vrl_token.specs.Lexical.{BeginsInside, BeginsOutside, IsDigit, IsLongestRun}
use Rattle.vrl_token.specs.Numbers.{DigitsGoOn, IsDigits, decimal_value, signed}
use Rattle.vrl_token.specs.Numerals.{IsDigitsCut, value_with}

grows_by : (n d : ℕ) → n ≤ value_with n d
grows_by n d = elim (d == 95) as (λ b. n ≤ (if b then n else 10 * n + (d - 48))) [ true ↦ omega arith | false ↦ omega arith ]

-- digits make a value no smaller
pub grows : (n : ℕ) (digits : List ℕ) → n ≤ decimal_value n digits
grows n [] = omega arith
grows n (d ∷ ds) = let one = grows_by n d in let more = grows (value_with n d) ds in omega arith

pub digits_of_run : (run : List ℕ) → 0 < length run → AllByRecursion IsDigit run → IsDigits run
digits_of_run [] some all = absurd (omega arith)
digits_of_run (d ∷ []) some all = all.0
digits_of_run (d ∷ e ∷ ds) some all = (all.0, inl (digits_of_run (e ∷ ds) (omega arith) all.1))

pub digits_join : (front run : List ℕ) → IsDigits front → IsDigits run → IsDigits (front ++ 95 ∷ run)
digits_join [] run front_is run_is = absurd front_is
digits_join (d ∷ []) [] front_is run_is = absurd run_is
digits_join (d ∷ []) (r ∷ rs) front_is run_is = (front_is, inr (refl, run_is))
digits_join (d ∷ e ∷ []) run front_is run_is =
    elim front_is.1 [
      | inl digits ↦ (front_is.0, inl (digits_join (e ∷ []) run digits run_is))
      | inr mark ↦ absurd mark.1
    ]
digits_join (d ∷ e ∷ f ∷ fs) run front_is run_is =
    elim front_is.1 [
      | inl digits ↦ (front_is.0, inl (digits_join (e ∷ f ∷ fs) run digits run_is))
      | inr mark ↦ (front_is.0, inr (mark.0, digits_join (f ∷ fs) run mark.1 run_is))
    ]

some_digit : (text run rest : List ℕ) → BeginsInside IsDigit text → IsLongestRun IsDigit text run rest → 0 < length run
some_digit text [] [] begins run = absurd (subst (BeginsInside IsDigit) run.parts begins)
some_digit text [] (b ∷ bs) begins run = absurd (run.ends (subst (BeginsInside IsDigit) run.parts begins))
some_digit text (d ∷ ds) rest begins run = omega arith

-- digits so far, and a rest that begins with none
pub record IsDigitsSoFar (text rest : List ℕ) : Type 0 where
  pub digits : List ℕ
  pub parts : text ≡ digits ++ rest
  pub is_digits : IsDigits digits
  pub ends : BeginsOutside IsDigit rest

pub first_digits : {text run rest : List ℕ} → BeginsInside IsDigit text → IsLongestRun IsDigit text run rest → IsDigitsSoFar text rest
first_digits {text} {run} {rest} begins cut = record { digits = run; parts = cut.parts; is_digits = digits_of_run run (some_digit text run rest begins cut) cut.passes; ends = cut.ends }

pub more_digits : {text rest more run next : List ℕ} → IsDigitsSoFar text rest → rest ≡ 95 ∷ more → BeginsInside IsDigit more → IsLongestRun IsDigit more run next → IsDigitsSoFar text next
more_digits {text} {rest} {more} {run} {next} so_far mark begins cut = record {
  digits = so_far.digits ++ 95 ∷ run;
  parts = so_far.parts ∙ ap (λ t. so_far.digits ++ t) (mark ∙ ap (λ t. 95 ∷ t) cut.parts) ∙ sym (append_assoc so_far.digits (95 ∷ run) next);
  is_digits = digits_join so_far.digits run so_far.is_digits (digits_of_run run (some_digit more run next begins cut) cut.passes);
  ends = cut.ends;
}

outside_inside : (text : List ℕ) → BeginsOutside IsDigit text → ¬ BeginsInside IsDigit text
outside_inside [] outside inside = absurd inside
outside_inside (b ∷ bs) outside inside = outside inside

go_on_no_more : (rest : List ℕ) → BeginsOutside IsDigit rest → ((behind : List ℕ) → rest ≡ 95 ∷ behind → BeginsOutside IsDigit behind) → ¬ DigitsGoOn rest
go_on_no_more [] outside none goes = absurd goes
go_on_no_more (b ∷ bs) outside none goes =
    elim goes [
      | inl digit ↦ outside digit
      | inr mark ↦ outside_inside bs (none bs (ap (λ x. x ∷ bs) mark.0)) mark.1
    ]

pub all_digits : {text rest : List ℕ} → IsDigitsSoFar text rest → ((behind : List ℕ) → rest ≡ 95 ∷ behind → BeginsOutside IsDigit behind) → IsDigitsCut text rest
all_digits {text} {rest} so_far none = record { digits = so_far.digits; parts = so_far.parts; is_digits = so_far.is_digits; ends = go_on_no_more rest so_far.ends none }

-- ---- values

pub too_large : (items digits : List ℕ) (i v : ℕ) → i < length items → decimal_value v (drop i items) ≡ decimal_value 0 digits → ¬ (value_with v (get_or items i 0) < 2 ^ 64) → ¬ (decimal_value 0 digits < 2 ^ 64)
too_large items digits i v below so_far large fits =
    let step : decimal_value v (drop i items) ≡ decimal_value (value_with v (get_or items i 0)) (drop (suc i) items) = ap (decimal_value v) (drop-cons items i 0 below) in
    let more = grows (value_with v (get_or items i 0)) (drop (suc i) items) in
    large (omega arith)

pub all_read : (items digits : List ℕ) (i v : ℕ) → length items ≤ i → decimal_value v (drop i items) ≡ decimal_value 0 digits → v ≡ decimal_value 0 digits
all_read items digits i v ends so_far = sym (ap (decimal_value v) (drop_all i items ends)) ∙ so_far

small : (negative : Bool) (n : ℕ) → FitsSigned w64 (signed negative n) → n < 2 ^ 64
small true n fits = omega (arith, ints)
small false n fits = omega (arith, ints)

pub too_long : (negative : Bool) (n : ℕ) → ¬ (n < 2 ^ 64) → ¬ FitsSigned w64 (signed negative n)
too_long negative n large fits = large (small negative n fits)

pub same_number : (found : Option ℤ) (number other : ℤ) → number ≡ other → SomeIff found (FitsSigned w64 number) number → SomeIff found (FitsSigned w64 other) other
same_number found number other same h = subst (λ n. SomeIff found (FitsSigned w64 n) n) same h

pub signed-minus : (m n : ℕ) → m ≡ n → pos 0 -ℤ pos m ≡ signed true n
signed-minus m n same = omega (arith, ints)

pub signed-plus : (m n : ℕ) → m ≡ n → pos 0 +ℤ pos m ≡ signed false n
signed-plus m n same = omega (arith, ints)
