-- Exponents and fractions: what stands behind them.
use Rattle.std.proofs.Common.{◌≡◌, ℕ, ◌<◌, ◌⊎◌, List, [], ◌∷◌, ◌++◌, length, inl, inr, refl, sym, ap, ◌∙◌, subst, arith}
use Rattle.std.specs.List.{AllByRecursion}
use Rattle.vrl_token.specs.Lexical.{IsDigit, IsLongestRun}
use Rattle.vrl_token.specs.Numbers.{IsDigitRun, IsExponent, IsFloat, IsFraction, IsPowerSign}
use Rattle.vrl_token.specs.Numerals.{NoPowerLetter, PowerLetter, PowerSign}
use Rattle.vrl_token.proofs.Runs.{same_longest_run}

pub no_digit_run : {text run rest : List ℕ} → IsLongestRun IsDigit text run rest → length run ≡ 0 → (digits last : List ℕ) → ¬ IsDigitRun text digits last
no_digit_run run none digits last is = let same = ap length (same_longest_run run is.run).0 in let some = is.some in absurd (omega arith)

pub same_digit_run : {text digits rest other last : List ℕ} → IsDigitRun text digits rest → IsDigitRun text other last → (digits ≡ other) × (rest ≡ last)
same_digit_run one two = same_longest_run one.run two.run

pub no_sign : {text digits rest : List ℕ} (b : ℕ) (behind : List ℕ) → IsDigitRun text digits rest → text ≡ b ∷ behind → IsDigit b
no_sign {text} {digits} {rest} b behind is parts = first_of digits rest is.some is.run.passes (sym is.run.parts ∙ parts)
  where
    first_of : (digits rest : List ℕ) → 0 < length digits → AllByRecursion IsDigit digits → digits ++ rest ≡ b ∷ behind → IsDigit b
    first_of [] rest some all e = absurd (omega arith)
    first_of (d ∷ ds) rest some all e = let same : d ≡ b = cc in subst IsDigit same all.0

-- the sign of an exponent is the one that stands there
pub behind_same_sign : (sign text behind unsigned digits rest : List ℕ) → IsPowerSign sign → text ≡ sign ++ behind → IsDigitRun behind digits rest → PowerSign text unsigned → behind ≡ unsigned
behind_same_sign sign text behind unsigned digits rest is_sign parts run found =
    elim is_sign [
      | inl none ↦
          let same : text ≡ behind = parts ∙ ap (λ s. s ++ behind) none in
          elim found [
            | inl plus ↦ let digit = no_sign 43 unsigned run (sym same ∙ plus) in absurd (omega (arith, digit.0))
            | inr (inl minus) ↦ let digit = no_sign 45 unsigned run (sym same ∙ minus) in absurd (omega (arith, digit.0))
            | inr (inr other) ↦ sym same ∙ other.0
          ]
      | inr (inl plus_sign) ↦
          let same : text ≡ 43 ∷ behind = parts ∙ ap (λ s. s ++ behind) plus_sign in
          elim found [
            | inl plus ↦ cc (same, plus)
            | inr (inl minus) ↦ cc (same, minus)
            | inr (inr other) ↦ absurd (other.1 behind same)
          ]
      | inr (inr minus_sign) ↦
          let same : text ≡ 45 ∷ behind = parts ∙ ap (λ s. s ++ behind) minus_sign in
          elim found [
            | inl plus ↦ cc (same, plus)
            | inr (inl minus) ↦ cc (same, minus)
            | inr (inr other) ↦ absurd (other.2 behind same)
          ]
    ]

letter_of : (letter : ℕ) (text tail : List ℕ) → text ≡ letter ∷ tail → (letter ≡ 101) ⊎ (letter ≡ 69) → PowerLetter text tail
letter_of letter text tail parts is_letter = elim is_letter [ inl small ↦ inl (parts ∙ ap (λ b. b ∷ tail) small) | inr large ↦ inr (parts ∙ ap (λ b. b ∷ tail) large) ]

tail_of_letter : (text behind tail : List ℕ) (letter : ℕ) → PowerLetter text behind → text ≡ letter ∷ tail → behind ≡ tail
tail_of_letter text behind tail letter found parts = elim found [ inl small ↦ cc (small, parts) | inr large ↦ cc (large, parts) ]

-- the digits of an exponent, read behind its letter and sign
pub exponent_run : {text behind unsigned rest : List ℕ} (is : IsExponent text rest) → PowerLetter text behind → PowerSign behind unsigned → IsDigitRun unsigned is.digits rest
exponent_run {text} {behind} {unsigned} {rest} is letter sign =
    let tail = tail_of_letter text behind (is.sign ++ is.behind) is.letter letter is.parts in
    subst (λ t. IsDigitRun t is.digits rest) (behind_same_sign is.sign behind is.behind unsigned is.digits rest is.is_sign tail is.is_run sign) is.is_run

pub no_exponent_letter : {text : List ℕ} → NoPowerLetter text → (rest : List ℕ) → ¬ IsExponent text rest
no_exponent_letter {text} none rest is = none (is.sign ++ is.behind) (letter_of is.letter text _ is.parts is.is_letter)

pub no_exponent_digits : {text behind unsigned : List ℕ} → PowerLetter text behind → PowerSign behind unsigned → ((digits rest : List ℕ) → ¬ IsDigitRun unsigned digits rest) → (rest : List ℕ) → ¬ IsExponent text rest
no_exponent_digits letter sign none rest is = none is.digits rest (exponent_run is letter sign)

sign_parts : (text unsigned : List ℕ) → PowerSign text unsigned → (sign : List ℕ) × IsPowerSign sign × (text ≡ sign ++ unsigned)
sign_parts text unsigned found =
    elim found [
      | inl plus ↦ (43 ∷ [], inr (inl refl), plus)
      | inr (inl minus) ↦ (45 ∷ [], inr (inr refl), minus)
      | inr (inr other) ↦ ([], inl refl, other.0)
    ]

exponent_with : {text behind unsigned digits rest : List ℕ} (letter : ℕ) → (letter ≡ 101) ⊎ (letter ≡ 69) → text ≡ letter ∷ behind → PowerSign behind unsigned → IsDigitRun unsigned digits rest → IsExponent text rest
exponent_with {text} {behind} {unsigned} {digits} {rest} letter is_letter parts sign run =
    let cut = sign_parts behind unsigned sign in
    record { letter = letter; sign = cut.0; behind = unsigned; digits = digits; parts = parts ∙ ap (λ t. letter ∷ t) cut.2; is_letter = is_letter; is_sign = cut.1; is_run = run }

pub exponent : {text behind unsigned digits rest : List ℕ} → PowerLetter text behind → PowerSign behind unsigned → IsDigitRun unsigned digits rest → IsExponent text rest
exponent letter sign run = elim letter [ inl small ↦ exponent_with 101 (inl refl) small sign run | inr large ↦ exponent_with 69 (inr refl) large sign run ]

pub no_float : {text : List ℕ} → ((rest : List ℕ) → ¬ IsFraction text rest) → ((rest : List ℕ) → ¬ IsExponent text rest) → (rest : List ℕ) → ¬ IsFloat text rest
no_float no_fraction no_exponent rest float = elim float [ inl exponent ↦ no_exponent rest exponent | inr fractional ↦ no_fraction fractional.middle fractional.fraction ]
