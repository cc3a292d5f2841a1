-- What is read is spelled so, and what is spelled so is read, part by part.
use Rattle.std.proofs.Common.{◌≡◌, ℕ, zero, suc, ◌+◌, ◌-◌, ◌*◌, ◌/◌, ◌%◌, ◌^◌, ◌<◌, ◌≤◌, ◌⊎◌, inl, inr, Bool, true, false, not, ◌&&◌, ◌||◌, cond, eqb, ltb, List, [], ◌∷◌, ◌++◌, length, Option, None, Some, refl, sym, ap, ◌∙◌, arith, append_assoc, eqb-true, eq-eqb, ℤ, pos, neg_ℤ}
use Rattle.std.specs.Prelude.{position}
use Rattle.std.specs.Char.{is_ascii_digit}
use Rattle.std.specs.List.{prefix_len}
use Rattle.std.proofs.lemmas.Bool.{and_parts, or_parts, ltb-false, le-ltb, lt-ltb}
use Rattle.std.proofs.lemmas.Bool.Decides.{nat_tests}
use Rattle.std.proofs.lemmas.List.{nil_from_length, length-append, append-nil}
use Rattle.std.proofs.Math.Nat.{pow-suc}
use Rattle.std.proofs.lemmas.Nat.{pow-add}
use native.Mathlib.Nat.{mul-le-mul_right, suc-mul}
use Rattle.jiff_fmt.proofs.ReaderLemmas.{ten_pow-pos}
use Rattle.vrl_value.specs.Rfc3339.{digits, Zone, utc, ahead, behind as after, fraction_text, zone_text, IsLetter, IsZone, zone_seconds}
use Rattle.vrl_value.specs.Scan.{◌>>=◌, with_digit, number_at, behind, behind_letter, nanos_at, fraction_at, offset_at, zone_at}

-- the value of a step that went well
pub bind_some : {A B : Type 0} (o : Option A) (f : A → Option B) (y : B) → (o >>= f) ≡ Some y → (x : A) × (o ≡ Some x) × (f x ≡ Some y)
bind_some None f y e = absurd cc
bind_some (Some x) f y e = (x, refl, e)

pub by_some : {A B R : Type 0} (o : Option A) (f : A → Option B) (y : B) → (o >>= f) ≡ Some y → ((x : A) → o ≡ Some x → f x ≡ Some y → R) → R
by_some None f y e then = absurd cc
by_some (Some x) f y e then = then x refl e

-- a test that went well, or that had to fail
pub passed : {A : Type 0} (b : Bool) (o : Option A) (y : A) → cond b o None ≡ Some y → (b ≡ true) × (o ≡ Some y)
passed true o y e = (refl, e)
passed false o y e = absurd cc

pub missed : {A : Type 0} (b : Bool) (o : Option A) (y : A) → cond b None o ≡ Some y → (b ≡ false) × (o ≡ Some y)
missed true o y e = absurd cc
missed false o y e = (refl, e)

chosen : {A : Type 0} (b : Bool) (o p : Option A) (y : A) → cond b o p ≡ Some y → ((b ≡ true) × (o ≡ Some y)) ⊎ ((b ≡ false) × (p ≡ Some y))
chosen true o p y e = inl (refl, e)
chosen false o p y e = inr (refl, e)

pub some_is : {A : Type 0} (x y : A) → (let s : Option A = Some x in s ≡ Some y) → x ≡ y
some_is x y e = cc

digit_range : (b : ℕ) → is_ascii_digit b ≡ true → (48 ≤ b) × (b ≤ 57)
digit_range b e = grind (arith, nat_tests)

is_digit : (n : ℕ) → is_ascii_digit (48 + n % 10) ≡ true
is_digit n = let low : n % 10 < 10 = omega arith in grind (arith, nat_tests, low)

ended : (n : ℕ) → not (eqb n 0) ≡ false → n ≡ 0
ended n e = grind (arith, nat_tests)

-- ---- numbers

digit_taken : (n m : ℕ) (text rest : List ℕ) → with_digit m text ≡ Some (n, rest) → (b : ℕ) × (text ≡ b ∷ rest) × (48 ≤ b) × (b ≤ 57) × (n ≡ m * 10 + (b - 48))
digit_taken n m [] rest e = absurd cc
digit_taken n m (b ∷ text) rest e =
    let test = passed (is_ascii_digit b) (Some (m * 10 + (b - 48), text)) (n, rest) e in
    let both = some_is (m * 10 + (b - 48), text) (n, rest) test.1 in
    let range = digit_range b test.0 in
    (b, ap (λ (p : ℕ × List ℕ). b ∷ p.1) both, range.0, range.1, sym (ap (λ (p : ℕ × List ℕ). p.0) both))

-- the last digit apart
digits-last : (k n : ℕ) (rest : List ℕ) → digits (suc k) n ++ rest ≡ digits k (n / 10) ++ (48 + n % 10) ∷ rest
unfolding digits
digits-last k n rest = append_assoc (digits k (n / 10)) ((48 + n % 10) ∷ []) rest

pub number_takes : (k n : ℕ) (text rest : List ℕ) → number_at k text ≡ Some (n, rest) → (text ≡ digits k n ++ rest) × (n < 10 ^ k)
unfolding number_at digits
number_takes zero n text rest e =
    let both = some_is (0, text) (n, rest) e in
    (ap (λ (p : ℕ × List ℕ). p.1) both, let none = ap (λ (p : ℕ × List ℕ). p.0) both in omega arith)
number_takes (suc k) n text rest e =
    let front = bind_some (number_at k text) (λ m. with_digit m.0 m.1) (n, rest) e in
    let m = front.0.0 in
    let before = number_takes k m text front.0.1 front.1 in
    let last = digit_taken n m front.0.1 rest front.2 in
    let high : n / 10 ≡ m = omega (arith, last) in
    let low : 48 + n % 10 ≡ last.0 = omega (arith, last) in (
      before.0 ∙ ap (λ (t : List ℕ). digits k m ++ t) last.1 ∙ sym (append_assoc (digits k (n / 10)) ((48 + n % 10) ∷ []) rest ∙ rw (high, low)),
      omega (arith, before.1, pow-suc 10 k, last),
    )

pub number_again : (k n : ℕ) (rest : List ℕ) → n < 10 ^ k → number_at k (digits k n ++ rest) ≡ Some (n, rest)
unfolding number_at
number_again zero n rest h = unfold digits in let none : n ≡ 0 = omega arith in rw none
number_again (suc k) n rest h =
    let test = is_digit n in
    let whole : n / 10 * 10 + (48 + n % 10 - 48) ≡ n = omega arith in
    rw (digits-last k n rest, number_again k (n / 10) ((48 + n % 10) ∷ rest) (omega (arith, h, pow-suc 10 k)), test, whole)

-- ---- behind a sign

pub behind_takes : (sign n : ℕ) (text rest : List ℕ) → behind sign text ≡ Some (n, rest) → (text ≡ sign ∷ (digits 2 n ++ rest)) × (n < 100)
unfolding behind
behind_takes sign n [] rest e = absurd cc
behind_takes sign n (b ∷ text) rest e =
    let test = passed (eqb b sign) (number_at 2 text) (n, rest) e in
    let number = number_takes 2 n text rest test.1 in
    (rw (eqb-true b sign test.0, number.0), omega (arith, number.1))

pub behind_again : (sign n : ℕ) (rest : List ℕ) → n < 100 → behind sign (sign ∷ (digits 2 n ++ rest)) ≡ Some (n, rest)
unfolding behind
behind_again sign n rest h = let same = eq-eqb sign sign refl in rw (same, number_again 2 n rest (omega arith))

letter_is : (b : ℕ) → (eqb b 84 || eqb b 116) ≡ true → IsLetter 84 b
letter_is b e = grind (arith, nat_tests)

letter_passes : (b : ℕ) → IsLetter 84 b → (eqb b 84 || eqb b 116) ≡ true
letter_passes b (inl e) = rw e
letter_passes b (inr e) = rw e

pub letter_takes : (n : ℕ) (text rest : List ℕ) → behind_letter text ≡ Some (n, rest) → (b : ℕ) × IsLetter 84 b × (text ≡ b ∷ (digits 2 n ++ rest)) × (n < 100)
unfolding behind_letter
letter_takes n [] rest e = absurd cc
letter_takes n (b ∷ text) rest e =
    let test = passed (eqb b 84 || eqb b 116) (number_at 2 text) (n, rest) e in
    let number = number_takes 2 n text rest test.1 in
    (b, letter_is b test.0, ap (λ (t : List ℕ). b ∷ t) number.0, omega (arith, number.1))

pub letter_again : (b n : ℕ) (rest : List ℕ) → IsLetter 84 b → n < 100 → behind_letter (b ∷ (digits 2 n ++ rest)) ≡ Some (n, rest)
unfolding behind_letter
letter_again b n rest letter h = let test = letter_passes b letter in rw (test, number_again 2 n rest (omega arith))

-- ---- the fraction

pub record IsFraction (value : ℕ) (text rest : List ℕ) : Type 0 where
  pub places : ℕ
  pub number : ℕ
  pub few : places ≤ 9
  pub fits : number < 10 ^ places
  pub spelled : text ≡ fraction_text places number ++ rest
  pub nanos : number * 10 ^ (9 - places) ≡ value

fraction_text-some : (places n : ℕ) → eqb places 0 ≡ false → fraction_text places n ≡ 46 ∷ digits places n
fraction_text-some places n e = rw e

digits_taken : (v places : ℕ) (text rest : List ℕ) → cond {A = Option (ℕ × List ℕ)} (eqb places 0 || ltb 9 places) None (number_at places text >>= λ n. Some (n.0 * 10 ^ (9 - places), n.1)) ≡ Some (v, rest) → IsFraction v (46 ∷ text) rest
digits_taken v places text rest e =
    let test = missed (eqb places 0 || ltb 9 places) (number_at places text >>= λ n. Some (n.0 * 10 ^ (9 - places), n.1)) (v, rest) e in
    let limits = or_parts (eqb places 0) (ltb 9 places) test.0 in
    let last = bind_some (number_at places text) (λ n. Some (n.0 * 10 ^ (9 - places), n.1)) (v, rest) test.1 in
    let n = last.0.0 in
    let both = some_is (n * 10 ^ (9 - places), last.0.1) (v, rest) last.2 in
    let number = number_takes places n text last.0.1 last.1 in
    let whole : 46 ∷ text ≡ (46 ∷ digits places n) ++ rest = ap (λ (t : List ℕ). 46 ∷ t) (number.0 ∙ ap (λ (p : ℕ × List ℕ). digits places n ++ p.1) both) in
    record {
      places = places;
      number = n;
      few = ltb-false 9 places limits.1;
      fits = number.1;
      spelled = whole ∙ ap (λ (t : List ℕ). t ++ rest) (sym (fraction_text-some places n limits.0));
      nanos = ap (λ (p : ℕ × List ℕ). p.0) both;
    }

nanos_taken : (v : ℕ) (text rest : List ℕ) → nanos_at text ≡ Some (v, rest) → IsFraction v (46 ∷ text) rest
unfolding nanos_at
nanos_taken v text rest e =
    let first = bind_some (position (λ b. not (is_ascii_digit b)) text) (λ places. cond (eqb places 0 || ltb 9 places) None (number_at places text >>= λ n. Some (n.0 * 10 ^ (9 - places), n.1))) (v, rest) e in
    digits_taken v first.0 text rest first.2

pub fraction_takes : (v : ℕ) (text rest : List ℕ) → fraction_at text ≡ Some (v, rest) → IsFraction v text rest
unfolding fraction_at
fraction_takes v [] rest e =
    let both = some_is (0, []) (v, rest) e in
    record { places = 0; number = 0; few = omega arith; fits = omega arith; spelled = ap (λ (p : ℕ × List ℕ). p.1) both; nanos = ap (λ (p : ℕ × List ℕ). p.0) both }
fraction_takes v (b ∷ text) rest e =
    elim (chosen (eqb b 46) (nanos_at text) (Some (0, b ∷ text)) (v, rest) e) [
      | inl dot ↦ rw (eqb-true b 46 dot.0) (nanos_taken v text rest dot.1)
      | inr none ↦ let both = some_is (0, b ∷ text) (v, rest) none.1 in
          record { places = 0; number = 0; few = omega arith; fits = omega arith; spelled = ap (λ (p : ℕ × List ℕ). p.1) both; nanos = ap (λ (p : ℕ × List ℕ). p.0) both }
    ]

length-digits : (k n : ℕ) → length (digits k n) ≡ k
unfolding digits
length-digits zero n = refl
length-digits (suc k) n = omega (arith, length-append (digits k (n / 10)) ((48 + n % 10) ∷ []), length-digits k (n / 10))

abbrev counts : ℕ → Bool
counts b = not (not (is_ascii_digit b))

prefix_len-digits : (k n : ℕ) (rest : List ℕ) → prefix_len counts (digits k n ++ rest) ≡ k + prefix_len counts rest
prefix_len-digits zero n rest = unfold digits in omega arith
prefix_len-digits (suc k) n rest =
    let test = is_digit n in
    let more : prefix_len counts ((48 + n % 10) ∷ rest) ≡ suc (prefix_len counts rest) = rw test (omega arith) in
    ap (prefix_len counts) (digits-last k n rest) ∙ prefix_len-digits k (n / 10) ((48 + n % 10) ∷ rest) ∙ omega (arith, more)

-- the digits end where something else stands
position-digits : (k n b : ℕ) (rest : List ℕ) → is_ascii_digit b ≡ false → position (λ c. not (is_ascii_digit c)) (digits k n ++ b ∷ rest) ≡ Some k
position-digits k n b rest other =
    let none : prefix_len counts (b ∷ rest) ≡ 0 = rw other in
    let all : prefix_len counts (digits k n ++ b ∷ rest) ≡ k = omega (arith, prefix_len-digits k n (b ∷ rest), none) in
    let long : ltb k (length (digits k n ++ b ∷ rest)) ≡ true = lt-ltb _ _ (omega (arith, length-append (digits k n) (b ∷ rest), length-digits k n)) in
    rw (all, long)

pub fraction_again : (places n b : ℕ) (rest : List ℕ) → places ≤ 9 → n < 10 ^ places → is_ascii_digit b ≡ false → eqb b 46 ≡ false → fraction_at (fraction_text places n ++ b ∷ rest) ≡ Some (n * 10 ^ (9 - places), b ∷ rest)
unfolding fraction_at nanos_at
fraction_again zero n b rest few fits other dot = let none : n ≡ 0 = omega arith in rw (dot, none)
fraction_again (suc places) n b rest few fits other dot =
    let low : ltb 9 (suc places) ≡ false = le-ltb 9 (suc places) (omega arith) in
    let some : eqb (suc places) 0 ≡ false = grind (arith, nat_tests) in
    rw (fraction_text-some (suc places) n some, position-digits (suc places) n b rest other, some, low, number_again (suc places) n (b ∷ rest) fits)

-- ---- the zone

pub record IsOffset (seconds : ℕ) (text : List ℕ) : Type 0 where
  pub hours : ℕ
  pub minutes : ℕ
  pub few_hours : hours ≤ 23
  pub few_minutes : minutes ≤ 59
  pub spelled : text ≡ digits 2 hours ++ 58 ∷ digits 2 minutes
  pub sum : hours * 3600 + minutes * 60 ≡ seconds

offset_parts : (seconds h m : ℕ) (text r₀ r₁ : List ℕ) → number_at 2 text ≡ Some (h, r₀) → behind 58 r₀ ≡ Some (m, r₁)
    → cond {A = Option ℕ} (ltb 23 h || ltb 59 m || not (eqb (length r₁) 0)) None (Some (h * 3600 + m * 60)) ≡ Some seconds → IsOffset seconds text
offset_parts seconds h m text r₀ r₁ e₀ e₁ e₂ =
    let test = missed (ltb 23 h || ltb 59 m || not (eqb (length r₁) 0)) (Some (h * 3600 + m * 60)) seconds e₂ in
    let parts = or_parts (ltb 23 h || ltb 59 m) (not (eqb (length r₁) 0)) test.0 in
    let limits = or_parts (ltb 23 h) (ltb 59 m) parts.0 in
    let end : r₁ ≡ [] = nil_from_length r₁ (ended (length r₁) parts.1) in
    let hours = number_takes 2 h text r₀ e₀ in
    let minutes = behind_takes 58 m r₀ r₁ e₁ in
    record {
      hours = h;
      minutes = m;
      few_hours = ltb-false 23 h limits.0;
      few_minutes = ltb-false 59 m limits.1;
      spelled = hours.0 ∙ ap (λ (t : List ℕ). digits 2 h ++ t) (minutes.0 ∙ ap (λ (t : List ℕ). 58 ∷ t) (ap (λ (t : List ℕ). digits 2 m ++ t) end ∙ append-nil (digits 2 m)));
      sum = some_is (h * 3600 + m * 60) seconds test.1;
    }

offset_takes : (seconds : ℕ) (text : List ℕ) → offset_at text ≡ Some seconds → IsOffset seconds text
unfolding offset_at
offset_takes seconds text e =
    by_some (number_at 2 text) _ seconds e (λ h e₀ f₀.
    by_some (behind 58 h.1) _ seconds f₀ (λ m e₁ f₁.
    offset_parts seconds h.0 m.0 text h.1 m.1 e₀ e₁ f₁))

offset_again : (hours minutes : ℕ) → hours ≤ 23 → minutes ≤ 59 → offset_at (digits 2 hours ++ 58 ∷ digits 2 minutes) ≡ Some (hours * 3600 + minutes * 60)
unfolding offset_at
offset_again hours minutes h m =
    let first : ltb 23 hours ≡ false = le-ltb 23 hours h in
    let second : ltb 59 minutes ≡ false = le-ltb 59 minutes m in
    let last : behind 58 (58 ∷ digits 2 minutes) ≡ Some (minutes, []) = ap (λ (t : List ℕ). behind 58 (58 ∷ t)) (sym (append-nil (digits 2 minutes))) ∙ behind_again 58 minutes [] (omega arith) in
    rw (number_again 2 hours (58 ∷ digits 2 minutes) (omega arith), last, first, second)

pub record IsZoneText (seconds : ℤ) (text : List ℕ) : Type 0 where
  pub zone : Zone
  pub valid : IsZone zone
  pub spelled : text ≡ zone_text zone
  pub shift : zone_seconds zone ≡ seconds

zulu_is : (b : ℕ) → (eqb b 90 || eqb b 122) ≡ true → IsLetter 90 b
zulu_is b e = grind (arith, nat_tests)

pub zone_takes : (seconds : ℤ) (text : List ℕ) → zone_at text ≡ Some seconds → IsZoneText seconds text
unfolding zone_at
zone_takes seconds [] e = absurd cc
zone_takes seconds (b ∷ text) e =
    elim (chosen ((eqb b 90 || eqb b 122) && eqb (length text) 0) (Some (pos 0)) (cond (eqb b 43) (offset_at text >>= λ s. Some (pos s)) (cond (eqb b 45) (offset_at text >>= λ s. Some (neg_ℤ (pos s))) None)) seconds e) [
      | inl z ↦ let parts = and_parts (eqb b 90 || eqb b 122) (eqb (length text) 0) z.0 in
          record { zone = utc b; valid = zulu_is b parts.0; spelled = ap (λ (t : List ℕ). b ∷ t) (nil_from_length text (eqb-true (length text) 0 parts.1)); shift = some_is (pos 0) seconds z.1 }
      | inr s ↦ elim (chosen (eqb b 43) (offset_at text >>= λ s. Some (pos s)) (cond (eqb b 45) (offset_at text >>= λ s. Some (neg_ℤ (pos s))) None) seconds s.1) [
        | inl plus ↦ let found = bind_some (offset_at text) (λ s. Some (pos s)) seconds plus.1 in
            let offset = offset_takes found.0 text found.1 in
            record { zone = ahead offset.hours offset.minutes; valid = (offset.few_hours, offset.few_minutes); spelled = ap (λ (c : ℕ). c ∷ text) (eqb-true b 43 plus.0) ∙ ap (λ (t : List ℕ). 43 ∷ t) offset.spelled; shift = ap pos offset.sum ∙ some_is (pos found.0) seconds found.2 }
        | inr other ↦ let minus = passed (eqb b 45) (offset_at text >>= λ s. Some (neg_ℤ (pos s))) seconds other.1 in
            let found = bind_some (offset_at text) (λ s. Some (neg_ℤ (pos s))) seconds minus.1 in
            let offset = offset_takes found.0 text found.1 in
            record { zone = after offset.hours offset.minutes; valid = (offset.few_hours, offset.few_minutes); spelled = ap (λ (c : ℕ). c ∷ text) (eqb-true b 45 minus.0) ∙ ap (λ (t : List ℕ). 45 ∷ t) offset.spelled; shift = ap (λ n. neg_ℤ (pos n)) offset.sum ∙ some_is (neg_ℤ (pos found.0)) seconds found.2 }
      ]
    ]

pub zone_again : (zone : Zone) → IsZone zone → zone_at (zone_text zone) ≡ Some (zone_seconds zone)
unfolding zone_at
zone_again (utc b) (inl e) = rw e
zone_again (utc b) (inr e) = rw e
zone_again (ahead hours minutes) h = rw (offset_again hours minutes h.0 h.1)
zone_again (after hours minutes) h = rw (offset_again hours minutes h.0 h.1)

-- a zone begins with neither a digit nor a dot
pub record IsZoneStart (text : List ℕ) : Type 0 where
  pub first : ℕ
  pub others : List ℕ
  pub whole : text ≡ first ∷ others
  pub no_digit : is_ascii_digit first ≡ false
  pub no_dot : eqb first 46 ≡ false

pub zone_starts : (zone : Zone) → IsZone zone → IsZoneStart (zone_text zone)
zone_starts (utc b) (inl e) = record { first = 90; others = []; whole = rw e; no_digit = refl; no_dot = refl }
zone_starts (utc b) (inr e) = record { first = 122; others = []; whole = rw e; no_digit = refl; no_dot = refl }
zone_starts (ahead hours minutes) h = record { first = 43; others = digits 2 hours ++ 58 ∷ digits 2 minutes; whole = refl; no_digit = refl; no_dot = refl }
zone_starts (after hours minutes) h = record { first = 45; others = digits 2 hours ++ 58 ∷ digits 2 minutes; whole = refl; no_digit = refl; no_dot = refl }

pub fraction_before_zone : (places n : ℕ) (text : List ℕ) → places ≤ 9 → n < 10 ^ places → IsZoneStart text → fraction_at (fraction_text places n ++ text) ≡ Some (n * 10 ^ (9 - places), text)
fraction_before_zone places n text few fits start = rw start.whole (fraction_again places n start.first start.others few fits start.no_digit start.no_dot)

-- so many digits of a fraction are below a second
pub nanos_below : (places n : ℕ) → places ≤ 9 → n < 10 ^ places → n * 10 ^ (9 - places) < 1_000_000_000
nanos_below places n few fits =
    let sum : places + (9 - places) ≡ 9 = omega arith in
    let whole : 10 ^ places * 10 ^ (9 - places) ≡ 1_000_000_000 = sym (pow-add 10 places (9 - places)) ∙ ap (λ (k : ℕ). 10 ^ k) sum in
    omega (arith, mul-le-mul_right {m = suc n} {n = 10 ^ places} (10 ^ (9 - places)) fits, suc-mul n (10 ^ (9 - places)), ten_pow-pos (9 - places))
