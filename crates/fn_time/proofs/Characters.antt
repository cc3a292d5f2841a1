-- The bytes of a character that isn't ASCII hold no `%`, so what jiff shows as one byte or one character has no part in a conversion.
use Rattle.std.proofs.Common.{◌≡◌, ℕ, zero, suc, ◌+◌, ◌<◌, ◌≤◌, ◌==◌, ◌&&◌, nat_le, Bool, true, false, List, [], ◌∷◌, ◌++◌, length, take, drop, get_or, cond, inl, inr, nat_lt, ◌/◌, refl, sym, ap, ◌∙◌, arith, if◌then◌else◌}
use Rattle.std.proofs.lemmas.Bool.Decides.{nat_tests}
use Rattle.std.specs.Prelude.{⊤}
use Rattle.std.specs.Str.{IsUtf8}
use Rattle.std.proofs.lemmas.Bool.{cases_lt, ltb-true}
use Rattle.std.proofs.lemmas.List.{append-nil}
use Rattle.std.proofs.lemmas.Str.{encode_ascii, inside_one, length-encode, len_utf8_bounds}
use lib.Utf8.{encode, encodes, next}
use Rattle.jiff_strtime.specs.Show.{sequence_len}
use Rattle.fn_time.proofs.Letters.{known_from}

abbrev pub HasNoSign : List ℕ → Type 0
HasNoSign [] = ⊤
HasNoSign (b ∷ bs) = ((b == 37) ≡ false) × HasNoSign bs

-- passing over bytes without a sign changes nothing
pub known_behind : (k : ℕ) (bs : List ℕ) → HasNoSign (take k bs) → known_from false bs ≡ known_from false (drop k bs)
known_behind zero bs none = refl
known_behind (suc k) [] none = refl
known_behind (suc k) (b ∷ bs) none = ap (λ sign. known_from sign bs) none.0 ∙ known_behind k bs none.1

high : (b : ℕ) → 128 ≤ b → (b == 37) ≡ false
high b low = grind (arith, nat_tests)

front_has_none : (xs l r : List ℕ) → HasNoSign xs → xs ++ r ≡ l → length l ≤ length xs → HasNoSign l
front_has_none xs [] r none is short = tt
front_has_none [] (b ∷ l) r none is short = absurd (omega (arith, short))
front_has_none (x ∷ xs) (b ∷ l) r none is short =
    let first : x ≡ b = ap (λ s. get_or s 0 0) is in
    (ap (λ c. c == 37) (sym first) ∙ none.0, front_has_none xs l r none.1 (ap (drop 1) is) (omega (arith, short)))

take_short : (k : ℕ) (bs : List ℕ) → length (take k bs) ≤ k
take_short zero bs = omega arith
take_short (suc k) [] = omega arith
take_short (suc k) (b ∷ bs) = omega (arith, take_short k bs)

-- by its first byte, how many bytes a character has at least
abbrev Leads : List ℕ → Type 0
Leads l = (192 ≤ get_or l 0 0 → 2 ≤ length l) × (224 ≤ get_or l 0 0 → 3 ≤ length l) × (240 ≤ get_or l 0 0 → 4 ≤ length l)

leads_by : (c : ℕ) (one two three : Bool) → nat_lt c 128 ≡ one → nat_lt c 2048 ≡ two → nat_lt c 65536 ≡ three
    → Leads (cond one (c ∷ []) (cond two ((192 + c / 64) ∷ next c ∷ []) (cond three ((224 + c / 4096) ∷ next (c / 64) ∷ next c ∷ []) ((240 + c / 262144) ∷ next (c / 4096) ∷ next (c / 64) ∷ next c ∷ []))))
leads_by c true two three a b d = let low = ltb-true c 128 a in (λ h. absurd (omega arith), λ h. absurd (omega arith), λ h. absurd (omega arith))
leads_by c false true three a b d = let low = ltb-true c 2048 b in (λ h. omega arith, λ h. absurd (omega arith), λ h. absurd (omega arith))
leads_by c false false true a b d = let low = ltb-true c 65536 d in (λ h. omega arith, λ h. omega arith, λ h. absurd (omega arith))
leads_by c false false false a b d = (λ h. omega arith, λ h. omega arith, λ h. omega arith)

leads : (c : ℕ) → Leads (encode c)
unfolding encode
leads c = leads_by c (nat_lt c 128) (nat_lt c 2048) (nat_lt c 65536) refl refl refl

-- the bytes of a character are high where the first is
none_of : (bs : List ℕ) → ((k : ℕ) → k < length bs → 128 ≤ get_or bs k 0) → HasNoSign bs
none_of [] all = tt
none_of (b ∷ bs) all = (high b (all 0 (omega arith)), none_of bs (λ k below. all (suc k) (omega (arith, below))))

first_of : (e r : List ℕ) → 0 < length e → get_or (e ++ r) 0 0 ≡ get_or e 0 0
first_of [] r some = absurd (omega (arith, some))
first_of (b ∷ e) r some = refl

lead_is : (b c : ℕ) (r l : List ℕ) → b ∷ l ≡ encode c ++ r → b ≡ get_or (encode c) 0 0
lead_is b c r l is = ap (λ s. get_or s 0 0) is ∙ first_of (encode c) r (omega (arith, length-encode c, len_utf8_bounds c))

encode_has_none : (c b : ℕ) (r l : List ℕ) → 128 ≤ b → b ∷ l ≡ encode c ++ r → HasNoSign (encode c)
encode_has_none c b r l low is =
    let first : b ≡ get_or (encode c) 0 0 = lead_is b c r l is in
    none_of (encode c) (λ k below. elim (cases_lt (get_or (encode c) k 0) 128) [
      | inl ascii ↦
          let same : c ≡ get_or (encode c) k 0 = inside_one c [] (encode c) k (sym (append-nil (encode c))) below ascii in
          let alone : get_or (encode c) 0 0 ≡ c = ap (λ s. get_or s 0 0) (encode_ascii c (omega arith)) in absurd (omega arith)
      | inr h ↦ h
    ])

-- the first character of a text, and the others
by_first : {R : Type 0} (b : ℕ) (l : List ℕ) → IsUtf8 (b ∷ l) → ((c : ℕ) (r : List ℕ) → b ∷ l ≡ encode c ++ r → R) → R
by_first {R} b l utf8 go = first utf8.0 utf8.1.1 where
  first : (cs : List ℕ) → encodes cs ≡ b ∷ l → R
  first [] is = absurd cc
  first (c ∷ cs) is = go c (encodes cs) (sym is)

plain_by : (b c k : ℕ) (bs r : List ℕ) → 128 ≤ b → b ∷ take k bs ≡ encode c ++ r → suc k ≤ length (encode c) → HasNoSign (b ∷ take k bs)
plain_by b c k bs r low is long = front_has_none (encode c) (b ∷ take k bs) r (encode_has_none c b r (take k bs) low is) (sym is) (omega (arith, take_short k bs, long))

two_plain : (b c : ℕ) (bs r : List ℕ) → 192 ≤ b → b ∷ take 1 bs ≡ encode c ++ r → HasNoSign (b ∷ take 1 bs)
two_plain b c bs r low is = let first = lead_is b c r (take 1 bs) is in plain_by b c 1 bs r (omega arith) is ((leads c).0 (omega arith))

three_plain : (b c : ℕ) (bs r : List ℕ) → 224 ≤ b → b ∷ take 2 bs ≡ encode c ++ r → HasNoSign (b ∷ take 2 bs)
three_plain b c bs r low is = let first = lead_is b c r (take 2 bs) is in plain_by b c 2 bs r (omega arith) is ((leads c).1 (omega arith))

four_plain : (b c : ℕ) (bs r : List ℕ) → 240 ≤ b → b ∷ take 3 bs ≡ encode c ++ r → HasNoSign (b ∷ take 3 bs)
four_plain b c bs r low is = let first = lead_is b c r (take 3 bs) is in plain_by b c 3 bs r (omega arith) is ((leads c).2 (omega arith))

-- so many bytes as the first tells, which are a text, hold no sign
abbrev IsPlainCharacter : ℕ → List ℕ → ℕ → Type 0
IsPlainCharacter b bs k = IsUtf8 (take k (b ∷ bs)) → HasNoSign (take k (b ∷ bs))

by_length : (P : ℕ → Type 0) (x : Bool) (m n : ℕ) → (x ≡ true → P m) → P n → P (if x then m else n)
by_length P true m n first second = first refl
by_length P false m n first second = second

from : (low b : ℕ) (rest : Bool) → (nat_le low b && rest) ≡ true → low ≤ b
from low b rest is = grind (arith, nat_tests)

pub character_is_plain : (b : ℕ) (bs : List ℕ) → 128 ≤ b → IsPlainCharacter b bs (sequence_len b)
character_is_plain b bs low =
    let P : ℕ → Type 0 = IsPlainCharacter b bs in
    by_length P (nat_le 192 b && nat_le b 223) 2 _ (λ is utf8. by_first b (take 1 bs) utf8 (λ c r same. two_plain b c bs r (from 192 b _ is) same))
    (by_length P (nat_le 224 b && nat_le b 239) 3 _ (λ is utf8. by_first b (take 2 bs) utf8 (λ c r same. three_plain b c bs r (from 224 b _ is) same))
    (by_length P (nat_le 240 b && nat_le b 247) 4 1 (λ is utf8. by_first b (take 3 bs) utf8 (λ c r same. four_plain b c bs r (from 240 b _ is) same))
    (λ utf8. (high b low, tt))))
