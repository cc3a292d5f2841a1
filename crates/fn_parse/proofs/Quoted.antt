-- Texts between quotes, as the code cuts them.
use Rattle.std.proofs.Common.{◌≡◌, ◌≢◌, ◌<◌, ◌≤◌, ◌+◌, ◌-◌, ◌==◌, ◌&&◌, ◌||◌, ℕ, zero, suc, Bool, true, false, List, [], ◌∷◌, ◌++◌, take, drop, length, get_or, Option, Some, None, option_map, refl, sym, ap, ◌∙◌, subst, append_assoc, arith, if◌then◌else◌, inl, inr}
use Rattle.std.proofs.lemmas.Bool.Decides.{eqb_tells}
use Rattle.std.proofs.lemmas.List.{length-drop}
use Rattle.std.proofs.lemmas.Str.{IsCharBoundary-after_ascii, IsCharBoundary-before_ascii, IsUtf8-drop}
use Rattle.std.specs.Str.{IsCharBoundary, IsUtf8}
use Rattle.fn_parse.specs.Quotes.{behind_unit, closing_place, escaped, is_mark, unescaped, IsClosed}

-- ---- the walk to the closing quote

two_more : (o : Option ℕ) (l : ℕ) → option_map (λ n. suc (suc n)) o ≡ option_map (λ n. (suc (suc l) - l) + n) o
two_more None l = refl
two_more (Some n) l = let sum : suc (suc n) ≡ (suc (suc l) - l) + n = omega arith in ap Some sum

one_more : (o : Option ℕ) (l : ℕ) → option_map (λ n. suc n) o ≡ option_map (λ n. (suc (suc l) - suc l) + n) o
one_more None l = refl
one_more (Some n) l = let sum : suc n ≡ (suc (suc l) - suc l) + n = omega arith in ap Some sum

unit_at : (t : Bool) (c : ℕ) (s : List ℕ) →
    (if t then option_map (λ n. suc (suc n)) (closing_place s) else option_map (λ n. suc n) (closing_place (c ∷ s))) ≡ option_map (λ n. (suc (suc (length s)) - length (if t then s else c ∷ s)) + n) (closing_place (if t then s else c ∷ s))
unit_at true c s = two_more (closing_place s) (length s)
unit_at false c s = one_more (closing_place (c ∷ s)) (length s)

-- behind a byte that closes nothing
unit_is : (b : ℕ) (s : List ℕ) → (b == 0x22) ≡ false → closing_place (b ∷ s) ≡ option_map (λ n. (suc (length s) - length (behind_unit b s)) + n) (closing_place (behind_unit b s))
unit_is b [] plain = ap (λ t. if t then Some 0 else None) plain
unit_is b (c ∷ s) plain =
    ap (λ t. if t then Some 0 else if b == 0x5C && is_mark c then option_map (λ n. suc (suc n)) (closing_place s) else option_map (λ n. suc n) (closing_place (c ∷ s))) plain ∙ unit_at (b == 0x5C && is_mark c) c s

no_longer : (b : ℕ) (s : List ℕ) → length (behind_unit b s) ≤ length s
no_longer b [] = omega arith
no_longer b (c ∷ s) = by (b == 0x5C && is_mark c) where
  by : (t : Bool) → length (if t then s else c ∷ s) ≤ length (c ∷ s)
  by true = omega arith
  by false = omega arith

joined : (T L M : ℕ) (o : Option ℕ) → M ≤ L → L ≤ T → option_map (λ n. (T - M) + n) o ≡ option_map (λ n. (T - L) + n) (option_map (λ n. (L - M) + n) o)
joined T L M None less few = refl
joined T L M (Some n) less few = let sum : (T - M) + n ≡ (T - L) + ((L - M) + n) = omega (arith, less, few) in ap Some sum

next_no_longer : (b : ℕ) (left rest next : List ℕ) → left ≡ b ∷ rest → next ≡ behind_unit b rest → length next ≤ length left
next_no_longer b left rest next is next_is =
    let long : length left ≡ suc (length rest) = ap length is in
    let same : length next ≡ length (behind_unit b rest) = ap length next_is in
    let less : length (behind_unit b rest) ≤ length rest = no_longer b rest in omega (arith, long, same, less)

pub next_within : (b T : ℕ) (left rest next : List ℕ) → left ≡ b ∷ rest → next ≡ behind_unit b rest → length left ≤ T → length next ≤ T
next_within b T left rest next is next_is few = let less = next_no_longer b left rest next is next_is in omega (arith, few, less)

not_quote : (b : ℕ) → b ≢ 0x22 → (b == 0x22) ≡ false
not_quote b apart = elim (eqb_tells b 0x22) [ inl same ↦ absurd (apart same.1) | inr differs ↦ differs.0 ]

pub next_whole : (b T : ℕ) (left rest next : List ℕ) (whole : Option ℕ) → b ≢ 0x22 → left ≡ b ∷ rest → next ≡ behind_unit b rest → length left ≤ T →
    option_map (λ n. (T - length left) + n) (closing_place left) ≡ whole → option_map (λ n. (T - length next) + n) (closing_place next) ≡ whole
next_whole b T left rest next whole apart is next_is few before =
    let long : suc (length rest) ≡ length left = sym (ap length is) in
    let step : closing_place left ≡ option_map (λ n. (length left - length next) + n) (closing_place next) =
    ap closing_place is ∙ unit_is b rest (not_quote b apart)
    ∙ ap (λ l. option_map (λ n. (l - length (behind_unit b rest)) + n) (closing_place (behind_unit b rest))) long
    ∙ ap (λ t. option_map (λ n. (length left - length t) + n) (closing_place t)) (sym next_is) in
    joined T (length left) (length next) (closing_place next) (next_no_longer b left rest next is next_is) few
    ∙ ap (option_map (λ n. (T - length left) + n)) (sym step) ∙ before

pub from_start : (s : List ℕ) → option_map (λ n. (length s - length s) + n) (closing_place s) ≡ closing_place s
from_start s = nothing_more (closing_place s) where
  nothing_more : (o : Option ℕ) → option_map (λ n. (length s - length s) + n) o ≡ o
  nothing_more None = refl
  nothing_more (Some n) = let sum : (length s - length s) + n ≡ n = omega arith in ap Some sum

-- ---- where the quote stands

first_behind : (n : ℕ) (s : List ℕ) → get_or (drop n s) 0 0 ≡ get_or s n 0
first_behind zero s = refl
first_behind (suc n) [] = refl
first_behind (suc n) (b ∷ s) = first_behind n s

drop_one : (n : ℕ) (s : List ℕ) → drop 1 (drop n s) ≡ drop (suc n) s
drop_one zero s = refl
drop_one (suc n) [] = refl
drop_one (suc n) (b ∷ s) = drop_one n s

at_first : (b : ℕ) (s : List ℕ) (n : ℕ) → b ≡ 0x22 → 0 ≡ n → (n < length (b ∷ s)) × (get_or (b ∷ s) n 0 ≡ 0x22)
at_first b s zero same is = (omega arith, same)
at_first b s (suc n) same is = absurd cc

two_on : (b c : ℕ) (s : List ℕ) (o : Option ℕ) (n : ℕ) → ((m : ℕ) → o ≡ Some m → (m < length s) × (get_or s m 0 ≡ 0x22)) → option_map (λ m. suc (suc m)) o ≡ Some n → (n < length (b ∷ c ∷ s)) × (get_or (b ∷ c ∷ s) n 0 ≡ 0x22)
two_on b c s None n later is = absurd cc
two_on b c s (Some m) zero later is = absurd cc
two_on b c s (Some m) (suc zero) later is = absurd cc
two_on b c s (Some m) (suc (suc n)) later is = let same : m ≡ n = cc in let found = later n (ap Some same) in (omega (arith, found.0), found.1)

one_on : (b : ℕ) (s : List ℕ) (o : Option ℕ) (n : ℕ) → ((m : ℕ) → o ≡ Some m → (m < length s) × (get_or s m 0 ≡ 0x22)) → option_map (λ m. suc m) o ≡ Some n → (n < length (b ∷ s)) × (get_or (b ∷ s) n 0 ≡ 0x22)
one_on b s None n later is = absurd cc
one_on b s (Some m) zero later is = absurd cc
one_on b s (Some m) (suc n) later is = let same : m ≡ n = cc in let found = later n (ap Some same) in (omega (arith, found.0), found.1)

by_unit : (t : Bool) (b c : ℕ) (s : List ℕ) (n : ℕ) → ((m : ℕ) → closing_place s ≡ Some m → (m < length s) × (get_or s m 0 ≡ 0x22)) →
    ((m : ℕ) → closing_place (c ∷ s) ≡ Some m → (m < length (c ∷ s)) × (get_or (c ∷ s) m 0 ≡ 0x22)) →
    (if t then option_map (λ m. suc (suc m)) (closing_place s) else option_map (λ m. suc m) (closing_place (c ∷ s))) ≡ Some n → (n < length (b ∷ c ∷ s)) × (get_or (b ∷ c ∷ s) n 0 ≡ 0x22)
by_unit true b c s n two one is = two_on b c s (closing_place s) n two is
by_unit false b c s n two one is = one_on b (c ∷ s) (closing_place (c ∷ s)) n one is

some_same : (m n : ℕ) → Some m ≡ Some n → m ≡ n
some_same m n is = cc

closing_quote : (s : List ℕ) (n : ℕ) → closing_place s ≡ Some n → (n < length s) × (get_or s n 0 ≡ 0x22)
closing_quote [] n is = absurd cc
closing_quote (b ∷ []) n is = elim (eqb_tells b 0x22) [
  | inl same ↦ at_first b [] n same.1 (some_same 0 n (sym (ap (λ t. if t then Some 0 else None) same.0) ∙ is))
  | inr apart ↦ let none : None ≡ Some n = sym (ap (λ t. if t then Some 0 else None) apart.0) ∙ is in absurd cc
]
closing_quote (b ∷ (c ∷ s)) n is = elim (eqb_tells b 0x22) [
  | inl same ↦ at_first b (c ∷ s) n same.1 (some_same 0 n (sym (ap (λ t. if t then Some 0 else if b == 0x5C && is_mark c then option_map (λ m. suc (suc m)) (closing_place s) else option_map (λ m. suc m) (closing_place (c ∷ s))) same.0) ∙ is))
  | inr apart ↦
      by_unit (b == 0x5C && is_mark c) b c s n (closing_quote s) (closing_quote (c ∷ s))
      (sym (ap (λ t. if t then Some 0 else if b == 0x5C && is_mark c then option_map (λ m. suc (suc m)) (closing_place s) else option_map (λ m. suc m) (closing_place (c ∷ s))) apart.0) ∙ is)
]

pub quote_boundary : (s : List ℕ) (n : ℕ) → closing_place s ≡ Some n → IsCharBoundary s n
quote_boundary s n closes =
    let quote = closing_quote s n closes in let P : ℕ → Type 0 = λ b. b < 128 in IsCharBoundary-before_ascii s n quote.0 (subst P (sym quote.1) (omega arith))

pub behind_boundary : (s closing : List ℕ) (n : ℕ) → IsUtf8 s → closing_place s ≡ Some n → closing ≡ drop n s → IsCharBoundary closing 1
behind_boundary s closing n utf8 closes is =
    let quote = closing_quote s n closes in
    let P : List ℕ → Type 0 = IsUtf8 in
    let Q : ℕ → Type 0 = λ b. b < 128 in
    let whole : IsUtf8 closing = subst P (sym is) (IsUtf8-drop s n utf8 (quote_boundary s n closes)) in
    let long : length closing ≡ length s - n = ap length is ∙ length-drop n s in
    let first : get_or closing 0 0 ≡ 0x22 = ap (λ t. get_or t 0 0) is ∙ first_behind n s ∙ quote.1 in
    IsCharBoundary-after_ascii closing 0 whole (omega (arith, long, quote.0)) (subst Q (sym first) (omega arith))

pub closed : (s inner closing behind : List ℕ) (n : ℕ) → closing_place s ≡ Some n → inner ≡ take n s → closing ≡ drop n s → behind ≡ drop 1 closing → IsClosed s inner behind
closed s inner closing behind n closes inner_is closing_is behind_is =
    record { place = n; closes = closes; before = inner_is; rest = behind_is ∙ ap (drop 1) closing_is ∙ drop_one n s }

-- ---- what escapes stand for

plain_byte : (b : ℕ) (s : List ℕ) → b ≢ 0x5C → unescaped (b ∷ s) ≡ b ∷ unescaped s
plain_byte b [] apart = refl
plain_byte b (c ∷ s) apart = elim (eqb_tells b 0x5C) [
  | inl same ↦ absurd (apart same.1)
  | inr differs ↦ ap (λ t. if t && is_mark c then c ∷ unescaped s else b ∷ unescaped (c ∷ s)) differs.0
]

plain_front : (before rest : List ℕ) → ((i : ℕ) → i < length before → get_or before i 0 ≢ 0x5C) → unescaped (before ++ rest) ≡ before ++ unescaped rest
plain_front [] rest apart = refl
plain_front (b ∷ bs) rest apart = plain_byte b (bs ++ rest) (apart 0 (omega arith)) ∙ ap (λ t. b ∷ t) (plain_front bs rest (λ i few. apart (suc i) (omega (arith, few))))

pub no_escape : (s : List ℕ) → ((i : ℕ) → i < length s → get_or s i 0 ≢ 0x5C) → unescaped s ≡ s
no_escape [] apart = refl
no_escape (b ∷ bs) apart = plain_byte b bs (apart 0 (omega arith)) ∙ ap (λ t. b ∷ t) (no_escape bs (λ i few. apart (suc i) (omega (arith, few))))

not_mark : (c : ℕ) → c ≢ 0x22 → c ≢ 0x5C → is_mark c ≡ false
not_mark c quote backslash = elim (eqb_tells c 0x22) [
  | inl same ↦ absurd (quote same.1)
  | inr differs ↦ ap (λ t. t || c == 0x5C) differs.0 ∙ elim (eqb_tells c 0x5C) [ inl same ↦ absurd (backslash same.1) | inr other ↦ other.0 ]
]

pub lone_backslash : (s : List ℕ) → ((rest : List ℕ) → s ≢ 0x22 ∷ rest) → ((rest : List ℕ) → s ≢ 0x5C ∷ rest) → unescaped (0x5C ∷ s) ≡ 0x5C ∷ unescaped s
lone_backslash [] quote backslash = refl
lone_backslash (c ∷ s) quote backslash =
    ap (λ t. if t then c ∷ unescaped s else 0x5C ∷ unescaped (c ∷ s)) (not_mark c (λ same. quote s (ap (λ d. d ∷ s) same)) (λ same. backslash s (ap (λ d. d ∷ s) same)))

-- one cut more
pub escape_on : (done pushed after front stands left behind rest whole : List ℕ) → left ≡ front ++ (0x5C ∷ behind) → ((i : ℕ) → i < length front → get_or front i 0 ≢ 0x5C) → unescaped (0x5C ∷ behind) ≡ stands ++ unescaped rest →
    pushed ≡ done ++ front → after ≡ pushed ++ stands → done ++ unescaped left ≡ whole → after ++ unescaped rest ≡ whole
escape_on done pushed after front stands left behind rest whole parts apart escape first second before =
    ap (λ t. t ++ unescaped rest) second ∙ append_assoc pushed stands (unescaped rest) ∙ ap (λ t. pushed ++ t) (sym escape) ∙ ap (λ t. t ++ unescaped (0x5C ∷ behind)) first
    ∙ append_assoc done front (unescaped (0x5C ∷ behind)) ∙ ap (λ t. done ++ t) (sym (plain_front front (0x5C ∷ behind) apart)) ∙ ap (λ t. done ++ unescaped t) (sym parts) ∙ before

-- ---- marks to be escaped

pub unmarked : (s : List ℕ) → ((k : ℕ) → k < length s → is_mark (get_or s k 0) ≡ false) → escaped s ≡ s
unmarked [] plain = refl
unmarked (b ∷ s) plain = ap (λ t. if t then 0x5C ∷ b ∷ escaped s else b ∷ escaped s) (plain 0 (omega arith)) ∙ ap (λ t. b ∷ t) (unmarked s (λ k few. plain (suc k) (omega (arith, few))))

unmarked_front : (s : List ℕ) (n : ℕ) → n ≤ length s → ((k : ℕ) → k < n → is_mark (get_or s k 0) ≡ false) → escaped s ≡ take n s ++ escaped (drop n s)
unmarked_front s zero few plain = refl
unmarked_front [] (suc n) few plain = absurd (omega (arith, few))
unmarked_front (b ∷ s) (suc n) few plain =
    ap (λ t. if t then 0x5C ∷ b ∷ escaped s else b ∷ escaped s) (plain 0 (omega arith)) ∙ ap (λ t. b ∷ t) (unmarked_front s n (omega (arith, few)) (λ k less. plain (suc k) (omega (arith, less))))

marked_first : (t : List ℕ) → 0 < length t → is_mark (get_or t 0 0) ≡ true → escaped t ≡ 0x5C ∷ (take 1 t ++ escaped (drop 1 t))
marked_first [] some marked = absurd (omega (arith, some))
marked_first (b ∷ s) some marked = ap (λ t. if t then 0x5C ∷ b ∷ escaped s else b ∷ escaped s) marked

-- what is known of the bytes of a text
pub with_text : (bytes s : List ℕ) (n : ℕ) → bytes ≡ s → ((k : ℕ) → k < n → is_mark (get_or bytes k 0) ≡ false) → (k : ℕ) → k < n → is_mark (get_or s k 0) ≡ false
with_text bytes s n same plain k few = let P : List ℕ → Type 0 = λ t. is_mark (get_or t k 0) ≡ false in subst P same (plain k few)

mark_ascii : (c : ℕ) → is_mark c ≡ true → c < 128
mark_ascii c marked = elim (eqb_tells c 0x22) [
  | inl same ↦ let is = same.1 in omega (arith, is)
  | inr apart ↦ elim (eqb_tells c 0x5C) [
    | inl same ↦ let is = same.1 in omega (arith, is)
    | inr other ↦ let neither : true ≡ false = sym marked ∙ ap (λ t. t || c == 0x5C) apart.0 ∙ other.0 in absurd cc
  ]
]

pub mark_boundary : (s : List ℕ) (n : ℕ) → n < length s → is_mark (get_or s n 0) ≡ true → IsCharBoundary s n
mark_boundary s n below marked = IsCharBoundary-before_ascii s n below (mark_ascii (get_or s n 0) marked)

first_of_drop : (s marked : List ℕ) (n : ℕ) → marked ≡ drop n s → get_or marked 0 0 ≡ get_or s n 0
first_of_drop s marked n is = ap (λ t. get_or t 0 0) is ∙ first_behind n s

pub behind_mark_boundary : (s marked : List ℕ) (n : ℕ) → IsUtf8 s → n < length s → is_mark (get_or s n 0) ≡ true → marked ≡ drop n s → IsCharBoundary marked 1
behind_mark_boundary s marked n utf8 below mark is =
    let P : List ℕ → Type 0 = IsUtf8 in
    let Q : ℕ → Type 0 = λ b. b < 128 in
    let whole : IsUtf8 marked = subst P (sym is) (IsUtf8-drop s n utf8 (mark_boundary s n below mark)) in
    let long : length marked ≡ length s - n = ap length is ∙ length-drop n s in
    IsCharBoundary-after_ascii marked 0 whole (omega (arith, long, below)) (subst Q (sym (first_of_drop s marked n is)) (mark_ascii (get_or s n 0) mark))

pub cut_at_mark : (s before marked mark behind : List ℕ) (n : ℕ) → n < length s → ((k : ℕ) → k < n → is_mark (get_or s k 0) ≡ false) → is_mark (get_or s n 0) ≡ true →
    before ≡ take n s → marked ≡ drop n s → mark ≡ take 1 marked → behind ≡ drop 1 marked → (escaped s ≡ before ++ (0x5C ∷ (mark ++ escaped behind))) × (length behind < length s)
cut_at_mark s before marked mark behind n below plain marks before_is marked_is mark_is behind_is =
    let long : length marked ≡ length s - n = ap length marked_is ∙ length-drop n s in
    let less : length behind ≡ length marked - 1 = ap length behind_is ∙ length-drop 1 marked in
    let first : escaped marked ≡ 0x5C ∷ (take 1 marked ++ escaped (drop 1 marked)) = marked_first marked (omega (arith, long, below)) (ap is_mark (first_of_drop s marked n marked_is) ∙ marks) in (
      unmarked_front s n (omega (arith, below)) plain ∙ ap (λ t. take n s ++ escaped t) (sym marked_is) ∙ ap (λ t. take n s ++ t) first
          ∙ ap (λ t. t ++ (0x5C ∷ (take 1 marked ++ escaped (drop 1 marked)))) (sym before_is) ∙ ap (λ t. before ++ (0x5C ∷ (t ++ escaped (drop 1 marked)))) (sym mark_is) ∙ ap (λ t. before ++ (0x5C ∷ (mark ++ escaped t))) (sym behind_is),
      omega (arith, long, less, below),
    )
