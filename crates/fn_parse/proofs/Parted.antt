-- Only a text with fields is read as an object.
use Rattle.std.proofs.Common.{◌≡◌, ◌<◌, ◌≤◌, ◌==◌, ◌&&◌, ◌||◌, ◌⊎◌, ℕ, zero, suc, Bool, true, false, List, [], ◌∷◌, ◌++◌, take, drop, length, Option, Some, None, option_map, codes, refl, sym, ap, ◌∙◌, subst, arith, if◌then◌else◌, inl, inr}
use Rattle.std.proofs.lemmas.Bool.{and_parts, true≢false}
use Rattle.std.proofs.lemmas.Bool.Decides.{eqb_tells}
use Rattle.std.proofs.lemmas.List.{length-drop, take-append-drop}
use Rattle.std.specs.Prelude.{⊤}
use Rattle.vrl_value.specs.Tree.{Tree, object, Members, no_members, put}
use Rattle.vrl_builtin.specs.Rows.{Answer, failure, value}
use Rattle.fn_parse.specs.KeyValue.{begins, entry, fault, field_at, first_place, is_field_end, is_key_end, plain_value, quoted_up_to, value_at, with_key, with_value, FieldAt}
use Rattle.fn_parse.specs.KeyValueText.{no_byte, quote, backslash, byte, no_field, delimiter, alone, plain, quoted, put_all, takes_next, Fields, HasFields, IsKey, IsWritten, NoneWithin, OnlyFieldsAreRead}
use Rattle.fn_parse.specs.ParseKeyValue.{field_tree, fields_from, is_nothing}
use Rattle.fn_parse.specs.Quotes.{closing_place, is_mark, unescaped}
use Rattle.fn_parse.proofs.Cuts.{begun, place_if}
use Rattle.fn_parse.proofs.Told.{lone_stays, some_byte, Stops}
use Rattle.fn_parse.proofs.Walked.{delimiter_on, fault_on, field_on, field_shorter}

-- ---- up to the first place

none_before : (test : List ℕ → Bool) (s : List ℕ) → NoneWithin test (take (first_place test s) s) (drop (first_place test s) s)
none_before test [] = tt
none_before test (b ∷ s) = by (test (b ∷ s)) refl (none_before test s) where
  by : (t : Bool) → test (b ∷ s) ≡ t → NoneWithin test (take (first_place test s) s) (drop (first_place test s) s) →
      NoneWithin test (take (place_if t (first_place test s)) (b ∷ s)) (drop (place_if t (first_place test s)) (b ∷ s))
  by true is later = tt
  by false is later = (ap (λ t. test (b ∷ t)) (take-append-drop (first_place test s) s) ∙ is, later)

stops_there : (test : List ℕ → Bool) (s : List ℕ) → Stops test (drop (first_place test s) s)
stops_there test [] = tt
stops_there test (b ∷ s) = by (test (b ∷ s)) refl (stops_there test s) where
  by : (t : Bool) → test (b ∷ s) ≡ t → Stops test (drop (first_place test s) s) → Stops test (drop (place_if t (first_place test s)) (b ∷ s))
  by true is later = is
  by false is later = later

second_so : (a b : Bool) → (a || b) ≡ true → a ≡ false → b ≡ true
second_so true b is not_first = absurd (true≢false not_first)
second_so false b is not_first = is

key_ends : (k f rest : List ℕ) → Stops (is_key_end k f) rest → begins k rest ≡ false → is_field_end f rest ≡ true
key_ends k f [] stops not_key = refl
key_ends k f (b ∷ s) stops not_key = second_so (begins k (b ∷ s)) (begins f (b ∷ s)) stops not_key

value_ends : (f rest : List ℕ) → Stops (begins f) rest → is_field_end f rest ≡ true
value_ends f [] stops = refl
value_ends f (b ∷ s) stops = stops

-- ---- what stands between quotes

record IsClosedAt (s : List ℕ) (m : ℕ) : Type 0 where
  pub written : IsWritten (take m s) (unescaped (take m s))
  pub parts : s ≡ take m s ++ (0x22 ∷ drop (suc m) s)

closed_first : (b : ℕ) (s : List ℕ) (m : ℕ) → b ≡ 0x22 → 0 ≡ m → IsClosedAt (b ∷ s) m
closed_first b s zero same is = record { written = no_byte; parts = ap (λ c. c ∷ s) same }
closed_first b s (suc m) same is = absurd cc

one_of : (c : ℕ) → is_mark c ≡ true → (c ≡ 0x22) ⊎ (c ≡ 0x5C)
one_of c is = elim (eqb_tells c 0x22) [
  | inl same ↦ inl same.1
  | inr apart ↦ elim (eqb_tells c 0x5C) [
    | inl same ↦ inr same.1
    | inr other ↦ let neither : true ≡ false = sym is ∙ ap (λ t. t || c == 0x5C) apart.0 ∙ other.0 in absurd (true≢false neither)
  ]
]

is_byte : (b n : ℕ) → (b == n) ≡ true → b ≡ n
is_byte b n is = elim (eqb_tells b n) [ inl same ↦ same.1 | inr apart ↦ absurd (true≢false (sym is ∙ apart.0)) ]

two_written : (b c : ℕ) (inner : List ℕ) → (b == 0x5C && is_mark c) ≡ true → IsWritten inner (unescaped inner) → IsWritten (b ∷ (c ∷ inner)) (unescaped (b ∷ (c ∷ inner)))
two_written b c inner is written =
    let both = and_parts (b == 0x5C) (is_mark c) is in
    let P : ℕ → ℕ → Type 0 = λ x y. IsWritten (x ∷ (y ∷ inner)) (unescaped (x ∷ (y ∷ inner))) in
    let first : 0x5C ≡ b = sym (is_byte b 0x5C both.0) in
    elim (one_of c both.1) [
      | inl same ↦ subst (λ x. P x c) first (subst (P 0x5C) (sym same) (quote written))
      | inr same ↦ subst (λ x. P x c) first (subst (P 0x5C) (sym same) (backslash written))
    ]

two_closed : (b c : ℕ) (s : List ℕ) (o : Option ℕ) (m : ℕ) → (b == 0x5C && is_mark c) ≡ true → ((n : ℕ) → o ≡ Some n → IsClosedAt s n) → option_map (λ n. suc (suc n)) o ≡ Some m → IsClosedAt (b ∷ (c ∷ s)) m
two_closed b c s None m takes later is = absurd cc
two_closed b c s (Some n) zero takes later is = absurd cc
two_closed b c s (Some n) (suc zero) takes later is = absurd cc
two_closed b c s (Some n) (suc (suc m)) takes later is =
    let same : n ≡ m = cc in
    let closed = later m (ap Some same) in
    record { written = two_written b c (take m s) takes closed.written; parts = ap (λ t. b ∷ (c ∷ t)) closed.parts }

left_false : (a b : Bool) → (a && b) ≡ false → b ≡ true → a ≡ false
left_false true b is second = absurd (true≢false (sym second ∙ is))
left_false false b is second = refl

lone_here : (b c : ℕ) (s : List ℕ) (m : ℕ) → (b == 0x5C && is_mark c) ≡ false → IsClosedAt (c ∷ s) m → takes_next b (take m (c ∷ s)) ≡ false
lone_here b c s zero takes closed =
    let front : c ∷ s ≡ 0x22 ∷ s = closed.parts in let quote_here : c ≡ 0x22 = cc in left_false (b == 0x5C) (is_mark c) takes (ap is_mark quote_here)
lone_here b c s (suc m) takes closed = takes

one_closed : (b c : ℕ) (s : List ℕ) (o : Option ℕ) (m : ℕ) → (b == 0x22) ≡ false → (b == 0x5C && is_mark c) ≡ false → ((n : ℕ) → o ≡ Some n → IsClosedAt (c ∷ s) n) → option_map (λ n. suc n) o ≡ Some m → IsClosedAt (b ∷ (c ∷ s)) m
one_closed b c s None m other takes later is = absurd cc
one_closed b c s (Some n) zero other takes later is = absurd cc
one_closed b c s (Some n) (suc m) other takes later is =
    let same : n ≡ m = cc in
    let closed = later m (ap Some same) in
    let inner = take m (c ∷ s) in
    let lone = lone_here b c s m takes closed in
    let P : List ℕ → Type 0 = λ t. IsWritten (b ∷ inner) t in
    record { written = subst P (sym (lone_stays b inner lone)) (byte b other lone closed.written); parts = ap (λ t. b ∷ t) closed.parts }

unit_closed : (t : Bool) (b c : ℕ) (s : List ℕ) (m : ℕ) → (b == 0x22) ≡ false → (b == 0x5C && is_mark c) ≡ t → ((n : ℕ) → closing_place s ≡ Some n → IsClosedAt s n) → ((n : ℕ) → closing_place (c ∷ s) ≡ Some n → IsClosedAt (c ∷ s) n) →
    (if t then option_map (λ n. suc (suc n)) (closing_place s) else option_map (λ n. suc n) (closing_place (c ∷ s))) ≡ Some m → IsClosedAt (b ∷ (c ∷ s)) m
unit_closed true b c s m other takes two one is = two_closed b c s (closing_place s) m takes two is
unit_closed false b c s m other takes two one is = one_closed b c s (closing_place (c ∷ s)) m other takes one is

same_place : (m n : ℕ) → Some m ≡ Some n → m ≡ n
same_place m n is = cc

closed_at : (s : List ℕ) (m : ℕ) → closing_place s ≡ Some m → IsClosedAt s m
closed_at [] m is = absurd cc
closed_at (b ∷ []) m is = elim (eqb_tells b 0x22) [
  | inl same ↦ closed_first b [] m same.1 (same_place 0 m (sym (ap (λ t. if t then Some 0 else None) same.0) ∙ is))
  | inr apart ↦ let none : None ≡ Some m = sym (ap (λ t. if t then Some 0 else None) apart.0) ∙ is in absurd cc
]
closed_at (b ∷ (c ∷ s)) m is = elim (eqb_tells b 0x22) [
  | inl same ↦ closed_first b (c ∷ s) m same.1 (same_place 0 m (sym (ap (λ t. if t then Some 0 else if b == 0x5C && is_mark c then option_map (λ n. suc (suc n)) (closing_place s) else option_map (λ n. suc n) (closing_place (c ∷ s))) same.0) ∙ is))
  | inr apart ↦
      unit_closed (b == 0x5C && is_mark c) b c s m apart.0 refl (closed_at s) (closed_at (c ∷ s))
      (sym (ap (λ t. if t then Some 0 else if b == 0x5C && is_mark c then option_map (λ n. suc (suc n)) (closing_place s) else option_map (λ n. suc n) (closing_place (c ∷ s))) apart.0) ∙ is)
]

-- ---- a value

-- where a value is found, a text that goes on with fields behind it has a field with it
abbrev HasValue : (k f key u : List ℕ) → Option (List ℕ × List ℕ) → Type 0
HasValue k f key u None = ⊤
HasValue k f key u (Some w) = (es : Fields) → HasFields k f w.1 es → HasFields k f (key ++ (k ++ u)) ((key, Some w.0) ∷ es)

plain_has : (k f key u : List ℕ) → IsKey k f key (k ++ u) → begins (0x22 ∷ []) u ≡ false → HasValue k f key u (Some (plain_value f u))
plain_has k f key u is other es has =
    let n = first_place (begins f) u in
    let whole : take n u ++ drop n u ≡ u = take-append-drop n u in
    let P : List ℕ → Type 0 = λ t. IsKey k f key (k ++ t) in
    let Q : List ℕ → Type 0 = λ t. HasFields k f (key ++ (k ++ t)) ((key, Some (take n u)) ∷ es) in
    subst Q whole (plain key (take n u) (subst P (sym whole) is) (none_before (begins f) u, ap (begins (0x22 ∷ [])) whole ∙ other) (value_ends f (drop n u) (stops_there (begins f) u)) has)

quoted_has : (k f key s : List ℕ) (o : Option ℕ) → IsKey k f key (k ++ (0x22 ∷ s)) → closing_place s ≡ o → HasValue k f key (0x22 ∷ s) (quoted_up_to f s o)
quoted_has k f key s None is found = tt
quoted_has k f key s (Some m) is found = by (is_field_end f (drop (suc m) s)) refl where
  by : (t : Bool) → is_field_end f (drop (suc m) s) ≡ t → HasValue k f key (0x22 ∷ s) (if t then Some (unescaped (take m s), drop (suc m) s) else None)
  by false ends = tt
  by true ends = λ es has.
      let closed = closed_at s m found in
      let P : List ℕ → Type 0 = λ t. IsKey k f key (k ++ (0x22 ∷ t)) in
      let Q : List ℕ → Type 0 = λ t. HasFields k f (key ++ (k ++ (0x22 ∷ t))) ((key, Some (unescaped (take m s))) ∷ es) in
      subst Q (sym closed.parts) (quoted key (take m s) (unescaped (take m s)) (subst P closed.parts is) closed.written ends has)

value_has : (k f key u : List ℕ) → IsKey k f key (k ++ u) → HasValue k f key u (value_at f u)
value_has k f key [] is = plain_has k f key [] is refl
value_has k f key (d ∷ u) is = by (d == 0x22) refl where
  by : (t : Bool) → (d == 0x22) ≡ t → HasValue k f key (d ∷ u) (if t then quoted_up_to f u (closing_place u) else Some (plain_value f (d ∷ u)))
  by true same =
      let first : d ≡ 0x22 = is_byte d 0x22 same in
      let P : ℕ → Type 0 = λ x. IsKey k f key (k ++ (x ∷ u)) in
      let Q : ℕ → Type 0 = λ x. HasValue k f key (x ∷ u) (quoted_up_to f u (closing_place u)) in
      subst Q (sym first) (quoted_has k f key u (closing_place u) (subst P first is) refl)
  by false other = plain_has k f key (d ∷ u) is (ap (λ t. t && true) other)

-- ---- a field

abbrev HasField : (k f s : List ℕ) → FieldAt → Type 0
HasField k f s (entry key v behind) = (es : Fields) → HasFields k f behind es → HasFields k f s ((key, v) ∷ es)
HasField k f s (fault words) = ⊤

with_value_has : (k f key u : List ℕ) (o : Option (List ℕ × List ℕ)) → HasValue k f key u o → HasField k f (key ++ (k ++ u)) (with_value key o)
with_value_has k f key u None so = tt
with_value_has k f key u (Some w) so = so

key_has : (k f key rest : List ℕ) → NoneWithin (is_key_end k f) key rest → Stops (is_key_end k f) rest → HasField k f (key ++ rest) (with_key k f key rest)
key_has k f [] rest none stops = tt
key_has k f (b ∷ key) rest none stops = by (begins k rest) refl where
  by : (t : Bool) → begins k rest ≡ t → HasField k f ((b ∷ key) ++ rest) (if t then with_value (b ∷ key) (value_at f (drop (length k) rest)) else entry (b ∷ key) None rest)
  by true is =
      let u = drop (length k) rest in
      let parts : rest ≡ k ++ u = begun k rest is in
      let P : List ℕ → Type 0 = λ t. IsKey k f (b ∷ key) t in
      let Q : List ℕ → Type 0 = λ t. HasField k f ((b ∷ key) ++ t) (with_value (b ∷ key) (value_at f u)) in
      subst Q (sym parts) (with_value_has k f (b ∷ key) u (value_at f u) (value_has k f (b ∷ key) u (subst P parts (omega arith, none))))
  by false is = λ es has. alone (b ∷ key) (omega arith, none) is (key_ends k f rest stops is) has

field_has : (k f s : List ℕ) → HasField k f s (field_at k f s)
field_has k f s =
    let n = first_place (is_key_end k f) s in
    let P : List ℕ → Type 0 = λ t. HasField k f t (field_at k f s) in
    subst P (take-append-drop n s) (key_has k f (take n s) (drop n s) (none_before (is_key_end k f) s) (stops_there (is_key_end k f) s))

-- ---- all fields

abbrev HasAll : (k f s : List ℕ) (ms : Members) → Answer → Type 0
HasAll k f s ms (value v) = (es : Fields) × HasFields k f s es × (v ≡ object (put_all es ms))
HasAll k f s ms (failure words) = ⊤

behind_delimiter : (k f s rest : List ℕ) (ms : Members) (answer : Answer) → s ≡ f ++ rest → HasAll k f rest ms answer → HasAll k f s ms answer
behind_delimiter k f s rest ms (failure words) is has = tt
behind_delimiter k f s rest ms (value v) is has = let P : List ℕ → Type 0 = λ t. HasFields k f t has.0 in (has.0, subst P (sym is) (delimiter has.1), has.2)

behind_field : (k f s behind key : List ℕ) (v : Option (List ℕ)) (ms : Members) (answer : Answer) → HasField k f s (entry key v behind) → HasAll k f behind (put key (field_tree v) ms) answer → HasAll k f s ms answer
behind_field k f s behind key v ms (failure words) field has = tt
behind_field k f s behind key v ms (value w) field has = ((key, v) ∷ has.0, field has.0 has.1, has.2)

found_has : (k f : List ℕ) (m b : ℕ) (s : List ℕ) (ms : Members) (o : FieldAt) → length (b ∷ s) ≤ suc m → ((t : List ℕ) (ns : Members) → length t ≤ m → HasAll k f t ns (fields_from k f 0 t ns)) → (length (b ∷ s) == 0) ≡ false →
    begins f (b ∷ s) ≡ false → field_at k f (b ∷ s) ≡ o → HasAll k f (b ∷ s) ms (fields_from k f 0 (b ∷ s) ms)
found_has k f m b s ms (fault words) few so some starts found =
    let P : Answer → Type 0 = HasAll k f (b ∷ s) ms in subst P (sym (fault_on k f (b ∷ s) words ms some starts (sym found))) tt
found_has k f m b s ms (entry key v behind) few so some starts found =
    let P : Answer → Type 0 = HasAll k f (b ∷ s) ms in
    let Q : FieldAt → Type 0 = HasField k f (b ∷ s) in
    let less = field_shorter k f (b ∷ s) key behind v some (sym found) in
    subst P (sym (field_on k f (b ∷ s) key behind v ms some starts (sym found)))
    (behind_field k f (b ∷ s) behind key v ms (fields_from k f 0 behind (put key (field_tree v) ms)) (subst Q found (field_has k f (b ∷ s))) (so behind (put key (field_tree v) ms) (omega (arith, few, less))))

all_have : (k f : List ℕ) (m : ℕ) (s : List ℕ) (ms : Members) → 0 < length f → length s ≤ m → HasAll k f s ms (fields_from k f 0 s ms)
all_have k f m [] ms some few = ([], no_field, refl)
all_have k f zero (b ∷ s) ms some few = absurd (omega (arith, few))
all_have k f (suc m) (b ∷ s) ms some few = by (begins f (b ∷ s)) refl (λ t ns less. all_have k f m t ns some less) where
  by : (t : Bool) → begins f (b ∷ s) ≡ t → ((u : List ℕ) (ns : Members) → length u ≤ m → HasAll k f u ns (fields_from k f 0 u ns)) → HasAll k f (b ∷ s) ms (fields_from k f 0 (b ∷ s) ms)
  by true is so =
      let rest = drop (length f) (b ∷ s) in
      let P : Answer → Type 0 = HasAll k f (b ∷ s) ms in
      let long = length-drop (length f) (b ∷ s) in
      subst P (sym (delimiter_on k f (b ∷ s) rest ms some is refl)) (behind_delimiter k f (b ∷ s) rest ms (fields_from k f 0 rest ms) (begun f (b ∷ s) is) (so rest ms (omega (arith, few, long, some))))
  by false is so = found_has k f m b s ms (field_at k f (b ∷ s)) few so (some_byte (b ∷ []) s (omega arith)) is refl

read_has : (t : Bool) (k f s : List ℕ) (v : Tree) → 0 < length f → (if t then failure (codes "empty delimiter") else fields_from k f 0 s no_members) ≡ value v → (es : Fields) × HasFields k f s es × (v ≡ object (put_all es no_members))
read_has true k f s v some is = absurd cc
read_has false k f s v some is = let P : Answer → Type 0 = HasAll k f s no_members in subst P is (all_have k f (length s) s no_members some (omega arith))

pub only_fields_are_read : OnlyFieldsAreRead
only_fields_are_read k f s v some_k some_f is = read_has (is_nothing k || is_nothing f) k f s v some_f is
