-- Fields and their parts, as the code cuts them.
use Rattle.std.proofs.Common.{◌≡◌, ◌≢◌, ◌<◌, ◌≤◌, ◌==◌, ◌+◌, ◌-◌, ◌||◌, ℕ, zero, suc, Bool, true, false, List, [], ◌∷◌, ◌++◌, take, drop, length, get_or, max, min, Bor, Option, Some, None, unwrap_or, MatchOption, refl, sym, ap, ◌∙◌, subst, arith, codes, if◌then◌else◌, inl, inr}
use Rattle.std.proofs.lemmas.Bool.{true≢false}
use Rattle.std.proofs.lemmas.Bool.Decides.{eqb_tells}
use Rattle.std.proofs.lemmas.List.{length-drop, take-append-drop}
use Rattle.std.proofs.lemmas.Slice.Eq.{bytes_eq-Decides}
use Rattle.std.proofs.lemmas.Str.{IsCharBoundary-start}
use Rattle.std.proofs.Math.Seq.{take-append_seam}
use Rattle.std.specs.Bool.{MatchBool}
use Rattle.std.specs.Str.{IsCharBoundary, IsUtf8}
use Rattle.std.specs.Str.Pattern.{FindsText, FindsTextPrefix, HasPrefixMatch, LacksTextAt, MatchBeginsAt, StripsPrefix}
use Rattle.fn_parse.specs.Found.{IsAhead, IsNext}
use Rattle.fn_parse.specs.KeyValue.{begins, entry, fault, field_at, first_place, is_field_end, is_key_end, plain_value, quoted_up_to, value_at, with_key, with_value}
use Rattle.fn_parse.specs.Quotes.{closing_place}

-- ---- what begins with a delimiter

pub begun : (d s : List ℕ) → begins d s ≡ true → s ≡ d ++ drop (length d) s
begun d s is = sym (take-append-drop (length d) s) ∙ ap (λ front. front ++ drop (length d) s) ((bytes_eq-Decides (take (length d) s) d).0 is)

pub begins_at : (d s rest : List ℕ) → s ≡ d ++ rest → begins d s ≡ true
begins_at d s rest is = (bytes_eq-Decides (take (length d) s) d).1 (ap (take (length d)) is ∙ take-append_seam d rest)

pub lacks : (d s : List ℕ) → LacksTextAt d s 0 → begins d s ≡ false
lacks d s none = by (begins d s) refl where
  by : (t : Bool) → begins d s ≡ t → t ≡ false
  by true is = absurd (none (drop (length d) s) (begun d s is))
  by false is = refl

pub starts_is : (r : Bool) (d s : List ℕ) → MatchBool r (HasPrefixMatch (FindsTextPrefix d) s) (FindsTextPrefix d s None) → r ≡ begins d s
starts_is true d s found = sym (begins_at d s (drop found.0 s) found.1.1)
starts_is false d s none = sym (lacks d s none)

pub end_begins : (f s : List ℕ) → (length s == 0) ≡ false → is_field_end f s ≡ begins f s
end_begins f [] some = absurd (true≢false some)
end_begins f (b ∷ s) some = refl

pub stripped : (d s rest : List ℕ) → StripsPrefix (FindsTextPrefix d) s rest → (begins d s ≡ true) × (rest ≡ drop (length d) s)
stripped d s rest cut = (begins_at d s (drop cut.0 s) cut.1.1, cut.2 ∙ ap (λ n. drop n s) cut.1.0)

pub stripped_or_lacks : (d s : List ℕ) (r : Option (Bor (List ℕ))) → MatchOption r (LacksTextAt d s 0) (λ rest. StripsPrefix (FindsTextPrefix d) s rest.now) →
    MatchOption r (begins d s ≡ false) (λ rest. (begins d s ≡ true) × (rest.now ≡ drop (length d) s))
stripped_or_lacks d s None none = lacks d s none
stripped_or_lacks d s (Some rest) cut = stripped d s rest.now cut

-- ---- the first place

abbrev pub place_if : Bool → ℕ → ℕ
place_if t n = if t then 0 else suc n

pub place_within : (test : List ℕ → Bool) (s : List ℕ) → first_place test s ≤ length s
place_within test [] = omega arith
place_within test (b ∷ s) = by (test (b ∷ s)) (place_within test s) where
  by : (t : Bool) → first_place test s ≤ length s → place_if t (first_place test s) ≤ length (b ∷ s)
  by true less = omega arith
  by false less = omega (arith, less)

abbrev Leads : List ℕ → ℕ → Type 0
Leads s n = n < length s → 128 ≤ get_or s n 0 → 192 ≤ get_or s n 0

place_leads : (test : List ℕ → Bool) (s : List ℕ) → ((t : List ℕ) → test t ≡ true → Leads t 0) → Leads s (first_place test s)
place_leads test [] so = λ some. absurd (omega (arith, some))
place_leads test (b ∷ s) so = by (test (b ∷ s)) refl (place_leads test s so) where
  by : (t : Bool) → test (b ∷ s) ≡ t → Leads s (first_place test s) → Leads (b ∷ s) (place_if t (first_place test s))
  by true is later = so (b ∷ s) is
  by false is later = λ some. later (omega (arith, some))

begins_lead : (d s : List ℕ) → IsUtf8 d → 0 < length d → begins d s ≡ true → Leads s 0
begins_lead [] s utf8 some is = absurd (omega (arith, some))
begins_lead (c ∷ cs) s utf8 some is =
    let first : get_or s 0 0 ≡ c = ap (λ t. get_or t 0 0) (begun (c ∷ cs) s is) in
    let P : ℕ → Type 0 = λ b. 128 ≤ b → 192 ≤ b in
    λ long. subst P (sym first) (λ high. (IsCharBoundary-start (c ∷ cs) utf8).1 some high)

either_leads : (a b : Bool) (P : Type 0) → (a ≡ true → P) → (b ≡ true → P) → (a || b) ≡ true → P
either_leads true b P first second is = first refl
either_leads false b P first second is = second is

pub key_boundary : (k f s : List ℕ) → IsUtf8 k → IsUtf8 f → 0 < length k → 0 < length f → IsCharBoundary s (first_place (is_key_end k f) s)
key_boundary k f s utf8_k utf8_f some_k some_f = (
  place_within (is_key_end k f) s,
  place_leads (is_key_end k f) s (λ t is. either_leads (begins k t) (begins f t) (Leads t 0) (begins_lead k t utf8_k some_k) (begins_lead f t utf8_f some_f) is),
)

-- ---- what std finds

later : (f : List ℕ) (b : ℕ) (s : List ℕ) → begins f (b ∷ s) ≡ false → first_place (begins f) (b ∷ s) ≡ suc (first_place (begins f) s)
later f b s is = ap (λ t. place_if t (first_place (begins f) s)) is

no_place : (f s : List ℕ) → ((i : ℕ) → i ≤ length s → LacksTextAt f s i) → length s ≡ first_place (begins f) s
no_place f [] none = refl
no_place f (b ∷ s) none = ap (λ n. suc n) (no_place f s (λ i few. none (suc i) (omega (arith, few)))) ∙ sym (later f b s (lacks f (b ∷ s) (none 0 (omega arith))))

some_place : (f s : List ℕ) (i : ℕ) (rest : List ℕ) → 0 < length f → ((k : ℕ) → k < i → LacksTextAt f s k) → drop i s ≡ f ++ rest → i ≡ first_place (begins f) s
some_place [] s i rest some none is = absurd (omega (arith, some))
some_place (c ∷ cs) [] zero rest some none is = refl
some_place (c ∷ cs) [] (suc i) rest some none is = absurd cc
some_place (c ∷ cs) (b ∷ s) zero rest some none is = sym (ap (λ t. place_if t (first_place (begins (c ∷ cs)) s)) (begins_at (c ∷ cs) (b ∷ s) rest is))
some_place (c ∷ cs) (b ∷ s) (suc i) rest some none is =
    ap (λ n. suc n) (some_place (c ∷ cs) s i rest some (λ k few. none (suc k) (omega (arith, few))) is) ∙ sym (later (c ∷ cs) b s (lacks (c ∷ cs) (b ∷ s) (none 0 (omega arith))))

pub found_place : (f s : List ℕ) (r : Option ℕ) → 0 < length f → MatchOption r (FindsText f s None) (MatchBeginsAt (FindsText f) s) → unwrap_or r (length s) ≡ first_place (begins f) s
found_place f s None some none = no_place f s none
found_place f s (Some i) some found = some_place f s i (drop found.0 s) some found.1.0 found.1.1.split

-- ---- the next place of a delimiter

pub next_is : (d s front rest : List ℕ) → (front, rest) ≡ plain_value d s → IsNext d s (length rest)
next_is d s front rest is =
    let back : rest ≡ drop (first_place (begins d) s) s = λ i. (is i).1 in
    let long : length rest ≡ length s - first_place (begins d) s = ap length back ∙ length-drop (first_place (begins d) s) s in
    let within = place_within (begins d) s in
    omega (arith, long, within)

ahead_behind : (d : List ℕ) (b : ℕ) (s : List ℕ) (n : ℕ) → IsAhead d (b ∷ s) n → IsAhead d s n
ahead_behind d b s n known = by (begins d (b ∷ s)) known where
  by : (t : Bool) → (n ≤ length (b ∷ s) → length (b ∷ s) ≡ place_if t (first_place (begins d) s) + n) → IsAhead d s n
  by true known = λ few. absurd (let is = known (omega (arith, few)) in omega (arith, few, is))
  by false known = λ few. let is = known (omega (arith, few)) in omega (arith, few, is)

ahead_from : (d s : List ℕ) (m n : ℕ) → IsAhead d s n → IsAhead d (drop m s) n
ahead_from d s zero n known = known
ahead_from d [] (suc m) n known = known
ahead_from d (b ∷ s) (suc m) n known = ahead_from d s m n (ahead_behind d b s n known)

-- what is known of a text is known of its ends
pub ahead_on : (d s t : List ℕ) (m n : ℕ) → t ≡ drop m s → IsAhead d s n → IsAhead d t n
ahead_on d s t m n is known = let P : List ℕ → Type 0 = λ u. IsAhead d u n in subst P (sym is) (ahead_from d s m n known)

pub begins_later : (d s : List ℕ) (n : ℕ) → IsAhead d s n → n < length s → begins d s ≡ false
begins_later d [] n known few = absurd (omega (arith, few))
begins_later d (b ∷ s) n known few = by (begins d (b ∷ s)) (known (omega (arith, few))) where
  by : (t : Bool) → length (b ∷ s) ≡ place_if t (first_place (begins d) s) + n → t ≡ false
  by false place = refl
  by true place = absurd (omega (arith, few, place))

first_of_both : (k f s : List ℕ) → first_place (is_key_end k f) s ≡ min (first_place (begins k) s) (first_place (begins f) s)
first_of_both k f [] = omega arith
first_of_both k f (b ∷ s) = by (begins k (b ∷ s)) (begins f (b ∷ s)) (first_of_both k f s) where
  by : (t u : Bool) → first_place (is_key_end k f) s ≡ min (first_place (begins k) s) (first_place (begins f) s) →
      place_if (t || u) (first_place (is_key_end k f) s) ≡ min (place_if t (first_place (begins k) s)) (place_if u (first_place (begins f) s))
  by true u later = omega arith
  by false true later = omega arith
  by false false later = omega (arith, later)

-- a key ends where the first of the two delimiters stands
pub key_end : (k f s : List ℕ) (a b n : ℕ) → IsNext k s a → IsNext f s b → n ≡ max a b → length s ≡ first_place (is_key_end k f) s + n
key_end k f s a b n key field greater =
    let one : length s ≡ first_place (begins k) s + a = key in
    let two : length s ≡ first_place (begins f) s + b = field in
    let first = first_of_both k f s in
    omega (arith, one, two, greater, first)

-- ---- values

pub plain_is : (f s front back : List ℕ) (n : ℕ) → n ≡ first_place (begins f) s → front ≡ take n s → back ≡ drop n s → (front, back) ≡ plain_value f s
plain_is f s front back n place front_is back_is =
    let front_too : front ≡ take (first_place (begins f) s) s = front_is ∙ ap (λ m. take m s) place in
    let back_too : back ≡ drop (first_place (begins f) s) s = back_is ∙ ap (λ m. drop m s) place in
    λ i. (front_too i, back_too i)

pub value_without : (f s : List ℕ) → ((rest : List ℕ) → s ≢ 0x22 ∷ rest) → Some (plain_value f s) ≡ value_at f s
value_without f [] none = refl
value_without f (b ∷ s) none = elim (eqb_tells b 0x22) [
  | inl same ↦ absurd (none s (ap (λ c. c ∷ s) same.1))
  | inr apart ↦ sym (ap (λ t. if t then quoted_up_to f s (closing_place s) else Some (plain_value f (b ∷ s))) apart.0)
]

-- ---- keys

pub key_alone : (k f key behind : List ℕ) → 0 < length key → begins k behind ≡ false → entry key None behind ≡ with_key k f key behind
key_alone k f [] behind some is = absurd (omega (arith, some))
key_alone k f (b ∷ key) behind some is = sym (ap (λ t. if t then with_value (b ∷ key) (value_at f (drop (length k) behind)) else entry (b ∷ key) None behind) is)

pub key_valued : (k f key behind text : List ℕ) (o : Option (List ℕ × List ℕ)) → 0 < length key → begins k behind ≡ true → text ≡ drop (length k) behind → o ≡ value_at f text → with_value key o ≡ with_key k f key behind
key_valued k f [] behind text o some is text_is found = absurd (omega (arith, some))
key_valued k f (b ∷ key) behind text o some is text_is found =
    ap (with_value (b ∷ key)) (found ∙ ap (value_at f) text_is) ∙ sym (ap (λ t. if t then with_value (b ∷ key) (value_at f (drop (length k) behind)) else entry (b ∷ key) None behind) is)

pub field_is : (k f s key behind : List ℕ) (n : ℕ) → n ≡ first_place (is_key_end k f) s → key ≡ take n s → behind ≡ drop n s → with_key k f key behind ≡ field_at k f s
field_is k f s key behind n place key_is behind_is =
    let front : key ≡ take (first_place (is_key_end k f) s) s = key_is ∙ ap (λ m. take m s) place in
    let back : behind ≡ drop (first_place (is_key_end k f) s) s = behind_is ∙ ap (λ m. drop m s) place in
    λ i. with_key k f (front i) (back i)

pub key_empty : (k f s key : List ℕ) → key ≡ take (first_place (is_key_end k f) s) s → length key ≡ 0 → fault (codes "empty key") ≡ field_at k f s
key_empty k f s key is none = no_key key none ∙ ap (λ t. with_key k f t (drop (first_place (is_key_end k f) s) s)) is where
  no_key : (t : List ℕ) → length t ≡ 0 → fault (codes "empty key") ≡ with_key k f t (drop (first_place (is_key_end k f) s) s)
  no_key [] none = refl
  no_key (b ∷ t) none = absurd (omega (arith, none))
