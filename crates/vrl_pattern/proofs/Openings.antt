-- Which names are left behind the parts that are cut off a source.
use Rattle.std.proofs.Common.{Bool, true, false, ◌≡◌, ◌≢◌, ℕ, zero, suc, ◌+◌, ◌<◌, ◌≤◌, ◌==◌, not, if◌then◌else◌, List, [], ◌∷◌, ◌++◌, length, get_or, drop, refl, sym, ap, ◌∙◌, subst, arith, add-one, inl, inr}
use Rattle.std.proofs.lemmas.Bool.Decides.{nat_tests, eqb_tells}
use Rattle.std.proofs.lemmas.List.{length-drop}
use Rattle.std.proofs.lemmas.List.Sums.{take_while-cons}
use Rattle.std.proofs.lemmas.Str.{IsCharBoundary-after_ascii}
use Rattle.std.specs.Str.{IsUtf8, IsCharBoundary}
use Rattle.vrl_pattern.specs.Groups.{at, escaped, begun, negated, parenthesis, question, letter, name, behind, next, name_of, names_from}
use Rattle.vrl_pattern.specs.Marks.{IsMark, without}

plain_byte : (n c : ℕ) → ¬ IsMark c → behind n c ≡ at n
plain_byte n c plain =
    let a : c ≢ 0x5C = λ e. plain (inl e) in
    let b : c ≢ 0x5B = λ e. plain (inr (inl e)) in
    let d : c ≢ 0x5D = λ e. plain (inr (inr (inl e))) in
    let f : c ≢ 0x28 = λ e. plain (inr (inr (inr e))) in
    grind (arith, nat_tests)

mark_ascii : (c : ℕ) → IsMark c → c < 128
mark_ascii c mark = elim mark [
  | inl e ↦ omega arith
  | inr (inl e) ↦ omega arith
  | inr (inr (inl e)) ↦ omega arith
  | inr (inr (inr e)) ↦ omega arith
]

high_byte : (n c : ℕ) → 128 ≤ c → behind n c ≡ at n
high_byte n c high = plain_byte n c (λ mark. let low = mark_ascii c mark in absurd (omega arith))

-- a source may be cut behind a mark
pub boundary_behind : (s : List ℕ) (k : ℕ) → IsUtf8 s → k < length s → IsMark (get_or s k 0) → IsCharBoundary s (k + 1)
boundary_behind s k utf8 within mark = IsCharBoundary-after_ascii s k utf8 within (mark_ascii _ mark)

-- no mark, no name
pub names_none : (s : List ℕ) (k : ℕ) → k ≡ length s → ((i : ℕ) → i < k → ¬ IsMark (get_or s i 0)) → (n : ℕ) → names_from (at n) s ≡ []
unfolding names_from
names_none [] k all plain n = refl
names_none (c ∷ s) zero all plain n = absurd (omega arith)
names_none (c ∷ s) (suc k) all plain n =
    rw (plain_byte n c (plain 0 (omega arith))) (names_none s k (omega arith) (λ i h. plain (suc i) (omega arith)) n)

-- behind the first mark
names_mark : (s : List ℕ) (k : ℕ) → k < length s → ((i : ℕ) → i < k → ¬ IsMark (get_or s i 0)) → (n : ℕ) → names_from (at n) s ≡ names_from (behind n (get_or s k 0)) (drop (suc k) s)
unfolding names_from
names_mark [] k within plain n = absurd (omega arith)
names_mark (c ∷ s) zero within plain n = refl
names_mark (c ∷ s) (suc k) within plain n =
    rw (plain_byte n c (plain 0 (omega arith))) (names_mark s k (omega arith) (λ i h. plain (suc i) (omega arith)) n)

pub names_behind_mark : (s rest : List ℕ) (k : ℕ) → k < length s → ((i : ℕ) → i < k → ¬ IsMark (get_or s i 0)) → rest ≡ drop (k + 1) s → (n : ℕ) → names_from (at n) s ≡ names_from (behind n (get_or s k 0)) rest
names_behind_mark s rest k within plain back n = rw (back, add-one k) (names_mark s k within plain n)

pub empty_by : (n : ℕ) (test : Bool) → test ≡ (n == 0) → test ≡ true → n ≡ 0
empty_by n test says is = elim (eqb_tells n 0) [ inl same ↦ same.1 | inr apart ↦ let wrong = apart.0 in cc ]

nonempty : (n : ℕ) (test : Bool) → test ≡ (n == 0) → test ≡ false → 0 < n
nonempty n test says is = elim (eqb_tells n 0) [ inl same ↦ let wrong = same.0 in cc | inr apart ↦ let other = apart.1 in omega arith ]

-- a source may be cut behind a first ASCII character
pub boundary_first : (s bytes : List ℕ) (test : Bool) → IsUtf8 s → bytes ≡ s → test ≡ (length s == 0) → test ≡ false → get_or bytes 0 0 < 128 → IsCharBoundary s 1
boundary_first s bytes test utf8 same says is low = IsCharBoundary-after_ascii s 0 utf8 (nonempty (length s) test says is) (subst (λ t. get_or t 0 0 < 128) same low)

-- behind a character that is escaped
pub names_behind_escape : (s : List ℕ) (n : ℕ) → names_from (escaped n) s ≡ names_from (at n) (drop 1 s)
unfolding names_from
names_behind_escape [] n = refl
names_behind_escape (c ∷ s) n = refl

-- before one that is empty or begins with several bytes
pub names_escape_high : (s : List ℕ) → (0 < length s → 128 ≤ get_or s 0 0) → (n : ℕ) → names_from (escaped n) s ≡ names_from (at n) s
unfolding names_from
names_escape_high [] high n = refl
names_escape_high (c ∷ s) high n = rw (high_byte n c (high (omega arith))) refl

then_is : {X : Type 0} (test : Bool) (x y : X) → test ≡ true → (if test then x else y) ≡ x
then_is true x y is = refl
then_is false x y is = cc

else_is : {X : Type 0} (test : Bool) (x y : X) → test ≡ false → (if test then x else y) ≡ y
else_is true x y is = cc
else_is false x y is = refl

-- behind the front of a class
names_negated : (s : List ℕ) (n : ℕ) → names_from (negated n) s ≡ names_from (at n) (without 0x5D s)
unfolding names_from
names_negated [] n = refl
names_negated (c ∷ s) n = elim (eqb_tells c 0x5D) [
  | inl same ↦ ap (λ m. names_from m s) (then_is (c == 0x5D) (at n) (behind n c) same.0) ∙ ap (names_from (at n)) (sym (then_is (c == 0x5D) s (c ∷ s) same.0))
  | inr apart ↦ ap (λ m. names_from m s) (else_is (c == 0x5D) (at n) (behind n c) apart.0) ∙ ap (names_from (at n)) (sym (else_is (c == 0x5D) s (c ∷ s) apart.0))
]

pub names_begun : (s : List ℕ) (n : ℕ) → names_from (begun n) s ≡ names_from (at n) (without 0x5D (without 0x5E s))
unfolding names_from
names_begun [] n = refl
names_begun (c ∷ s) n = elim (eqb_tells c 0x5E) [
  | inl same ↦ ap (λ m. names_from m s) (then_is (c == 0x5E) (negated n) (next (negated n) c) same.0) ∙ names_negated s n ∙ ap (λ t. names_from (at n) (without 0x5D t)) (sym (then_is (c == 0x5E) s (c ∷ s) same.0))
  | inr apart ↦ ap (λ m. names_from m s) (else_is (c == 0x5E) (negated n) (next (negated n) c) apart.0) ∙ names_negated (c ∷ s) n ∙ ap (λ t. names_from (at n) (without 0x5D t)) (sym (else_is (c == 0x5E) s (c ∷ s) apart.0))
]

-- what a mark is stripped of
pub stripped_none : (mark : ℕ) (s : List ℕ) → ((rest : List ℕ) → s ≢ mark ∷ rest) → s ≡ without mark s
stripped_none mark [] other = refl
stripped_none mark (c ∷ s) other = elim (eqb_tells c mark) [ inl same ↦ absurd (other s (ap (λ d. d ∷ s) same.1)) | inr apart ↦ rw apart.0 refl ]

-- a `(` without `?` behind it
pub names_no_question : (s : List ℕ) → ((rest : List ℕ) → s ≢ 0x3F ∷ rest) → names_from parenthesis s ≡ [] ∷ names_from (at 0) s
unfolding names_from
names_no_question [] other = refl
names_no_question (c ∷ s) other = elim (eqb_tells c 0x3F) [
  | inl same ↦ absurd (other s (ap (λ d. d ∷ s) same.1))
  | inr apart ↦ plain (c == 0x3F) apart.0
]
  where
    plain : (test : Bool) → test ≡ false → ((if test then [] else [] ∷ []) ++ names_from (if test then question else behind 0 c) s) ≡ [] ∷ names_from (behind 0 c) s
    plain true is = cc
    plain false is = refl

names_letter : (s : List ℕ) → ((rest : List ℕ) → s ≢ 0x3C ∷ rest) → names_from letter s ≡ names_from (at 0) s
unfolding names_from
names_letter [] other = refl
names_letter (c ∷ s) other = elim (eqb_tells c 0x3C) [
  | inl same ↦ absurd (other s (ap (λ d. d ∷ s) same.1))
  | inr apart ↦ named_none (c == 0x3C) apart.0
]
  where
    named_none : (test : Bool) → test ≡ false → ((if test then name_of s ∷ [] else []) ++ names_from (if test then name else behind 0 c) s) ≡ names_from (behind 0 c) s
    named_none true is = cc
    named_none false is = refl

-- one with `?` and no name
names_question : (asked : List ℕ) → ((rest : List ℕ) → without 0x50 asked ≢ 0x3C ∷ rest) → names_from question asked ≡ names_from (at 0) asked
unfolding names_from
names_question [] other = refl
names_question (c ∷ t) other = elim (eqb_tells c 0x50) [
  | inl same ↦
      let front : c ∷ t ≡ 0x50 ∷ t = ap (λ d. d ∷ t) same.1 in
      ap (names_from question) front ∙ names_letter t (λ rest e. other rest (then_is (c == 0x50) t (c ∷ t) same.0 ∙ e)) ∙ ap (names_from (at 0)) (sym front)
  | inr apart ↦
      as_letter (c == 0x50) apart.0 ∙ names_letter (c ∷ t) (λ rest e. other rest (else_is (c == 0x50) t (c ∷ t) apart.0 ∙ e))
]
  where
    as_letter : (test : Bool) → test ≡ false → ((if c == 0x3C then name_of t ∷ [] else []) ++ names_from (if test then letter else if c == 0x3C then name else behind 0 c) t) ≡ names_from letter (c ∷ t)
    as_letter true is = cc
    as_letter false is = refl

pub names_unnamed : (s asked : List ℕ) → s ≡ 0x3F ∷ asked → ((rest : List ℕ) → without 0x50 asked ≢ 0x3C ∷ rest) → names_from parenthesis s ≡ names_from (at 0) s
unfolding names_from
names_unnamed s asked is other = ap (names_from parenthesis) is ∙ names_question asked other ∙ ap (names_from (at 0)) (sym is)

-- and one with a name
names_asked : (asked named : List ℕ) → without 0x50 asked ≡ 0x3C ∷ named → names_from question asked ≡ name_of named ∷ names_from name named
unfolding names_from
names_asked [] named front = cc
names_asked (c ∷ t) named front = elim (eqb_tells c 0x50) [
  | inl same ↦
      let tail : t ≡ 0x3C ∷ named = sym (then_is (c == 0x50) t (c ∷ t) same.0) ∙ front in
      let whole : c ∷ t ≡ 0x50 ∷ 0x3C ∷ named = cc (same.1, tail) in
      ap (names_from question) whole
  | inr apart ↦ ap (names_from question) (sym (else_is (c == 0x50) t (c ∷ t) apart.0) ∙ front)
]

pub names_named : (s asked named : List ℕ) → s ≡ 0x3F ∷ asked → without 0x50 asked ≡ 0x3C ∷ named → names_from parenthesis s ≡ name_of named ∷ names_from name named
unfolding names_from
names_named s asked named is front = ap (names_from parenthesis) is ∙ names_asked asked named front

-- a name up to `>`
name_goes_on : (c : ℕ) (s rest : List ℕ) → c ≢ 0x3E → (before : List ℕ) → (before ≡ name_of s) × (names_from name s ≡ names_from (at 0) rest) → (c ∷ before ≡ name_of (c ∷ s)) × (names_from name (c ∷ s) ≡ names_from (at 0) rest)
unfolding names_from
name_goes_on c s rest apart before more = elim (eqb_tells c 0x3E) [
  | inl same ↦ absurd (apart same.1)
  | inr other ↦
      let ends : name_of (c ∷ s) ≡ c ∷ name_of s = take_while-cons (λ d. not (d == 0x3E)) c s ∙ then_is (not (c == 0x3E)) (c ∷ name_of s) [] (ap not other.0) in
      (ap (λ xs. c ∷ xs) more.0 ∙ sym ends, ap (λ m. names_from m s) (else_is (c == 0x3E) (at 0) name other.0) ∙ more.1)
]

parts_of : (before rest : List ℕ) → ((i : ℕ) → i < length before → get_or before i 0 ≢ 0x3E) → (before ≡ name_of (before ++ 0x3E ∷ rest)) × (names_from name (before ++ 0x3E ∷ rest) ≡ names_from (at 0) rest)
unfolding names_from
parts_of [] rest apart = (refl, refl)
parts_of (c ∷ cs) rest apart = name_goes_on c (cs ++ 0x3E ∷ rest) rest (apart 0 (omega arith)) cs (parts_of cs rest (λ i h. apart (suc i) (omega arith)))

pub name_parts : (s before rest : List ℕ) → s ≡ before ++ 0x3E ∷ rest → ((i : ℕ) → i < length before → get_or before i 0 ≢ 0x3E) → names_from name s ≡ names_from (at 0) rest
name_parts s before rest is apart = ap (names_from name) is ∙ (parts_of before rest apart).1

-- and one up to the end
whole_of : (s : List ℕ) → ((i : ℕ) → i < length s → get_or s i 0 ≢ 0x3E) → (s ≡ name_of s) × (names_from name s ≡ names_from (at 0) [])
unfolding names_from
whole_of [] apart = (refl, refl)
whole_of (c ∷ cs) apart = name_goes_on c cs [] (apart 0 (omega arith)) cs (whole_of cs (λ i h. apart (suc i) (omega arith)))

pub name_whole : (s : List ℕ) → ((i : ℕ) → i < length s → get_or s i 0 ≢ 0x3E) → names_from name s ≡ names_from (at 0) []
name_whole s apart = (whole_of s apart).1

pub shorter : {c d : ℕ} {behind asked rest_of named : List ℕ} (rest : List ℕ) → behind ≡ c ∷ asked → rest_of ≡ d ∷ named → length rest_of ≤ length asked → length rest ≤ length named → length rest ≤ length behind
shorter rest first second within less = let a = ap length first in let b = ap length second in omega arith

pub drop_shorter : (s : List ℕ) {rest : List ℕ} (k : ℕ) → k < length s → rest ≡ drop (k + 1) s → length rest < length s
drop_shorter s k below back = rw (back, length-drop) (omega arith)
