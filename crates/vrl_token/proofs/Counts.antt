-- Counts of the stretches' tokens.
use Rattle.std.proofs.Common.{◌≡◌, ℕ, suc, ◌+◌, ◌<◌, ◌≤◌, ◌==◌, ◌&&◌, if◌then◌else◌, min, Bool, true, false, List, [], ◌∷◌, ◌++◌, length, reverse, get_or, set, inl, inr, refl, sym, ap, ◌∙◌, subst, arith, length-append}
use Rattle.std.proofs.lemmas.Bool.{cases_lt}
use Rattle.std.proofs.lemmas.Bool.Decides.{eqb_tells}
use Rattle.std.proofs.lemmas.List.{get_or-set_other, get_or-set_same, get_or_append_left, length-set}
use Rattle.std.proofs.Math.Seq.{get_or-append_seam}
use Rattle.vrl_token.specs.declared.token.Token.{Token}
use Rattle.vrl_token.specs.declared.nesting.Stretches.{Stretches}
use Rattle.vrl_token.specs.declared.nesting.Tally.{Tally}
use Rattle.vrl_token.specs.Depths.{AreCounts, IsTally, held, levels_of, numbers_of}
use Rattle.vrl_token.specs.Brackets.{closes}
use Rattle.vrl_token.specs.Nesting.{count_in, is_counted, is_innermost, opens, parts, stretches_behind, stretches_from, with_innermost, without_innermost}

-- no stretch begins behind the place
abbrev BeginBy : ℕ → List ℕ → Type 0
BeginBy n [] = Unit {0}
BeginBy n (s ∷ rs) = (s ≤ n) × BeginBy n rs

begin_by_next : (n : ℕ) (rs : List ℕ) → BeginBy n rs → BeginBy (suc n) rs
begin_by_next n [] by = tt
begin_by_next n (s ∷ rs) by = let here = by.0 in (omega arith, begin_by_next n rs by.1)

without_begins : (n : ℕ) (rs : List ℕ) → BeginBy n rs → BeginBy n (without_innermost rs)
without_begins n [] by = tt
without_begins n (s ∷ []) by = by
without_begins n (s ∷ r ∷ rs) by = by.1

with_begins : (n : ℕ) (rs : List ℕ) → BeginBy n rs → BeginBy n (with_innermost n rs)
with_begins n [] by = tt
with_begins n (s ∷ rs) by = (omega arith, by.1)

from_begins : (o c p : Bool) (n : ℕ) (rs : List ℕ) → BeginBy n rs → BeginBy n (if o then n ∷ rs else if c then without_innermost rs else if p then with_innermost n rs else rs)
from_begins true c p n rs by = (omega arith, by)
from_begins false true p n rs by = without_begins n rs by
from_begins false false true n rs by = with_begins n rs by
from_begins false false false n rs by = by

stretches_begin : (ts : List Token) → BeginBy (length ts) (stretches_behind ts)
stretches_begin [] = (omega arith, tt)
stretches_begin (t ∷ ts) =
    from_begins (opens t) (closes t) (parts t) (suc (length ts)) (stretches_behind ts) (begin_by_next (length ts) (stretches_behind ts) (stretches_begin ts))

not_equal : (s r : ℕ) → r < s → (s == r) ≡ false
not_equal s r below = elim (eqb_tells s r) [ inl same ↦ let is = same.1 in absurd (omega arith) | inr other ↦ other.0 ]

not_innermost : (s n : ℕ) (rs : List ℕ) → BeginBy n rs → n < s → is_innermost s rs ≡ false
not_innermost s n [] by below = refl
not_innermost s n (r ∷ rs) by below = let here = by.0 in not_equal s r (omega arith)

abbrev one_if : Bool → ℕ
one_if b = if b then 1 else 0

and_false : (a b : Bool) → b ≡ false → one_if (a && b) ≡ 0
and_false true b fails = ap one_if fails
and_false false b fails = refl

and_true : (a b : Bool) → b ≡ true → one_if (a && b) ≡ one_if a
and_true true b holds = ap one_if holds
and_true false b holds = refl

-- a stretch that begins at the last place or behind it has no tokens
count_none : (s : ℕ) (ts : List Token) → length ts ≤ s → count_in s ts ≡ 0
count_none s [] past = refl
count_none s (t ∷ ts) past =
    let none = and_false (is_counted t) (is_innermost s (stretches_behind ts)) (not_innermost s (length ts) (stretches_behind ts) (stretches_begin ts) (omega arith)) in
    let rest = count_none s ts (omega arith) in
    omega arith

held_sum : (m a b : ℕ) → min (min a m + b) m ≡ min (b + a) m
held_sum m a b = omega arith

-- the counts with one more token's levels for the innermost stretch
raised : (t : Token) (ts : List Token) (counts : List ℕ) (h : ℕ) (rs : List ℕ) → AreCounts ts counts → h ∷ rs ≡ stretches_behind ts → (s : ℕ) → s < length counts
    → get_or (set counts h (held (get_or counts h 0 + levels_of t))) s 0 ≡ held (count_in s (t ∷ ts))
raised t ts counts h rs are stands s within = elim (eqb_tells s h) [
  | inl same ↦
      let at : get_or (set counts h (held (get_or counts h 0 + levels_of t))) s 0 ≡ held (get_or counts s 0 + levels_of t)
      = subst (λ (k : ℕ). get_or (set counts k (held (get_or counts k 0 + levels_of t))) s 0 ≡ held (get_or counts s 0 + levels_of t)) same.1 (get_or-set_same counts s _ 0 within) in
      let holds : is_innermost s (stretches_behind ts) ≡ true = subst (λ (l : List ℕ). is_innermost s l ≡ true) stands same.0 in
      at ∙ ap (λ (n : ℕ). held (n + levels_of t)) (are.counts_are s within) ∙ held_sum _ (count_in s ts) (levels_of t)
      ∙ ap (λ (n : ℕ). held (n + count_in s ts)) (sym (and_true (is_counted t) (is_innermost s (stretches_behind ts)) holds))
  | inr other ↦
      let fails : is_innermost s (stretches_behind ts) ≡ false = subst (λ (l : List ℕ). is_innermost s l ≡ false) stands other.0 in
      get_or-set_other counts h s _ 0 other.1 ∙ are.counts_are s within
      ∙ ap held (let none = and_false (is_counted t) (is_innermost s (stretches_behind ts)) fails in let e : count_in s ts ≡ one_if (is_counted t && is_innermost s (stretches_behind ts)) + count_in s ts = omega arith in e)
]

counted_more : (t : Token) (ts : List Token) (counts raises more : List ℕ) (h : ℕ) (rs : List ℕ) → AreCounts ts counts → h ∷ rs ≡ stretches_behind ts
    → raises ≡ set counts h (held (get_or counts h 0 + levels_of t)) → more ≡ raises ++ 0 ∷ [] → AreCounts (t ∷ ts) more
counted_more t ts counts raises more h rs are stands raise pushed =
    let long : length raises ≡ length counts = ap length raise ∙ length-set counts h _ in
    let longer : length more ≡ length raises + 1 = ap length pushed ∙ length-append raises (0 ∷ []) in
    let was = are.length_is in
    record {
      length_is = omega arith;
      counts_are = λ s within. elim (cases_lt s (length counts)) [
        | inl before ↦
            ap (λ (l : List ℕ). get_or l s 0) pushed ∙ get_or_append_left raises (0 ∷ []) 0 s (omega arith) ∙ ap (λ (l : List ℕ). get_or l s 0) raise
            ∙ raised t ts counts h rs are stands s before
        | inr past ↦
            let last : s ≡ length raises = omega arith in
            let none = count_none s (t ∷ ts) (omega arith) in
            ap (λ (l : List ℕ). get_or l s 0) pushed ∙ ap (λ (k : ℕ). get_or (raises ++ 0 ∷ []) k 0) last ∙ get_or-append_seam raises 0 [] 0 ∙ ap held (sym none)
      ];
    }

pub tally_more : (t : Token) (ts : List Token) (old new : Tally) (kept : Stretches) (raises : List ℕ) (place levels : ℕ) → IsTally ts old → place ≡ length old.counts.items → levels ≡ levels_of t
    → kept ≡ old.stretches → raises ≡ set old.counts.items old.stretches.innermost (held (get_or old.counts.items old.stretches.innermost 0 + levels))
    → new.counts.items ≡ raises ++ 0 ∷ [] → numbers_of new.stretches ≡ stretches_from t place (numbers_of kept) → IsTally (t ∷ ts) new
tally_more t ts old new kept raises place levels tally at is same raise pushed from = record {
  stretches_are = from ∙ ap (λ (s : Stretches). stretches_from t place (numbers_of s)) same ∙ ap (λ (l : List ℕ). stretches_from t place l) tally.stretches_are
      ∙ ap (λ (n : ℕ). stretches_from t n (stretches_behind ts)) (at ∙ tally.counts.length_is);
  counts = counted_more t ts old.counts.items raises new.counts.items old.stretches.innermost (reverse old.stretches.around.items) tally.counts tally.stretches_are
      (raise ∙ ap (λ (n : ℕ). set old.counts.items old.stretches.innermost (held (get_or old.counts.items old.stretches.innermost 0 + n))) is) pushed;
}
