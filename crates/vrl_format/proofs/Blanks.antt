-- Texts without the blanks at their end.
use Rattle.std.proofs.Common.{◌≡◌, ℕ, Bool, true, false, IsTrue, List, [], ◌∷◌, ◌++◌, refl, sym, ap, ◌∙◌, ◌≢◌, ◌==◌, ◌||◌, Bor, MatchOption, None, Option, Some, subst, if◌then◌else◌}
use Rattle.std.proofs.lemmas.Bool.{eqb-true}
use Rattle.vrl_format.specs.Pieces.{before_trimmed, is_blank, trimmed}

-- a blank at the end goes
pub trimmed_blank : (front : List ℕ) (b : ℕ) → is_blank b ≡ true → trimmed (front ++ b ∷ []) ≡ trimmed front
trimmed_blank [] b blank = ap (λ t. let r : List ℕ = if t then [] else b ∷ [] in r) blank
trimmed_blank (a ∷ front) b blank = ap (before_trimmed a) (trimmed_blank front b blank)

-- and where there is none, nothing does
pub trimmed_plain : (text : List ℕ) → ((front : List ℕ) (b : ℕ) → text ≡ front ++ b ∷ [] → is_blank b ≡ false) → trimmed text ≡ text
trimmed_plain [] plain = refl
trimmed_plain (a ∷ []) plain = ap (λ t. let r : List ℕ = if t then [] else a ∷ [] in r) (plain [] a refl)
trimmed_plain (a ∷ b ∷ bs) plain = ap (before_trimmed a) (trimmed_plain (b ∷ bs) (λ front c is. plain (a ∷ front) c (ap (λ t. a ∷ t) is)))

pub trimmed_on : (text front whole : List ℕ) → ((b : ℕ) × (text ≡ front ++ b ∷ []) × IsTrue (is_blank b)) → trimmed text ≡ trimmed whole → trimmed front ≡ trimmed whole
trimmed_on text front whole cut same = trimmed_on_at text front whole cut.0 cut.1 cut.2 same
  where
    trimmed_on_at : (text front whole : List ℕ) (b : ℕ) → text ≡ front ++ b ∷ [] → is_blank b ≡ true → trimmed text ≡ trimmed whole → trimmed front ≡ trimmed whole
    trimmed_on_at text front whole b is blank same = sym (trimmed_blank front b blank) ∙ sym (ap trimmed is) ∙ same

-- ---- what strips one blank

no_blank : (b : ℕ) → b ≢ 32 → b ≢ 9 → b ≢ 13 → is_blank b ≡ false
no_blank b one two three = by (b == 32) (b == 9) (b == 13) refl refl refl where
  by : (x y z : Bool) → (b == 32) ≡ x → (b == 9) ≡ y → (b == 13) ≡ z → (x || (y || z)) ≡ false
  by true y z first second third = absurd (one (eqb-true b 32 first))
  by false true z first second third = absurd (two (eqb-true b 9 second))
  by false false true first second third = absurd (three (eqb-true b 13 third))
  by false false false first second third = refl

at_end : (text front : List ℕ) (b c : ℕ) → text ≡ front ++ b ∷ [] → text ≢ front ++ c ∷ [] → b ≢ c
at_end text front b c is other same = other (subst (λ d. text ≡ front ++ d ∷ []) same is)

-- where the others are not there, the last one decides
pub last_stripped : (text : List ℕ) (r : Option (Bor (List ℕ))) → ((front : List ℕ) → text ≢ front ++ 32 ∷ []) → ((front : List ℕ) → text ≢ front ++ 9 ∷ [])
    → MatchOption r ((front : List ℕ) → text ≢ front ++ 13 ∷ []) (λ x. text ≡ x.now ++ 13 ∷ [])
    → MatchOption r ((front : List ℕ) (b : ℕ) → text ≡ front ++ b ∷ [] → is_blank b ≡ false) (λ x. (b : ℕ) × (text ≡ x.now ++ b ∷ []) × IsTrue (is_blank b))
last_stripped text None one two three = λ front b is. no_blank b (at_end text front b 32 is (one front)) (at_end text front b 9 is (two front)) (at_end text front b 13 is (three front))
last_stripped text (Some x) one two is = (13, is, refl)
