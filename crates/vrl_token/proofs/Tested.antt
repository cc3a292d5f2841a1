-- What a test chooses between, and what follows from each outcome.
use Rattle.std.proofs.Common.{◌≡◌, ℕ, ◌<◌, ◌==◌, Bool, true, false, not, IsTrue, ◌↔◌, Option, Some, None, MatchOption, List, [], ◌∷◌, length, Result, Ok, Err, IfOk, inl, inr, refl, subst, arith}
use Rattle.std.proofs.lemmas.Bool.Decides.{eqb_tells}
use Rattle.vrl_token.specs.Lexical.{BeginsInside, BeginsOutside, IsLongestRun, IsName, IsNamePart, IsNameStart}
use Rattle.std.specs.Bool.{then_some}
use Rattle.std.specs.Option.{is_some}

-- a value that is there where the test holds
pub chosen : {X P none : Type 0} (Q : X → Type 0) (x : X) (test : Bool) → (IsTrue test ↔ P) → (P → Q x) → (¬ P → none) → MatchOption (then_some test x) none Q
chosen Q x true says found missing = found (says.0 refl)
chosen Q x false says found missing = missing (λ p. let wrong = says.1 p in cc)

-- a weaker fact of each outcome
pub weaker : {X none other : Type 0} {P Q : X → Type 0} (found : Option X) → (none → other) → ((x : X) → P x → Q x) → MatchOption found none P → MatchOption found other Q
weaker None missing each h = missing h
weaker (Some x) missing each h = each x h

-- whether a value is there
pub found_is : {X P : Type 0} {Q : X → Type 0} (found : Option X) → ((x : X) → Q x → P) → MatchOption found (¬ P) Q → IsTrue (is_some found) ↔ P
found_is None each none = (λ wrong. cc, λ p. absurd (none p))
found_is (Some x) each some = (λ _. each x some, λ _. refl)

-- what a test says where its outcome is known
pub passes : {P : Type 0} {test : Bool} → (IsTrue test ↔ P) → test ≡ true → P
passes says is = says.0 is

pub fails : {P : Type 0} {test : Bool} → (IsTrue test ↔ P) → test ≡ false → ¬ P
fails says is p = let wrong = says.1 p in cc

-- what a test of a length says
pub is_zero : (n : ℕ) {test : Bool} → test ≡ (n == 0) → test ≡ true → n ≡ 0
is_zero n says is = elim (eqb_tells n 0) [ inl same ↦ same.1 | inr apart ↦ let wrong = apart.0 in cc ]

pub is_more : (n : ℕ) {test : Bool} → test ≡ (n == 0) → test ≡ false → 0 < n
is_more n says is = elim (eqb_tells n 0) [ inl same ↦ let wrong = same.0 in cc | inr apart ↦ let other = apart.1 in omega arith ]

pub is_empty_list : {X : Type 0} (xs : List X) → length xs ≡ 0 → xs ≡ []
is_empty_list [] none = refl
is_empty_list (x ∷ xs) none = absurd (omega arith)

pub not_false : (test : Bool) → not test ≡ false → test ≡ true
not_false true is = refl
not_false false is = cc

pub not_true : (test : Bool) → not test ≡ true → test ≡ false
not_true true is = cc
not_true false is = refl

pub outside_of : (P : ℕ → Type 0) (text : List ℕ) → ¬ BeginsInside P text → BeginsOutside P text
outside_of P [] none = tt
outside_of P (b ∷ bs) none = none

-- a weaker fact of a value
pub ok_weaker : {X E : Type 0} {P Q : X → Type 0} (found : Result X E) → ((x : X) → P x → Q x) → IfOk found P → IfOk found Q
ok_weaker (Ok x) each h = each x h
ok_weaker (Err e) each h = tt

pub option_weaker : {X none other : Type 0} {P Q : X → Type 0} (found : Option X) → (none → other) → ((x : X) → P x → Q x) → MatchOption found none P → MatchOption found other Q
option_weaker None missing each h = missing h
option_weaker (Some x) missing each h = each x h

pub start_is_part : (b : ℕ) → IsNameStart b → IsNamePart b
start_is_part b start = elim start [ inl letter ↦ inl letter | inr mark ↦ inr (inr mark) ]

-- a run that begins as a name does is a name
pub name_of_run : (text name rest : List ℕ) → BeginsInside IsNameStart text → IsLongestRun IsNamePart text name rest → IsName name
name_of_run text [] [] begins run = absurd (subst (BeginsInside IsNameStart) run.parts begins)
name_of_run text [] (b ∷ bs) begins run = absurd (run.ends (start_is_part b (subst (BeginsInside IsNameStart) run.parts begins)))
name_of_run text (b ∷ bs) rest begins run = (subst (BeginsInside IsNameStart) run.parts begins, run.passes.1)
