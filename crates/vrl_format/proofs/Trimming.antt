-- What a text loses without the blanks at its end are blanks.
use Rattle.std.proofs.Common.{◌≡◌, refl, ap, ℕ, Bool, true, false, if◌then◌else◌, List, [], ◌∷◌, ◌++◌, arith}
use Rattle.std.specs.List.{AllByRecursion}
use Rattle.vrl_token.specs.Lexical.{IsBlank}
use Rattle.vrl_format.specs.Pieces.{before_trimmed, is_blank, trimmed}

-- the text is this front and blanks
pub record IsTrimmed (text front : List ℕ) : Type 0 where
  pub blanks : List ℕ
  pub parts : text ≡ front ++ blanks
  pub all : AllByRecursion IsBlank blanks

blank_is : (b : ℕ) → is_blank b ≡ true → IsBlank b
blank_is b is = grind (arith, is)

alone : (b : ℕ) (bs blanks : List ℕ) → bs ≡ blanks → AllByRecursion IsBlank blanks → (blank : Bool)
    → (blank ≡ true → IsBlank b)
    → IsTrimmed (b ∷ bs) (if blank then [] else b ∷ [])
alone b bs blanks parts all true holds =
    record { blanks = b ∷ blanks; parts = ap (λ t. b ∷ t) parts; all = (holds refl, all) }
alone b bs blanks parts all false holds = record { blanks = blanks; parts = ap (λ t. b ∷ t) parts; all = all }

one_more : (b : ℕ) (bs front : List ℕ) → IsTrimmed bs front → IsTrimmed (b ∷ bs) (before_trimmed b front)
one_more b bs [] is = alone b bs is.blanks is.parts is.all (is_blank b) (blank_is b)
one_more b bs (c ∷ cs) is = record { blanks = is.blanks; parts = ap (λ t. b ∷ t) is.parts; all = is.all }

pub is_trimmed : (text : List ℕ) → IsTrimmed text (trimmed text)
is_trimmed [] = record { blanks = []; parts = refl; all = tt }
is_trimmed (b ∷ bs) = one_more b bs (trimmed bs) (is_trimmed bs)
