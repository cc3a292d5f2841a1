-- Texts by the byte that they begin with.
use Rattle.std.proofs.Common.{◌≡◌, ◌≢◌, sym, ap, ◌∙◌, subst, ℕ, ◌<◌, List, [], ◌∷◌, ◌++◌, inl, inr, length, arith}
use Rattle.std.specs.List.{AllByRecursion}
use Rattle.vrl_token.specs.Lexical.{BeginsInside, BeginsOutside, IsBlank}
use Rattle.vrl_token.specs.Pieces.{IsRemark}
use Rattle.vrl_token.specs.Respelling.{IsStop, Stops}
use Rattle.vrl_token.specs.Words.{BeginsWith, BeginsWithout}

abbrev head : List ℕ → ℕ
head [] = 0
head (b ∷ bs) = b

-- what holds of the first byte, wherever the text goes on otherwise
pub first_byte : (P Q : ℕ → Type 0) (x rest behind more : List ℕ) (b : ℕ) → BeginsInside Q x → x ++ rest ≡ b ∷ behind
    → P b
    → BeginsInside P (x ++ more)
first_byte P Q [] rest behind more b some is holds = absurd some
first_byte P Q (c ∷ cs) rest behind more b some is holds = subst P (sym (ap head is)) holds

pub stops : (text : List ℕ) → BeginsInside IsStop text → Stops text
stops [] is = tt
stops (b ∷ bs) is = is

pub without : (mark : ℕ) (text : List ℕ) → BeginsInside (λ b. b ≢ mark) text → BeginsWithout mark text
without mark [] is = tt
without mark (b ∷ bs) is = is

pub no_sign_from : (x more : List ℕ) → BeginsInside (λ b. (b ≢ 61) × (b ≢ 124)) x
    → BeginsWithout 61 (x ++ more) × BeginsWithout 124 (x ++ more)
no_sign_from [] more is = absurd is
no_sign_from (b ∷ bs) more is = is

pub no_blank_from : (x more : List ℕ) → BeginsInside (λ b. (¬ IsBlank b) × (b ≢ 10)) x
    → BeginsOutside IsBlank (x ++ more)
no_blank_from [] more is = absurd is
no_blank_from (b ∷ bs) more is = is.0

mark_no_blank : (b : ℕ) → b ≡ 35 → ¬ IsBlank b
mark_no_blank b mark (inl is) = omega (arith, mark, is)
mark_no_blank b mark (inr (inl is)) = omega (arith, mark, is)
mark_no_blank b mark (inr (inr is)) = omega (arith, mark, is)

pub no_blank_in_remark : (text rest : List ℕ) → IsRemark text rest → BeginsOutside IsBlank text
no_blank_in_remark [] rest is = tt
no_blank_in_remark (b ∷ bs) rest is = mark_no_blank b (ap head is.parts)

-- ---- what doesn't begin with `(`

pub begins_otherwise : (text behind : List ℕ) (b : ℕ) → text ≡ b ∷ behind → b ≢ 40 → ¬ BeginsWith 40 text
begins_otherwise [] behind b is other opens = opens
begins_otherwise (c ∷ cs) behind b is other opens = other (sym (ap head is) ∙ opens)

blank_otherwise : (b : ℕ) → IsBlank b → b ≢ 40
blank_otherwise b (inl is) opens = omega (arith, is, opens)
blank_otherwise b (inr (inl is)) opens = omega (arith, is, opens)
blank_otherwise b (inr (inr is)) opens = omega (arith, is, opens)

pub blanks_otherwise : (text blanks rest : List ℕ) → 0 < length blanks → text ≡ blanks ++ rest
    → AllByRecursion IsBlank blanks
    → ¬ BeginsWith 40 text
blanks_otherwise text [] rest some is blank opens = omega (arith, some)
blanks_otherwise text (b ∷ bs) rest some is blank opens =
    begins_otherwise text (bs ++ rest) b is (blank_otherwise b blank.0) opens
