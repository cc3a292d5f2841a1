-- The first bytes of names, segments and paths.
use Rattle.std.proofs.Common.{◌≡◌, ℕ, ◌⊎◌, List, [], ◌∷◌, length, inl, inr, refl, sym, subst, arith}
use Rattle.vrl_token.specs.Lexical.{BeginsInside, BeginsOutside, IsLongestRun, IsName, IsNamePart}
use Rattle.vrl_token.specs.Paths.{BeginsDotted, RootSegments, Segment, Segments, field, index, quoted}
use Rattle.vrl_token.specs.Words.{BeginsRaw, BeginsWith, IsNonempty}

pub not_inside : (P : ℕ → Type 0) (text : List ℕ) → BeginsOutside P text → ¬ BeginsInside P text
not_inside P [] outside inside = inside
not_inside P (b ∷ bs) outside inside = outside inside

pub inside_apart : (P Q : ℕ → Type 0) (text : List ℕ) → ((b : ℕ) → P b → ¬ Q b) → BeginsInside P text → ¬ BeginsInside Q text
inside_apart P Q [] apart one two = one
inside_apart P Q (b ∷ bs) apart one two = apart b one two

pub one_letter : (name text rest : List ℕ) → IsName name → IsLongestRun IsNamePart text name rest → BeginsRaw text → (length name ≡ 1) × BeginsWith 39 rest
one_letter [] text rest is run raw = absurd is
one_letter (b ∷ []) text rest is run raw = (refl, (subst BeginsRaw run.parts raw).1)
one_letter (b ∷ c ∷ cs) text rest is run raw = let mark = (subst BeginsRaw run.parts raw).1 in let part = is.1.0 in absurd (grind (arith, mark, part))

pub segment_begins : (text : List ℕ) (segment : Segment) (rest : List ℕ) → BeginsDotted text segment rest → BeginsInside (λ b. (b ≡ 46) ⊎ (b ≡ 91)) text
segment_begins text (field name) rest begins = subst (BeginsInside (λ b. (b ≡ 46) ⊎ (b ≡ 91))) (sym begins.parts) (inl refl)
segment_begins text (quoted cs) rest begins = subst (BeginsInside (λ b. (b ≡ 46) ⊎ (b ≡ 91))) (sym begins.parts) (inl refl)
segment_begins text (index negative digits) rest begins = subst (BeginsInside (λ b. (b ≡ 46) ⊎ (b ≡ 91))) (sym begins.parts) (inr refl)

pub path_begins : (text : List ℕ) (segments : List Segment) (rest : List ℕ) → Segments text segments rest → IsNonempty segments → BeginsInside (λ b. (b ≡ 46) ⊎ (b ≡ 91)) text
path_begins text [] rest walk some = absurd some
path_begins text (s ∷ ss) rest walk some = segment_begins text s walk.0 walk.1

pub root_begins : (sign : ℕ) (text : List ℕ) (segments : List Segment) (rest : List ℕ) → RootSegments sign text segments rest → BeginsWith sign text
root_begins sign text [] rest walk = subst (BeginsWith sign) (sym walk.0) refl
root_begins sign text (s ∷ ss) rest walk = subst (BeginsWith sign) (sym walk.2) refl
