-- How an input divides at its first newline.
use Rattle.std.proofs.Common.{◌≡◌, ℕ, zero, suc, ◌<◌, ◌≢◌, List, [], ◌∷◌, length, get_or, take, drop, refl, ap, ◌∙◌, arith}
use Rattle.std.proofs.lemmas.Bool.Decides.{nat_tests}
use Rattle.std.specs.List.{onto_first}
use Rattle.vrl_batch.specs.Lines.{lines_of}

-- a byte that is no newline goes before the first line
pub lines_of-other : (b : ℕ) (bytes : List ℕ) → b ≢ 10 → lines_of (b ∷ bytes) ≡ onto_first b (lines_of bytes)
lines_of-other b bytes other = grind (arith, nat_tests)

-- the first newline stands at this place: the line before it comes first
pub lines_of-newline : (bytes : List ℕ) (end : ℕ) → ((k : ℕ) → k < end → get_or bytes k 0 ≢ 10) → end < length bytes → get_or bytes end 0 ≡ 10 → lines_of bytes ≡ take end bytes ∷ lines_of (drop (suc end) bytes)
lines_of-newline [] end before within found = absurd (omega arith)
lines_of-newline (b ∷ bytes) zero before within found = rw found refl
lines_of-newline (b ∷ bytes) (suc end) before within found =
    let later = lines_of-newline bytes end (λ k lt. before (suc k) (omega arith)) (omega arith) found in
    lines_of-other b bytes (before 0 (omega arith)) ∙ ap (onto_first b) later

-- with no newline all is one line
pub lines_of-no_newline : (bytes : List ℕ) → 0 < length bytes → ((k : ℕ) → k < length bytes → get_or bytes k 0 ≢ 10) → lines_of bytes ≡ bytes ∷ []
lines_of-no_newline [] some none = absurd (omega arith)
lines_of-no_newline (b ∷ []) some none = lines_of-other b [] (none 0 (omega arith))
lines_of-no_newline (b ∷ c ∷ bytes) some none =
    lines_of-other b (c ∷ bytes) (none 0 (omega arith)) ∙ ap (onto_first b) (lines_of-no_newline (c ∷ bytes) (omega arith) (λ k lt. none (suc k) (omega arith)))
