-- How lines go into batches.
use Rattle.std.proofs.Common.{◌≡◌, ℕ, List, [], ◌∷◌, ◌++◌, length, filter, Bool, true, false, ◌||◌, true≢false, if◌then◌else◌, leb, inl, inr, refl, sym, ap, ◌∙◌, append_assoc, subst, arith}
use Rattle.std.proofs.lemmas.Bool.{leb-false, lt-leb}
use Rattle.std.proofs.lemmas.List.{append-nil, length-append}
use Rattle.std.proofs.lemmas.List.Sums.{sum_by-append}
use Rattle.std.specs.List.{flat_map, sum_by}
use Rattle.vrl_batch.specs.Batches.{IsAtMostBatch, batch_bytes, batch_lines, batches_from, batches_of, is_whole, kept_bytes, lines_in_whole}

module _ {X : Type 0} where
  else_of : (test : Bool) (x y : X) → test ≡ false → (if test then x else y) ≡ y
  else_of true x y is = absurd (true≢false is)
  else_of false x y is = refl

  then_of : (test : Bool) (x y : X) → test ≡ true → (if test then x else y) ≡ x
  then_of true x y is = refl
  then_of false x y is = absurd (true≢false (sym is))

neither : (a b : Bool) → (a || b) ≡ false → (a ≡ false) × (b ≡ false)
neither true b is = absurd (true≢false is)
neither false b is = (refl, is)

both_not : (a b : Bool) → a ≡ false → b ≡ false → (a || b) ≡ false
both_not true b first second = first
both_not false b first second = second

-- a front of lines that are not whole isn't whole
pub whole-front : (lines more : List (ℕ × List ℕ)) → is_whole (lines ++ more) ≡ false → is_whole lines ≡ false
whole-front lines more none =
    let not_either = neither (leb batch_lines (length (lines ++ more))) (leb batch_bytes (sum_by kept_bytes (lines ++ more))) none in
    let few = leb-false batch_lines (length (lines ++ more)) not_either.0 in
    let small = leb-false batch_bytes (sum_by kept_bytes (lines ++ more)) not_either.1 in
    both_not _ _ (lt-leb batch_lines (length lines) (omega (arith, few, length-append lines more))) (lt-leb batch_bytes (sum_by kept_bytes lines) (omega (arith, small, sum_by-append kept_bytes lines more)))

-- lines that are not whole go on in the batch that is begun
goes_on : (more begun : List (ℕ × List ℕ)) (l : ℕ × List ℕ) (rest : List (ℕ × List ℕ)) → is_whole (begun ++ more) ≡ false → batches_from (more ++ l ∷ rest) begun ≡ batches_from (l ∷ rest) (begun ++ more)
goes_on [] begun l rest none = ap (batches_from (l ∷ rest)) (sym (append-nil begun))
goes_on (m ∷ more) begun l rest none =
    let joined = append_assoc begun (m ∷ []) more in
    let none_yet = subst (λ lines. is_whole lines ≡ false) (sym joined) none in
    else_of (is_whole (begun ++ m ∷ [])) _ _ (whole-front (begun ++ m ∷ []) more none_yet)
    ∙ goes_on more (begun ++ m ∷ []) l rest none_yet
    ∙ ap (batches_from (l ∷ rest)) joined

-- the first batch is the lines that are whole, and no more than a batch
first_batch : (lines rest : List (ℕ × List ℕ)) → IsAtMostBatch lines → is_whole lines ≡ true → batches_of (lines ++ rest) ≡ lines ∷ batches_of rest
first_batch lines rest (inl none) whole = absurd (true≢false (sym whole ∙ ap is_whole none))
first_batch lines rest (inr (begun, last, is, less)) whole =
    ap (λ x. batches_from (x ++ rest) []) is
    ∙ ap (λ x. batches_from x []) (append_assoc begun (last ∷ []) rest)
    ∙ goes_on begun [] last rest less
    ∙ then_of (is_whole (begun ++ last ∷ [])) _ _ (sym (ap is_whole is) ∙ whole)
    ∙ ap (λ x. x ∷ batches_from rest []) (sym is)

pub whole-first : (lines rest : List (ℕ × List ℕ)) → IsAtMostBatch lines → is_whole lines ≡ true → lines_in_whole (lines ++ rest) ≡ lines ++ lines_in_whole rest
whole-first lines rest at_most whole =
    ap (λ x. flat_map (λ batch. batch) (filter is_whole x)) (first_batch lines rest at_most whole)
    ∙ ap (flat_map (λ batch. batch)) (then_of (is_whole lines) _ _ whole)

none_from : (lines begun : List (ℕ × List ℕ)) → is_whole (begun ++ lines) ≡ false → filter is_whole (batches_from lines begun) ≡ []
none_from [] [] none = refl
none_from [] (b ∷ begun) none = else_of (is_whole (b ∷ begun)) _ _ (ap is_whole (sym (append-nil (b ∷ begun))) ∙ none)
none_from (l ∷ lines) begun none =
    let none_yet = subst (λ x. is_whole x ≡ false) (sym (append_assoc begun (l ∷ []) lines)) none in
    ap (filter is_whole) (else_of (is_whole (begun ++ l ∷ [])) _ _ (whole-front (begun ++ l ∷ []) lines none_yet))
    ∙ none_from lines (begun ++ l ∷ []) none_yet

-- lines that are not whole have no whole batch
pub whole-none : (lines : List (ℕ × List ℕ)) → is_whole lines ≡ false → lines_in_whole lines ≡ []
whole-none lines none = ap (flat_map (λ batch. batch)) (none_from lines [] none)
