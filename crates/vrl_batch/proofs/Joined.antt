-- The lines of bytes, one part behind another.
use Rattle.std.proofs.Common.{◌≡◌, ◌≢◌, ◌==◌, ℕ, zero, suc, ◌+◌, ◌<◌, ◌≤◌, List, [], ◌∷◌, ◌++◌, length, take, get_or, filter, Bool, true, false, not, if◌then◌else◌, inl, inr, refl, sym, ap, ◌∙◌, append_assoc, subst, arith}
use Rattle.std.proofs.lemmas.Bool.Decides.{nat_tests}
use Rattle.std.proofs.lemmas.List.{length-append}
use Rattle.std.proofs.lemmas.List.Elements.{filter-append}
use Rattle.std.specs.List.{enumerate_from, onto_first}
use Rattle.vrl_batch.proofs.LineLemmas.{lines_of-other}
use Rattle.vrl_batch.specs.Lines.{AreWholeLines, IsUnbroken, before_some, ended_of, event_lines_from, is_blank, lines_of}

-- ---- behind a newline

with_first : (test : Bool) (b : ℕ) (whole lines more : List (List ℕ)) (line : List ℕ) (others : List (List ℕ)) → lines ≡ line ∷ others → whole ≡ lines ++ more
    → (if test then [] ∷ whole else onto_first b whole) ≡ (if test then [] ∷ lines else onto_first b lines) ++ more
with_first true b whole lines more line others is same = ap (λ x. [] ∷ x) same
with_first false b whole lines more line others is same = rw (same, is) refl

first_is : (test : Bool) (b : ℕ) (lines : List (List ℕ)) (line : List ℕ) (others : List (List ℕ)) → lines ≡ line ∷ others
    → (first : List ℕ) × (rest : List (List ℕ)) × ((if test then [] ∷ lines else onto_first b lines) ≡ first ∷ rest)
first_is true b lines line others is = ([], lines, refl)
first_is false b lines line others is = (b ∷ line, others, ap (onto_first b) is)

some_line : (before : List ℕ) → (first : List ℕ) × (rest : List (List ℕ)) × (lines_of (before ++ 10 ∷ []) ≡ first ∷ rest)
some_line [] = ([], [], refl)
some_line (b ∷ before) = let some = some_line before in first_is (b == 10) b _ some.0 some.1 some.2

lines-behind : (before more : List ℕ) → lines_of ((before ++ 10 ∷ []) ++ more) ≡ lines_of (before ++ 10 ∷ []) ++ lines_of more
lines-behind [] more = refl
lines-behind (b ∷ before) more = let some = some_line before in with_first (b == 10) b _ _ (lines_of more) some.0 some.1 some.2 (lines-behind before more)

pub lines-append : (front more : List ℕ) → AreWholeLines front → lines_of (front ++ more) ≡ lines_of front ++ lines_of more
lines-append front more (inl none) = rw none refl
lines-append front more (inr (before, is)) = rw is (lines-behind before more)

enumerate-append : {X : Type 0} (n : ℕ) (xs ys : List X) → enumerate_from n (xs ++ ys) ≡ enumerate_from n xs ++ enumerate_from (n + length xs) ys
enumerate-append n [] ys = ap (λ k. enumerate_from k ys) (omega arith)
enumerate-append n (x ∷ xs) ys = ap (λ es. (n, x) ∷ es) (enumerate-append (n + 1) xs ys ∙ ap (λ k. enumerate_from (n + 1) xs ++ enumerate_from k ys) (omega arith))

abbrev pub is_event : ℕ × List ℕ → Bool
is_event l = not (is_blank l.1)

pub events-append : (n : ℕ) (front more : List ℕ) → AreWholeLines front → event_lines_from n (front ++ more) ≡ event_lines_from n front ++ event_lines_from (n + length (lines_of front)) more
events-append n front more whole =
    ap (λ lines. filter is_event (enumerate_from n lines)) (lines-append front more whole)
    ∙ ap (filter is_event) (enumerate-append n (lines_of front) (lines_of more))
    ∙ filter-append is_event (enumerate_from n (lines_of front)) (enumerate_from (n + length (lines_of front)) (lines_of more))

pub whole-append : (front more : List ℕ) → AreWholeLines front → AreWholeLines more → AreWholeLines (front ++ more)
whole-append front more whole (inl none) = rw (none, append_nil front) whole
  where
    append_nil : (xs : List ℕ) → xs ++ [] ≡ xs
    append_nil [] = refl
    append_nil (x ∷ xs) = ap (λ ys. x ∷ ys) (append_nil xs)
whole-append front more whole (inr (before, is)) = inr (front ++ before, ap (λ x. front ++ x) is ∙ sym (append_assoc front before (10 ∷ [])))

-- ---- without a newline

pub lines-unbroken : (line rest : List ℕ) → IsUnbroken line → lines_of (line ++ 10 ∷ rest) ≡ line ∷ lines_of rest
lines-unbroken [] rest unbroken = refl
lines-unbroken (b ∷ line) rest unbroken = lines_of-other b (line ++ 10 ∷ rest) unbroken.0 ∙ ap (onto_first b) (lines-unbroken line rest unbroken.1)

pub lines-last : (b : ℕ) (line : List ℕ) → IsUnbroken (b ∷ line) → lines_of (b ∷ line) ≡ (b ∷ line) ∷ []
lines-last b [] unbroken = lines_of-other b [] unbroken.0
lines-last b (c ∷ line) unbroken = lines_of-other b (c ∷ line) unbroken.0 ∙ ap (onto_first b) (lines-last c line unbroken.1)

pub unbroken-append : (line more : List ℕ) → IsUnbroken line → IsUnbroken more → IsUnbroken (line ++ more)
unbroken-append [] more unbroken also = also
unbroken-append (b ∷ line) more unbroken also = (unbroken.0, unbroken-append line more unbroken.1 also)

pub unbroken-take : (bytes : List ℕ) (end : ℕ) → ((k : ℕ) → k < end → get_or bytes k 0 ≢ 10) → end < suc (length bytes) → IsUnbroken (take end bytes)
unbroken-take bytes zero none within = tt
unbroken-take [] (suc end) none within = absurd (omega arith)
unbroken-take (b ∷ bytes) (suc end) none within = (none 0 (omega arith), unbroken-take bytes end (λ k below. none (suc k) (omega (arith, below))) (omega (arith, within)))

-- ---- the lines that have ended

ended-other : (b : ℕ) (bytes : List ℕ) → b ≢ 10 → ended_of (b ∷ bytes) ≡ before_some b (ended_of bytes)
ended-other b bytes other = grind (arith, nat_tests)

pub ended-unbroken : (line : List ℕ) → IsUnbroken line → ended_of line ≡ []
ended-unbroken [] unbroken = refl
ended-unbroken (b ∷ line) unbroken = ended-other b line unbroken.0 ∙ ap (before_some b) (ended-unbroken line unbroken.1)

with_more : (test : Bool) (b c : ℕ) (ended more : List ℕ) → ended ≡ c ∷ more → (if test then b ∷ ended else before_some b ended) ≡ b ∷ ended
with_more true b c ended more is = refl
with_more false b c ended more is = rw is refl

ended-behind : (before more : List ℕ) → ended_of ((before ++ 10 ∷ []) ++ more) ≡ (before ++ 10 ∷ []) ++ ended_of more
ended-behind [] more = refl
ended-behind (b ∷ []) more = with_more (b == 10) b 10 _ (ended_of more) refl
ended-behind (b ∷ c ∷ before) more =
    let later = ended-behind (c ∷ before) more in
    with_more (b == 10) b c _ ((before ++ 10 ∷ []) ++ ended_of more) later ∙ ap (λ x. b ∷ x) later

pub ended-append : (front more : List ℕ) → AreWholeLines front → ended_of (front ++ more) ≡ front ++ ended_of more
ended-append front more (inl none) = rw none refl
ended-append front more (inr (before, is)) = rw is (ended-behind before more)

-- the lines that have ended stand in front
pub record EndsIn (ended bytes : List ℕ) : Type 0 where
  pub whole : AreWholeLines ended
  pub rest : List ℕ
  pub divides : bytes ≡ ended ++ rest

whole-behind : (b c : ℕ) (ended : List ℕ) → AreWholeLines (c ∷ ended) → AreWholeLines (b ∷ c ∷ ended)
whole-behind b c ended (inl none) = absurd (no_nil none) where
  no_nil : c ∷ ended ≡ [] → ⊥
  no_nil e = cc
whole-behind b c ended (inr (before, is)) = inr (b ∷ before, ap (λ x. b ∷ x) is)

ends_in-more : (test : Bool) (b : ℕ) (ended bytes : List ℕ) → (test ≡ true → b ≡ 10) → EndsIn ended bytes
    → EndsIn (if test then b ∷ ended else before_some b ended) (b ∷ bytes)
ends_in-more true b [] bytes newline at = record {
  whole = inr ([], ap (λ x. x ∷ []) (newline refl));
  rest = at.rest;
  divides = ap (λ x. b ∷ x) at.divides;
}
ends_in-more false b [] bytes newline at = record { whole = inl refl; rest = b ∷ at.rest; divides = ap (λ x. b ∷ x) at.divides }
ends_in-more true b (c ∷ ended) bytes newline at = record {
  whole = whole-behind b c ended at.whole;
  rest = at.rest;
  divides = ap (λ x. b ∷ x) at.divides;
}
ends_in-more false b (c ∷ ended) bytes newline at = record {
  whole = whole-behind b c ended at.whole;
  rest = at.rest;
  divides = ap (λ x. b ∷ x) at.divides;
}

is_newline : (b : ℕ) → (b == 10) ≡ true → b ≡ 10
is_newline b is = grind (arith, nat_tests)

ends_in : (bytes : List ℕ) → EndsIn (ended_of bytes) bytes
ends_in [] = record { whole = inl refl; rest = []; divides = refl }
ends_in (b ∷ bytes) = ends_in-more (b == 10) b (ended_of bytes) bytes (is_newline b) (ends_in bytes)

-- no fewer lines are there where more follows
pub events-fewer : (n : ℕ) (front more : List ℕ) → AreWholeLines front
    → length (event_lines_from n front) ≤ length (event_lines_from n (front ++ more))
events-fewer n front more whole =
    let all = ap length (events-append n front more whole) in
    let both = length-append (event_lines_from n front) (event_lines_from (n + length (lines_of front)) more) in
    omega (arith, all, both)

-- nor than have ended
pub ended-fewer : (n : ℕ) (bytes more : List ℕ)
    → length (event_lines_from n (ended_of bytes)) ≤ length (event_lines_from n (bytes ++ more))
ended-fewer n bytes more =
    let at = ends_in bytes in
    let divides : bytes ++ more ≡ ended_of bytes ++ (at.rest ++ more) =
    ap (λ x. x ++ more) at.divides ∙ append_assoc (ended_of bytes) at.rest more in
    subst (λ x. length (event_lines_from n (ended_of bytes)) ≤ length (event_lines_from n x)) (sym divides)
    (events-fewer n (ended_of bytes) (at.rest ++ more) at.whole)
