-- The longest run of a class that a text begins with: it is what a count of its bytes cuts off, and there is no other.
use Rattle.std.proofs.Common.{◌≡◌, ◌≢◌, ℕ, zero, suc, ◌<◌, ◌≤◌, List, [], ◌∷◌, ◌++◌, length, get_or, take, drop, refl, sym, ◌∙◌, subst, arith, add-one}
use Rattle.std.specs.List.{AllByRecursion}
use Rattle.std.specs.Str.{IsUtf8, IsCharBoundary}
use Rattle.std.proofs.lemmas.List.{take-append-drop}
use Rattle.std.proofs.lemmas.Str.{IsCharBoundary-start, IsCharBoundary-after_ascii}
use Rattle.vrl_token.specs.Scan.{IsIn}
use Rattle.vrl_token.specs.Lexical.{BeginsOutside, IsLongestRun}
use Rattle.vrl_token.specs.declared.scan.Class.{Class}
use Rattle.vrl_token.proofs.Classes.{in_ascii}

passes-take : (P : ℕ → Type 0) (text : List ℕ) (n : ℕ) → n ≤ length text → ((k : ℕ) → k < n → P (get_or text k 0)) → AllByRecursion P (take n text)
passes-take P text zero within before = tt
passes-take P [] (suc n) within before = absurd (omega arith)
passes-take P (b ∷ bs) (suc n) within before = (before 0 (omega arith), passes-take P bs n (omega arith) (λ k h. before (suc k) (omega arith)))

outside-drop : (P : ℕ → Type 0) (text : List ℕ) (n : ℕ) → n ≤ length text → (n < length text → ¬ P (get_or text n 0)) → BeginsOutside P (drop n text)
outside-drop P [] zero within after = tt
outside-drop P (b ∷ bs) zero within after = after (omega arith)
outside-drop P [] (suc n) within after = absurd (omega arith)
outside-drop P (b ∷ bs) (suc n) within after = outside-drop P bs n (omega arith) (λ h. after (omega arith))

-- a text cut where its first byte outside the class stands
pub longest_run_at : (P : ℕ → Type 0) (text run rest : List ℕ) (n : ℕ) → run ≡ take n text → rest ≡ drop n text → n ≤ length text → ((k : ℕ) → k < n → P (get_or text k 0)) → (n < length text → ¬ P (get_or text n 0)) → IsLongestRun P text run rest
longest_run_at P text run rest n front back within before after = record {
  parts = rw (front, back) (sym (take-append-drop n text));
  passes = rw front (passes-take P text n within before);
  ends = rw back (outside-drop P text n within after);
}

-- a text may be cut behind bytes of a class, since they are ASCII
pub IsCharBoundary-behind_run : (class : Class) (text : List ℕ) (n : ℕ) → IsUtf8 text → n ≤ length text → ((k : ℕ) → k < n → IsIn class (get_or text k 0)) → IsCharBoundary text n
IsCharBoundary-behind_run class text zero utf8 within before = IsCharBoundary-start text utf8
IsCharBoundary-behind_run class text (suc n) utf8 within before =
    rw (← add-one n) (IsCharBoundary-after_ascii text n utf8 (omega arith) (in_ascii class _ (before n (omega arith))))

pub same_cut : (P : ℕ → Type 0) (run rest other last : List ℕ) → AllByRecursion P run → BeginsOutside P rest → AllByRecursion P other → BeginsOutside P last → run ++ rest ≡ other ++ last → (run ≡ other) × (rest ≡ last)
same_cut P [] rest [] last run_in rest_out other_in last_out e = (refl, e)
same_cut P [] [] (b ∷ other) last run_in rest_out other_in last_out e = cc
same_cut P [] (a ∷ rest) (b ∷ other) last run_in rest_out other_in last_out e = let same : a ≡ b = cc in absurd (rest_out (subst P (sym same) other_in.0))
same_cut P (a ∷ run) rest [] [] run_in rest_out other_in last_out e = cc
same_cut P (a ∷ run) rest [] (b ∷ last) run_in rest_out other_in last_out e = let same : a ≡ b = cc in absurd (last_out (subst P same run_in.0))
same_cut P (a ∷ run) rest (b ∷ other) last run_in rest_out other_in last_out e =
    let tail : run ++ rest ≡ other ++ last = cc in
    let same : a ≡ b = cc in
    let more = same_cut P run rest other last run_in.1 rest_out other_in.1 last_out tail in
    (cc (more.0, same), more.1)

-- there is one longest run
pub same_longest_run : {P : ℕ → Type 0} {text run rest other last : List ℕ} → IsLongestRun P text run rest → IsLongestRun P text other last → (run ≡ other) × (rest ≡ last)
same_longest_run {P} {text} {run} {rest} {other} {last} one two = same_cut P run rest other last one.passes one.ends two.passes two.ends (sym one.parts ∙ two.parts)

pub passes-all : (P : ℕ → Type 0) (xs : List ℕ) → ((k : ℕ) → k < length xs → P (get_or xs k 0)) → AllByRecursion P xs
passes-all P [] each = tt
passes-all P (x ∷ xs) each = (each 0 (omega arith), passes-all P xs (λ k h. each (suc k) (omega arith)))

-- what stands before the first mark
pub run_before_mark : (mark : ℕ) (text before rest : List ℕ) → text ≡ before ++ mark ∷ rest → ((k : ℕ) → k < length before → get_or before k 0 ≢ mark) → IsLongestRun (λ b. b ≢ mark) text before (mark ∷ rest)
run_before_mark mark text before rest parts apart = record {
  parts = parts;
  passes = passes-all (λ b. b ≢ mark) before apart;
  ends = λ p. p refl;
}

pub heads : {a b : ℕ} {xs ys : List ℕ} → a ∷ xs ≡ b ∷ ys → a ≡ b
heads same = cc
