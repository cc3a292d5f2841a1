-- The segment that a text begins with.
use Rattle.std.proofs.Common.{◌≡◌, ◌≢◌, ℕ, ◌<◌, ◌⊎◌, Bool, true, false, List, [], ◌∷◌, ◌++◌, length, inl, inr, refl, sym, ap, ◌∙◌, subst, arith}
use Rattle.std.specs.List.{AllByRecursion}
use Rattle.vrl_token.specs.Lexical.{IsDigit, IsFieldPart, IsLongestRun}
use Rattle.vrl_token.specs.Characters.{Character, IsInside, IsQuoted, IsUnclosed, escaped, plain, spelling_of}
use Rattle.vrl_token.specs.Numbers.{IsDigitRun}
use Rattle.vrl_token.specs.Paths.{BeginsUndotted, Segment, field, index, minus_text, quoted}
use Rattle.std.proofs.lemmas.List.{append-nil}
use Rattle.vrl_token.specs.Segments.{IsFieldSegment, IsIndexSegment, IsUnsigned}
use Rattle.vrl_token.proofs.Runs.{same_longest_run}

-- ---- what is closed isn't unclosed

quote_meets : (quote : ℕ) (cs ds : List Character) (rest tail : List ℕ) → quote ≢ 92 → AllByRecursion (IsInside quote) cs → AllByRecursion (IsInside quote) ds → (tail ≡ []) ⊎ (tail ≡ 92 ∷ []) → ¬ (spelling_of cs ++ quote ∷ rest ≡ spelling_of ds ++ tail)
quote_meets quote [] [] rest tail other left right end e = elim end [ inl none ↦ cc | inr slash ↦ let same : quote ≡ 92 = cc in other same ]
quote_meets quote [] (plain d ∷ ds) rest tail other left right end e = let same : quote ≡ d = cc in right.0.0 (sym same)
quote_meets quote [] (escaped d ∷ ds) rest tail other left right end e = let same : quote ≡ 92 = cc in other same
quote_meets quote (plain c ∷ cs) [] rest tail other left right end e = elim end [ inl none ↦ cc | inr slash ↦ let same : c ≡ 92 = cc in left.0.1 same ]
quote_meets quote (plain c ∷ cs) (plain d ∷ ds) rest tail other left right end e = quote_meets quote cs ds rest tail other left.1 right.1 end (cc (e))
quote_meets quote (plain c ∷ cs) (escaped d ∷ ds) rest tail other left right end e = let same : c ≡ 92 = cc in left.0.1 same
quote_meets quote (escaped c ∷ cs) [] rest tail other left right end e = elim end [ inl none ↦ cc | inr slash ↦ let short : c ∷ (spelling_of cs ++ quote ∷ rest) ≡ [] = cc in cc ]
quote_meets quote (escaped c ∷ cs) (plain d ∷ ds) rest tail other left right end e = let same : d ≡ 92 = cc in right.0.1 same
quote_meets quote (escaped c ∷ cs) (escaped d ∷ ds) rest tail other left right end e = quote_meets quote cs ds rest tail other left.1 right.1 end (cc (e))

pub closed_not_unclosed : {quote : ℕ} {text rest : List ℕ} {cs : List Character} → quote ≢ 92 → IsQuoted quote text cs rest → ¬ IsUnclosed quote text
closed_not_unclosed {quote} {text} {rest} {cs} other closed unclosed =
    elim unclosed.parts [
      | inl none ↦ quote_meets quote cs unclosed.characters rest [] other closed.inside unclosed.inside (inl refl) (sym closed.parts ∙ none ∙ sym (append-nil (spelling_of unclosed.characters)))
      | inr slash ↦ quote_meets quote cs unclosed.characters rest (92 ∷ []) other closed.inside unclosed.inside (inr refl) (sym closed.parts ∙ slash)
    ]

-- ---- indices

index_run_with : (neg negative : Bool) (behind unsigned digits rest : List ℕ) → 0 < length digits → AllByRecursion IsDigit digits → behind ≡ minus_text neg ++ (digits ++ 93 ∷ rest) → IsUnsigned negative behind unsigned
    → (neg ≡ negative) × (unsigned ≡ digits ++ 93 ∷ rest)
index_run_with true true behind unsigned digits rest some all parts sign = (refl, cc)
index_run_with true false behind unsigned digits rest some all parts sign = absurd (sign.1 _ parts)
index_run_with false true behind unsigned [] rest some all parts sign = absurd (omega arith)
index_run_with false true behind unsigned (d ∷ ds) rest some all parts sign = let same : d ≡ 45 = cc in absurd (omega (arith, all.0.0))
index_run_with false false behind unsigned digits rest some all parts sign = (refl, sym sign.0 ∙ parts)

run_to_bracket : (digits rest : List ℕ) → 0 < length digits → AllByRecursion IsDigit digits → IsDigitRun (digits ++ 93 ∷ rest) digits (93 ∷ rest)
run_to_bracket digits rest some all = record { run = record { parts = refl; passes = all; ends = λ h. omega (arith, h.1) }; some = some }

-- the index of a text, read behind its bracket and minus
pub record IsIndexRun (negative : Bool) (unsigned : List ℕ) (segment : Segment) (rest : List ℕ) : Type 0 where
  pub digits : List ℕ
  pub is : segment ≡ index negative digits
  pub run : IsDigitRun unsigned digits (93 ∷ rest)

pub index_run : {text behind unsigned rest : List ℕ} {negative : Bool} (segment : Segment) → IsIndexSegment segment → BeginsUndotted text segment rest → text ≡ 91 ∷ behind → IsUnsigned negative behind unsigned → IsIndexRun negative unsigned segment rest
index_run (field name) is_index begins opens sign = absurd is_index
index_run (quoted cs) is_index begins opens sign = absurd is_index
index_run {text} {behind} {unsigned} {rest} {negative} (index neg digits) is_index begins opens sign =
    let parts : behind ≡ minus_text neg ++ (digits ++ 93 ∷ rest) = let whole = begins.parts in cc in
    let cut = index_run_with neg negative behind unsigned digits rest begins.is_segment.0 begins.is_segment.1 parts sign in
    record { digits = digits; is = ap (λ n. index n digits) cut.0; run = subst (λ t. IsDigitRun t digits (93 ∷ rest)) (sym cut.1) (run_to_bracket digits rest begins.is_segment.0 begins.is_segment.1) }

pub no_closing : {text behind unsigned digits closing : List ℕ} (negative : Bool) → text ≡ 91 ∷ behind → IsUnsigned negative behind unsigned → IsDigitRun unsigned digits closing → ((rest : List ℕ) → closing ≢ 93 ∷ rest)
    → (segment : Segment) (rest : List ℕ) → IsIndexSegment segment → ¬ BeginsUndotted text segment rest
no_closing negative opens sign run none segment rest is_index begins =
    let own = index_run segment is_index begins opens sign in
    none rest (same_longest_run run.run own.run.run).1

-- ---- fields

pub field_run : {text name rest : List ℕ} → BeginsUndotted text (field name) rest → IsLongestRun IsFieldPart text name rest
field_run begins = record { parts = begins.parts; passes = begins.is_segment.1; ends = begins.ends }

-- where no name begins, and nothing in quotes, no field begins
pub no_field : {text rest : List ℕ} → IsLongestRun IsFieldPart text [] rest → ((behind : List ℕ) → text ≡ 34 ∷ behind → IsUnclosed 34 behind) → (segment : Segment) (last : List ℕ) → IsFieldSegment segment → ¬ BeginsUndotted text segment last
no_field run unclosed (field name) last is_field begins =
    let same = (same_longest_run run (field_run begins)).0 in
    let some = begins.is_segment.0 in
    absurd (omega (arith, ap length same))
no_field run unclosed (quoted cs) last is_field begins = closed_not_unclosed (λ e. absurd (omega (arith, e))) (record { parts = refl; inside = begins.is_segment }) (unclosed _ begins.parts)
no_field run unclosed (index negative digits) last is_field begins = absurd is_field

pub same_behind : {b : ℕ} {behind other : List ℕ} → b ∷ behind ≡ b ∷ other → behind ≡ other
same_behind same = cc
