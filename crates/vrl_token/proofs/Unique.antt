-- There is one way to cut a quoted text, a number, a float and a path off a text.
use Rattle.std.proofs.Common.{◌≡◌, ◌≢◌, ℕ, ◌⊎◌, Bool, true, false, List, [], ◌∷◌, ◌++◌, inl, inr, refl, sym, ap, ◌∙◌, subst, arith}
use Rattle.std.specs.List.{AllByRecursion}
use Rattle.vrl_token.specs.Lexical.{BeginsInside, IsDigit, IsFieldPart}
use Rattle.vrl_token.specs.Characters.{Character, IsInside, IsQuoted, escaped, plain, spelling_of}
use Rattle.vrl_token.specs.Numbers.{DigitsGoOn, GoesOnFrom, IsDigitRun, IsDigits, IsExponent, IsFloat, IsFraction, IsNumeral, IsPowerSign}
use Rattle.vrl_token.specs.Paths.{BeginsDotted, BeginsUndotted, Ends, IsSegment, RootSegments, Segment, Segments, dotted, field, index, quoted, undotted}
use Rattle.vrl_token.proofs.Floats.{no_sign, same_digit_run}
use Rattle.vrl_token.proofs.Runs.{heads, same_cut}

pub tails : {a b : ℕ} {xs ys : List ℕ} → a ∷ xs ≡ b ∷ ys → xs ≡ ys
tails e = cc

pub no_heads : (a b : ℕ) {xs ys : List ℕ} → a ≢ b → ¬ (a ∷ xs ≡ b ∷ ys)
no_heads a b other e = other (heads e)

-- ---- quotes

quotes_meet : (quote : ℕ) (cs ds : List Character) (rest last : List ℕ) → quote ≢ 92 → AllByRecursion (IsInside quote) cs → AllByRecursion (IsInside quote) ds → spelling_of cs ++ quote ∷ rest ≡ spelling_of ds ++ quote ∷ last → (cs ≡ ds) × (rest ≡ last)
quotes_meet quote [] [] rest last other left right e = (refl, cc)
quotes_meet quote [] (plain d ∷ ds) rest last other left right e = let same : d ≡ quote = cc in absurd (right.0.0 same)
quotes_meet quote [] (escaped d ∷ ds) rest last other left right e = let same : quote ≡ 92 = cc in absurd (other same)
quotes_meet quote (plain c ∷ cs) [] rest last other left right e = let same : c ≡ quote = cc in absurd (left.0.0 same)
quotes_meet quote (plain c ∷ cs) (plain d ∷ ds) rest last other left right e =
    let same : c ≡ d = cc in
    let more = quotes_meet quote cs ds rest last other left.1 right.1 (cc (e)) in
    (ap (λ b. plain b ∷ cs) same ∙ ap (λ t. plain d ∷ t) more.0, more.1)
quotes_meet quote (plain c ∷ cs) (escaped d ∷ ds) rest last other left right e = let same : c ≡ 92 = cc in absurd (left.0.1 same)
quotes_meet quote (escaped c ∷ cs) [] rest last other left right e = let same : quote ≡ 92 = cc in absurd (other same)
quotes_meet quote (escaped c ∷ cs) (plain d ∷ ds) rest last other left right e = let same : d ≡ 92 = cc in absurd (right.0.1 same)
quotes_meet quote (escaped c ∷ cs) (escaped d ∷ ds) rest last other left right e =
    let same : c ≡ d = cc in
    let more = quotes_meet quote cs ds rest last other left.1 right.1 (cc (e)) in
    (ap (λ b. escaped b ∷ cs) same ∙ ap (λ t. escaped d ∷ t) more.0, more.1)

pub same_quoted : {quote : ℕ} {text rest last : List ℕ} {cs ds : List Character} → quote ≢ 92 → IsQuoted quote text cs rest → IsQuoted quote text ds last → (cs ≡ ds) × (rest ≡ last)
same_quoted {quote} {text} {rest} {last} {cs} {ds} other one two = quotes_meet quote cs ds rest last other one.inside two.inside (sym one.parts ∙ two.parts)

-- ---- digits

pub digits_begin : (digits rest : List ℕ) → IsDigits digits → BeginsInside IsDigit (digits ++ rest)
digits_begin [] rest is = absurd is
digits_begin (d ∷ []) rest is = is
digits_begin (d ∷ e ∷ ds) rest is = is.0

go_on : (d e : ℕ) (ds rest : List ℕ) → IsDigits (d ∷ e ∷ ds) → DigitsGoOn (e ∷ (ds ++ rest))
go_on d e ds rest is = elim is.1 [ inl digits ↦ inl (digits_begin (e ∷ ds) rest digits) | inr mark ↦ inr (mark.0, digits_begin ds rest mark.1) ]

digits_meet : (ds es rest last : List ℕ) → IsDigits ds → IsDigits es → ¬ DigitsGoOn rest → ¬ DigitsGoOn last → ds ++ rest ≡ es ++ last → (ds ≡ es) × (rest ≡ last)
digits_meet [] es rest last left right ends stops e = absurd left
digits_meet (d ∷ ds) [] rest last left right ends stops e = absurd right
digits_meet (d ∷ []) (f ∷ []) rest last left right ends stops e = let same : d ≡ f = cc in (ap (λ b. b ∷ []) same, cc)
digits_meet (d ∷ []) (f ∷ g ∷ es) rest last left right ends stops e =
    let tail : rest ≡ g ∷ (es ++ last) = cc in absurd (ends (subst DigitsGoOn (sym tail) (go_on f g es last right)))
digits_meet (d ∷ c ∷ ds) (f ∷ []) rest last left right ends stops e =
    let tail : c ∷ (ds ++ rest) ≡ last = cc in absurd (stops (subst DigitsGoOn tail (go_on d c ds rest left)))
digits_meet (d ∷ c ∷ ds) (f ∷ g ∷ es) rest last left right ends stops e =
    let head : d ≡ f = cc in
    let next : c ≡ g = cc in
    elim left.1 [
      | inl digits ↦
          elim right.1 [
            | inl others ↦
                let more = digits_meet (c ∷ ds) (g ∷ es) rest last digits others ends stops (cc (e)) in
                (ap (λ b. b ∷ c ∷ ds) head ∙ ap (λ t. f ∷ t) more.0, more.1)
            | inr mark ↦ let digit = digits_begin (c ∷ ds) [] digits in absurd (omega (arith, next, mark.0, digit.1))
          ]
      | inr mark ↦
          elim right.1 [
            | inl others ↦ let digit = digits_begin (g ∷ es) [] others in absurd (omega (arith, next, mark.0, digit.1))
            | inr other ↦
                let more = digits_meet ds es rest last mark.1 other.1 ends stops (cc (e)) in
                (ap (λ b. b ∷ c ∷ ds) head ∙ ap (λ b. f ∷ b ∷ ds) next ∙ ap (λ t. f ∷ g ∷ t) more.0, more.1)
          ]
    ]

pub same_numeral : {text digits rest others last : List ℕ} → IsNumeral false text digits rest → IsNumeral false text others last → (digits ≡ others) × (rest ≡ last)
same_numeral {text} {digits} {rest} {others} {last} one two = digits_meet digits others rest last one.is_digits two.is_digits one.ends two.ends (sym one.parts ∙ sym one.sign ∙ two.sign ∙ two.parts)

-- ---- floats

same_behind_sign : (sign other behind last digits digits2 rest rest2 : List ℕ) → IsPowerSign sign → IsPowerSign other → IsDigitRun behind digits rest → IsDigitRun last digits2 rest2 → sign ++ behind ≡ other ++ last → behind ≡ last
same_behind_sign sign other behind last digits digits2 rest rest2 (inl one) (inl two) run run2 e = ap (λ s. s ++ behind) (sym one) ∙ e ∙ ap (λ s. s ++ last) two
same_behind_sign sign other behind last digits digits2 rest rest2 (inl one) (inr (inl two)) run run2 e =
    let digit = no_sign 43 last run (ap (λ s. s ++ behind) (sym one) ∙ e ∙ ap (λ s. s ++ last) two) in absurd (omega (arith, digit.0))
same_behind_sign sign other behind last digits digits2 rest rest2 (inl one) (inr (inr two)) run run2 e =
    let digit = no_sign 45 last run (ap (λ s. s ++ behind) (sym one) ∙ e ∙ ap (λ s. s ++ last) two) in absurd (omega (arith, digit.0))
same_behind_sign sign other behind last digits digits2 rest rest2 (inr (inl one)) (inl two) run run2 e =
    let digit = no_sign 43 behind run2 (ap (λ s. s ++ last) (sym two) ∙ sym e ∙ ap (λ s. s ++ behind) one) in absurd (omega (arith, digit.0))
same_behind_sign sign other behind last digits digits2 rest rest2 (inr (inr one)) (inl two) run run2 e =
    let digit = no_sign 45 behind run2 (ap (λ s. s ++ last) (sym two) ∙ sym e ∙ ap (λ s. s ++ behind) one) in absurd (omega (arith, digit.0))
same_behind_sign sign other behind last digits digits2 rest rest2 (inr (inl one)) (inr (inl two)) run run2 e =
    let whole : 43 ∷ behind ≡ 43 ∷ last = ap (λ s. s ++ behind) (sym one) ∙ e ∙ ap (λ s. s ++ last) two in cc
same_behind_sign sign other behind last digits digits2 rest rest2 (inr (inr one)) (inr (inr two)) run run2 e =
    let whole : 45 ∷ behind ≡ 45 ∷ last = ap (λ s. s ++ behind) (sym one) ∙ e ∙ ap (λ s. s ++ last) two in cc
same_behind_sign sign other behind last digits digits2 rest rest2 (inr (inl one)) (inr (inr two)) run run2 e =
    let whole : 43 ∷ behind ≡ 45 ∷ last = ap (λ s. s ++ behind) (sym one) ∙ e ∙ ap (λ s. s ++ last) two in
    absurd (no_heads 43 45 (λ h. omega (arith, h)) whole)
same_behind_sign sign other behind last digits digits2 rest rest2 (inr (inr one)) (inr (inl two)) run run2 e =
    let whole : 45 ∷ behind ≡ 43 ∷ last = ap (λ s. s ++ behind) (sym one) ∙ e ∙ ap (λ s. s ++ last) two in
    absurd (no_heads 45 43 (λ h. omega (arith, h)) whole)

same_exponent : {text rest last : List ℕ} → IsExponent text rest → IsExponent text last → rest ≡ last
same_exponent {text} {rest} {last} one two =
    let whole : one.letter ∷ (one.sign ++ one.behind) ≡ two.letter ∷ (two.sign ++ two.behind) = sym one.parts ∙ two.parts in
    let same = same_behind_sign one.sign two.sign one.behind two.behind one.digits two.digits rest last one.is_sign two.is_sign one.is_run two.is_run (tails whole) in
    (same_digit_run (subst (λ t. IsDigitRun t one.digits rest) same one.is_run) two.is_run).1

no_both : {text rest last : List ℕ} → IsExponent text rest → ¬ IsFraction text last
no_both {text} {rest} {last} one two =
    let same = heads (sym one.parts ∙ two.parts) in
    elim one.is_letter [ inl small ↦ absurd (omega (arith, same, small)) | inr large ↦ absurd (omega (arith, same, large)) ]

same_going_on : (text rest last : List ℕ) → GoesOnFrom text rest → GoesOnFrom text last → rest ≡ last
same_going_on text rest last (inl one) (inl two) = same_exponent one two
same_going_on text rest last (inl one) (inr two) = absurd (two.1 rest one)
same_going_on text rest last (inr one) (inl two) = absurd (one.1 last two)
same_going_on text rest last (inr one) (inr two) = sym one.0 ∙ two.0

same_fraction : {text rest last : List ℕ} → IsFraction text rest → IsFraction text last → rest ≡ last
same_fraction {text} {rest} {last} one two =
    let same = tails (sym one.parts ∙ two.parts) in
    (same_digit_run (subst (λ t. IsDigitRun t one.digits rest) same one.is_run) two.is_run).1

pub same_float : (text rest last : List ℕ) → IsFloat text rest → IsFloat text last → rest ≡ last
same_float text rest last (inl one) (inl two) = same_exponent one two
same_float text rest last (inl one) (inr two) = absurd (no_both one two.fraction)
same_float text rest last (inr one) (inl two) = absurd (no_both two one.fraction)
same_float text rest last (inr one) (inr two) = same_going_on two.middle rest last (subst (λ t. GoesOnFrom t rest) (same_fraction one.fraction two.fraction) one.power) two.power

-- ---- paths

-- digits up to a bracket, behind a minus or none
indices_meet : (n m : Bool) (ds es rest last : List ℕ) → IsSegment (index n ds) → IsSegment (index m es) → undotted (index n ds) rest ≡ undotted (index m es) last → (index n ds ≡ index m es) × (rest ≡ last)
indices_meet true true ds es rest last one two e =
    let same = same_cut IsDigit ds (93 ∷ rest) es (93 ∷ last) one.1 (λ h. omega (arith, h.1)) two.1 (λ h. omega (arith, h.1)) (tails (tails e)) in (ap (index true) same.0, tails same.1)
indices_meet false false ds es rest last one two e =
    let same = same_cut IsDigit ds (93 ∷ rest) es (93 ∷ last) one.1 (λ h. omega (arith, h.1)) two.1 (λ h. omega (arith, h.1)) (tails e) in (ap (index false) same.0, tails same.1)
indices_meet true false ds [] rest last one two e = absurd (omega (arith, two.0))
indices_meet true false ds (f ∷ fs) rest last one two e = let same = heads (tails e) in absurd (omega (arith, same, two.1.0.0))
indices_meet false true [] es rest last one two e = absurd (omega (arith, one.0))
indices_meet false true (d ∷ ds) es rest last one two e = let same = heads (tails e) in absurd (omega (arith, same, one.1.0.0))

-- a field without quotes begins with neither a quote nor a bracket
field_apart : (name rest tail : List ℕ) (b : ℕ) → IsSegment (field name) → (b ≡ 34) ⊎ (b ≡ 91) → ¬ (name ++ rest ≡ b ∷ tail)
field_apart [] rest tail b is mark e = omega (arith, is.0)
field_apart (x ∷ xs) rest tail b is mark e = let same = heads e in let part = is.1.0 in grind (arith, same, part, mark)

segments_meet : (s t : Segment) (rest last : List ℕ) → IsSegment s → Ends s rest → IsSegment t → Ends t last → undotted s rest ≡ undotted t last → (s ≡ t) × (rest ≡ last)
segments_meet (field n) (field m) rest last one ends two stops e = let same = same_cut IsFieldPart n rest m last one.1 ends two.1 stops e in (ap field same.0, same.1)
segments_meet (field n) (quoted ds) rest last one ends two stops e = absurd (field_apart n rest _ 34 one (inl refl) e)
segments_meet (field n) (index m es) rest last one ends two stops e = absurd (field_apart n rest _ 91 one (inr refl) e)
segments_meet (quoted cs) (field m) rest last one ends two stops e = absurd (field_apart m last _ 34 two (inl refl) (sym e))
segments_meet (quoted cs) (quoted ds) rest last one ends two stops e = let same = quotes_meet 34 cs ds rest last (λ h. omega (arith, h)) one two (tails e) in (ap quoted same.0, same.1)
segments_meet (quoted cs) (index m es) rest last one ends two stops e = absurd (no_heads 34 91 (λ h. omega (arith, h)) e)
segments_meet (index n ds) (field m) rest last one ends two stops e = absurd (field_apart m last _ 91 two (inr refl) (sym e))
segments_meet (index n ds) (quoted cs) rest last one ends two stops e = absurd (no_heads 91 34 (λ h. omega (arith, h)) e)
segments_meet (index n ds) (index m es) rest last one ends two stops e = indices_meet n m ds es rest last one two e

pub same_undotted : {text rest last : List ℕ} (s t : Segment) → BeginsUndotted text s rest → BeginsUndotted text t last → (s ≡ t) × (rest ≡ last)
same_undotted {text} {rest} {last} s t one two = segments_meet s t rest last one.is_segment one.ends two.is_segment two.ends (sym one.parts ∙ two.parts)

dots_meet : (s t : Segment) (rest last : List ℕ) → IsSegment s → Ends s rest → IsSegment t → Ends t last → dotted s rest ≡ dotted t last → (s ≡ t) × (rest ≡ last)
dots_meet (field n) (field m) rest last one ends two stops e = segments_meet (field n) (field m) rest last one ends two stops (tails e)
dots_meet (field n) (quoted ds) rest last one ends two stops e = segments_meet (field n) (quoted ds) rest last one ends two stops (tails e)
dots_meet (field n) (index m es) rest last one ends two stops e = absurd (no_heads 46 91 (λ h. omega (arith, h)) e)
dots_meet (quoted cs) (field m) rest last one ends two stops e = segments_meet (quoted cs) (field m) rest last one ends two stops (tails e)
dots_meet (quoted cs) (quoted ds) rest last one ends two stops e = segments_meet (quoted cs) (quoted ds) rest last one ends two stops (tails e)
dots_meet (quoted cs) (index m es) rest last one ends two stops e = absurd (no_heads 46 91 (λ h. omega (arith, h)) e)
dots_meet (index n ds) (field m) rest last one ends two stops e = absurd (no_heads 91 46 (λ h. omega (arith, h)) e)
dots_meet (index n ds) (quoted cs) rest last one ends two stops e = absurd (no_heads 91 46 (λ h. omega (arith, h)) e)
dots_meet (index n ds) (index m es) rest last one ends two stops e = indices_meet n m ds es rest last one two e

pub same_dotted : {text rest last : List ℕ} (s t : Segment) → BeginsDotted text s rest → BeginsDotted text t last → (s ≡ t) × (rest ≡ last)
same_dotted {text} {rest} {last} s t one two = dots_meet s t rest last one.is_segment one.ends two.is_segment two.ends (sym one.parts ∙ two.parts)

pub same_segments : (text : List ℕ) (ss ts : List Segment) (rest last : List ℕ) → Segments text ss rest → Segments text ts last → (ss ≡ ts) × (rest ≡ last)
same_segments text [] [] rest last one two = (refl, sym one.0 ∙ two.0)
same_segments text [] (t ∷ ts) rest last one two = absurd (one.1 t two.0 two.1)
same_segments text (s ∷ ss) [] rest last one two = absurd (two.1 s one.0 one.1)
same_segments text (s ∷ ss) (t ∷ ts) rest last one two =
    let same = same_dotted s t one.1 two.1 in
    let more = same_segments two.0 ss ts rest last (subst (λ n. Segments n ss rest) same.1 one.2) two.2 in
    (ap (λ r. r ∷ ss) same.0 ∙ ap (λ r. t ∷ r) more.0, more.1)

pub same_root : (sign : ℕ) (text : List ℕ) (ss ts : List Segment) (rest last : List ℕ) → RootSegments sign text ss rest → RootSegments sign text ts last → (ss ≡ ts) × (rest ≡ last)
same_root sign text [] [] rest last one two = (refl, tails (sym one.0 ∙ two.0))
same_root sign text [] (t ∷ ts) rest last one two = absurd (one.1 t two.1 (subst (λ b. BeginsUndotted b t two.1) (tails (sym two.2 ∙ one.0)) two.3))
same_root sign text (s ∷ ss) [] rest last one two = absurd (two.1 s one.1 (subst (λ b. BeginsUndotted b s one.1) (tails (sym one.2 ∙ two.0)) one.3))
same_root sign text (s ∷ ss) (t ∷ ts) rest last one two =
    let same = same_undotted s t (subst (λ b. BeginsUndotted b s one.1) (tails (sym one.2 ∙ two.2)) one.3) two.3 in
    let more = same_segments two.1 ss ts rest last (subst (λ n. Segments n ss rest) same.1 one.4) two.4 in
    (ap (λ r. r ∷ ss) same.0 ∙ ap (λ r. t ∷ r) more.0, more.1)
