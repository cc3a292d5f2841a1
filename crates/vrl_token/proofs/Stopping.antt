-- Bytes with which no name, number, path or sign goes on.
use Rattle.std.proofs.Common.{◌≡◌, ◌≢◌, ℕ, ◌⊎◌, ◌==◌, Bool, true, false, ◌||◌, List, [], ◌∷◌, inl, inr, refl, sym, ap, ◌∙◌, subst, arith}
use Rattle.vrl_token.specs.Lexical.{BeginsInside, BeginsOutside, IsDigit, IsFieldPart, IsNamePart, IsNameStart}
use Rattle.vrl_token.specs.Numbers.{DigitsGoOn, IsExponent, IsFloat, IsFraction}
use Rattle.vrl_token.specs.Paths.{BeginsUndotted, IsSegment, Segment, field, index, quoted, undotted}
use Rattle.vrl_token.specs.Words.{BeginsWithout, IsCallRest, NoSegment}
use Rattle.vrl_token.specs.Respelling.{IsStop, Stops}
use Rattle.vrl_token.proofs.Beginnings.{segment_begins}

-- ---- one byte

abbrev is_stop : ℕ → Bool
is_stop b = (b == 32 || (b == 9 || b == 13)) || (b == 10 || (b == 41 || (b == 93 || (b == 44 || (b == 58 || (b == 125 || b == 124))))))

stop_passes : (b : ℕ) → IsStop b → is_stop b ≡ true
stop_passes b (inl (inl e)) = ap is_stop e
stop_passes b (inl (inr (inl e))) = ap is_stop e
stop_passes b (inl (inr (inr e))) = ap is_stop e
stop_passes b (inr (inl e)) = ap is_stop e
stop_passes b (inr (inr (inl e))) = ap is_stop e
stop_passes b (inr (inr (inr (inl e)))) = ap is_stop e
stop_passes b (inr (inr (inr (inr (inl e))))) = ap is_stop e
stop_passes b (inr (inr (inr (inr (inr (inl e)))))) = ap is_stop e
stop_passes b (inr (inr (inr (inr (inr (inr (inl e))))))) = ap is_stop e
stop_passes b (inr (inr (inr (inr (inr (inr (inr e))))))) = ap is_stop e

pub stop_apart : (mark : ℕ) → is_stop mark ≡ false → (b : ℕ) → IsStop b → b ≢ mark
stop_apart mark fails b stop e = let wrong : true ≡ false = sym (stop_passes b stop) ∙ ap is_stop e ∙ fails in cc

pub stop_no_field : (b : ℕ) → IsStop b → ¬ IsFieldPart b
stop_no_field b stop part = grind (arith, stop, part)

field_of_name : (b : ℕ) → IsNamePart b → IsFieldPart b
field_of_name b (inl letter) = inl letter
field_of_name b (inr (inl digit)) = inr (inl digit)
field_of_name b (inr (inr mark)) = inr (inr (inl mark))

field_of_start : (b : ℕ) → IsNameStart b → IsFieldPart b
field_of_start b (inl letter) = inl letter
field_of_start b (inr mark) = inr (inr (inl mark))

pub stop_no_part : (b : ℕ) → IsStop b → ¬ IsNamePart b
stop_no_part b stop part = stop_no_field b stop (field_of_name b part)

pub stop_no_start : (b : ℕ) → IsStop b → ¬ IsNameStart b
stop_no_start b stop is = stop_no_field b stop (field_of_start b is)

pub stop_no_digit : (b : ℕ) → IsStop b → ¬ IsDigit b
stop_no_digit b stop digit = stop_no_field b stop (inr (inl digit))

-- ---- texts

pub outside : (P : ℕ → Type 0) (text : List ℕ) → ((b : ℕ) → IsStop b → ¬ P b) → Stops text → BeginsOutside P text
outside P [] apart stops = tt
outside P (b ∷ bs) apart stops = apart b stops

pub none_inside : (P : ℕ → Type 0) (text : List ℕ) → ((b : ℕ) → IsStop b → ¬ P b) → Stops text → ¬ BeginsInside P text
none_inside P [] apart stops inside = inside
none_inside P (b ∷ bs) apart stops inside = apart b stops inside

pub without : (mark : ℕ) (text : List ℕ) → is_stop mark ≡ false → Stops text → BeginsWithout mark text
without mark text fails stops = outside (λ b. b ≡ mark) text (stop_apart mark fails) stops

pub no_call : (text : List ℕ) → Stops text → ¬ IsCallRest text
no_call [] stops call = call
no_call (b ∷ bs) stops (inl opens) = stop_apart 40 refl b stops opens
no_call (b ∷ bs) stops (inr bang) = stop_apart 33 refl b stops bang.0

pub no_segment : (text : List ℕ) → Stops text → NoSegment text
no_segment text stops segment behind begins =
    none_inside (λ b. (b ≡ 46) ⊎ (b ≡ 91)) text (λ b stop is. elim is [ inl mark ↦ stop_apart 46 refl b stop mark | inr mark ↦ stop_apart 91 refl b stop mark ]) stops (segment_begins text segment behind begins)

undotted_begins : (s : Segment) (behind : List ℕ) → IsSegment s → ¬ Stops (undotted s behind)
undotted_begins (field []) behind is stops = omega (arith, is.0)
undotted_begins (field (x ∷ xs)) behind is stops = stop_no_field x stops is.1.0
undotted_begins (quoted cs) behind is stops = stop_apart 34 refl 34 stops refl
undotted_begins (index negative digits) behind is stops = stop_apart 91 refl 91 stops refl

pub no_undotted : (text : List ℕ) → Stops text → (segment : Segment) (behind : List ℕ) → ¬ BeginsUndotted text segment behind
no_undotted text stops segment behind begins = undotted_begins segment behind begins.is_segment (subst Stops begins.parts stops)

-- ---- numbers

pub no_digits : (text : List ℕ) → Stops text → ¬ DigitsGoOn text
no_digits [] stops goes = goes
no_digits (b ∷ bs) stops (inl digit) = stop_no_digit b stops digit
no_digits (b ∷ bs) stops (inr mark) = stop_apart 95 refl b stops mark.0

head_stops : {text behind : List ℕ} (b : ℕ) → Stops text → text ≡ b ∷ behind → IsStop b
head_stops {text} {behind} b stops parts = subst Stops parts stops

no_exponent : (text last : List ℕ) → Stops text → ¬ IsExponent text last
no_exponent text last stops is =
    let stop = head_stops is.letter stops is.parts in
    elim is.is_letter [ inl small ↦ stop_apart 101 refl is.letter stop small | inr large ↦ stop_apart 69 refl is.letter stop large ]

no_fraction : (text last : List ℕ) → Stops text → ¬ IsFraction text last
no_fraction text last stops is = stop_apart 46 refl 46 (head_stops 46 stops is.parts) refl

pub no_float : (text last : List ℕ) → Stops text → ¬ IsFloat text last
no_float text last stops (inl exponent) = no_exponent text last stops exponent
no_float text last stops (inr float) = no_fraction text float.middle stops float.fraction
