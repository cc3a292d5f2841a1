-- Where a text stands in another: what std says of its searches, and what the words of the rows say, decide the same.
use Rattle.std.proofs.Common.{◌≡◌, ℕ, ◌+◌, ◌-◌, Bool, true, false, ◌||◌, List, [], ◌∷◌, ◌++◌, None, length, take, drop, map, bytes_eq, refl, sym, ap, ◌∙◌, arith}
use Rattle.std.proofs.lemmas.Grind.{common_steps}
use Rattle.std.proofs.lemmas.Bool.{or_left, or_right, true≢false}
use Rattle.std.proofs.lemmas.Bool.Decides.{same_from_decides}
use Rattle.std.proofs.lemmas.List.{length-append, length-drop, length-map, take-append-drop, take-map, drop-map}
use Rattle.std.proofs.lemmas.Slice.Eq.{bytes_eq-Decides}
use Rattle.std.proofs.lemmas.Str.Pattern.{contains_text}
use Rattle.std.proofs.Math.Seq.{take-append_seam, drop-append_seam}
use Rattle.std.specs.Bool.{Decides, MatchBool}
use Rattle.std.specs.Char.{to_ascii_lowercase}
use Rattle.std.specs.Str.Iter.{HasSubslice}
use Rattle.std.specs.Str.Pattern.{FindsText, FindsTextPrefix, FindsTextSuffix, HasMatch, HasPrefixMatch, HasSuffixMatch}
use Rattle.fn_string.specs.Search.{contains, ends_with, starts_with}

-- ---- at the start

abbrev StartsWith : List ℕ → List ℕ → Type 0
StartsWith part text = (rest : List ℕ) × (text ≡ part ++ rest)

starts_decides : (part text : List ℕ) → Decides (starts_with part text) (StartsWith part text)
starts_decides part text = (
  λ is. (drop (length part) text, sym (take-append-drop (length part) text) ∙ ap (λ x. x ++ drop (length part) text) ((bytes_eq-Decides (take (length part) text) part).0 is)),
  λ found. (bytes_eq-Decides (take (length part) text) part).1 (ap (take (length part)) found.1 ∙ take-append_seam part found.0),
)

prefix_decides : (r : Bool) (part text : List ℕ) → MatchBool r (HasPrefixMatch (FindsTextPrefix part) text) (FindsTextPrefix part text None) → Decides r (StartsWith part text)
prefix_decides true part text found = (λ is. (drop found.0 text, found.1.1), λ is. refl)
prefix_decides false part text lacks = (λ is. absurd (true≢false (sym is)), λ found. absurd (lacks found.0 found.1))

pub starts_is : (r : Bool) (part text : List ℕ) → MatchBool r (HasPrefixMatch (FindsTextPrefix part) text) (FindsTextPrefix part text None) → r ≡ starts_with part text
starts_is r part text is = same_from_decides r (starts_with part text) (prefix_decides r part text is) (starts_decides part text)

-- ---- at the end

abbrev EndsWith : List ℕ → List ℕ → Type 0
EndsWith part text = (front : List ℕ) × (text ≡ front ++ part)

end_length : (part text front : List ℕ) → text ≡ front ++ part → length text - length part ≡ length front
end_length part text front is = let both : length text ≡ length front + length part = ap length is ∙ length-append front part in omega (arith, both)

ends_decides : (part text : List ℕ) → Decides (ends_with part text) (EndsWith part text)
ends_decides part text =
    let n = length text - length part in (
      λ is. (take n text, sym (take-append-drop n text) ∙ ap (λ x. take n text ++ x) ((bytes_eq-Decides (drop n text) part).0 is)),
      λ found. (bytes_eq-Decides (drop n text) part).1 (ap (λ i. drop i text) (end_length part text found.0 found.1) ∙ ap (drop (length found.0)) found.1 ∙ drop-append_seam found.0 part),
    )

suffix_decides : (r : Bool) (part text : List ℕ) → MatchBool r (HasSuffixMatch (FindsTextSuffix part) text) (FindsTextSuffix part text None) → Decides r (EndsWith part text)
suffix_decides true part text found = (λ is. (take (length text - found.0) text, found.1.1), λ is. refl)
suffix_decides false part text lacks = (λ is. absurd (true≢false (sym is)), λ found. absurd (lacks found.0 found.1))

pub ends_is : (r : Bool) (part text : List ℕ) → MatchBool r (HasSuffixMatch (FindsTextSuffix part) text) (FindsTextSuffix part text None) → r ≡ ends_with part text
ends_is r part text is = same_from_decides r (ends_with part text) (suffix_decides r part text is) (ends_decides part text)

-- ---- anywhere

either : (a b : Bool) (P : Type 0) → (a ≡ true → P) → (b ≡ true → P) → (a || b) ≡ true → P
either true b P first second is = first refl
either false b P first second is = second is

contains_to : (part text : List ℕ) → contains part text ≡ true → HasSubslice text part
contains_to part [] is = let found = (starts_decides part []).0 is in ([], found.0, found.1)
contains_to part (c ∷ text) is =
    either (starts_with part (c ∷ text)) (contains part text) (HasSubslice (c ∷ text) part)
    (λ first. let found = (starts_decides part (c ∷ text)).0 first in ([], found.0, found.1))
    (λ later. let found = contains_to part text later in (c ∷ found.0, found.1, ap (λ x. c ∷ x) found.2)) is

contains_from : (part text front rest : List ℕ) → text ≡ front ++ (part ++ rest) → contains part text ≡ true
contains_from part [] [] rest is = (starts_decides part []).1 (rest, is)
contains_from part [] (x ∷ front) rest is = absurd cc
contains_from part (c ∷ text) [] rest is = or_left (starts_with part (c ∷ text)) (contains part text) ((starts_decides part (c ∷ text)).1 (rest, is))
contains_from part (c ∷ text) (x ∷ front) rest is =
    let behind : text ≡ front ++ (part ++ rest) = cc in or_right (starts_with part (c ∷ text)) (contains part text) (contains_from part text front rest behind)

pub contains_is : (r : Bool) (part text : List ℕ) → MatchBool r (HasMatch (FindsText part) text) (FindsText part text None) → r ≡ contains part text
contains_is r part text is =
    same_from_decides r (contains part text) (contains_text r part text is) (contains_to part text, λ found. contains_from part text found.0 found.1 found.2)

-- ---- in any case

abbrev lower : List ℕ → List ℕ
lower = map to_ascii_lowercase

pub starts_in_any_case : (part text first : List ℕ) → first ≡ take (length part) text → bytes_eq (lower first) (lower part) ≡ starts_with (lower part) (lower text)
starts_in_any_case part text first is =
    ap (λ x. bytes_eq x (lower part)) (ap lower is ∙ sym (take-map to_ascii_lowercase (length part) text) ∙ ap (λ n. take n (lower text)) (sym (length-map part to_ascii_lowercase)))

ends_in_any_case : (part text last : List ℕ) → last ≡ drop (length text - length part) text → bytes_eq (lower last) (lower part) ≡ ends_with (lower part) (lower text)
ends_in_any_case part text last is =
    let counts : length text - length part ≡ length (lower text) - length (lower part) = ap (λ n. n - length part) (sym (length-map text to_ascii_lowercase)) ∙ ap (λ n. length (lower text) - n) (sym (length-map part to_ascii_lowercase)) in
    ap (λ x. bytes_eq x (lower part)) (ap lower is ∙ sym (drop-map to_ascii_lowercase (length text - length part) text) ∙ ap (λ n. drop n (lower text)) counts)

-- all that stands behind a front
rest_is : (n : ℕ) (text : List ℕ) → take (length text - n) (drop n text) ≡ drop n text
rest_is n text = grind (arith, common_steps, length-drop n text)

pub end_in_any_case : (part text : List ℕ) →
    let n = length text - length part in bytes_eq (lower (take (length text - n) (drop n text))) (lower part) ≡ ends_with (lower part) (lower text)
end_in_any_case part text = ends_in_any_case part text _ (rest_is (length text - length part) text)
