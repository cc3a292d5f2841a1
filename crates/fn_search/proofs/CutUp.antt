-- What std says of a text cut at another is what the words of the rows say, and so are the parts that are cut off one after the other.
use Rattle.std.proofs.Common.{◌≡◌, ◌≢◌, ℕ, zero, suc, ◌+◌, ◌-◌, ◌<◌, ◌≤◌, true, false, List, [], ◌∷◌, ◌++◌, map, Option, Some, None, MatchOption, IfSome, Bor, length, take, drop, bytes_eq, option_map, refl, sym, ap, ◌∙◌, arith}
use Rattle.std.proofs.lemmas.Bool.{cond-false, cond-true, false_from_ne_true}
use Rattle.std.proofs.lemmas.List.{append-nil, append_assoc, take-append-drop}
use Rattle.std.proofs.lemmas.Slice.Eq.{bytes_eq-Decides}
use Rattle.std.proofs.Math.Seq.{take-append_seam}
use Rattle.std.specs.Str.Pattern.{FindsText, LacksTextAt}
use Rattle.vrl_value.specs.Tree.{Tree, string}
use Rattle.fn_search.specs.Cut.{cut, cut_on, cut_up, joined, parts_between}

-- ---- where the text goes on with the part

goes_on : (part rest s : List ℕ) → s ≡ part ++ rest → bytes_eq (take (length part) s) part ≡ true
goes_on part rest s is = (bytes_eq-Decides (take (length part) s) part).1 (ap (take (length part)) is ∙ take-append_seam part rest)

goes_not_on : (part s : List ℕ) → ((rest : List ℕ) → s ≢ part ++ rest) → bytes_eq (take (length part) s) part ≡ false
goes_not_on part s lacks = false_from_ne_true (bytes_eq (take (length part) s) part) (λ is. lacks (drop (length part) s)
    (sym (take-append-drop (length part) s) ∙ ap (λ x. x ++ drop (length part) s) ((bytes_eq-Decides (take (length part) s) part).0 is)))

cut_nowhere : (part s : List ℕ) → ((i : ℕ) → i ≤ length s → LacksTextAt part s i) → cut part s ≡ None
unfolding cut
cut_nowhere part [] lacks =
    cond-false (bytes_eq part []) _ _ (false_from_ne_true (bytes_eq part []) (λ is. lacks 0 (omega arith) [] (sym (append-nil part ∙ (bytes_eq-Decides part []).0 is))))
cut_nowhere part (b ∷ s) lacks =
    cond-false (bytes_eq (take (length part) (b ∷ s)) part) _ _ (goes_not_on part (b ∷ s) (lacks 0 (omega arith)))
    ∙ ap (option_map (λ parts. (b ∷ parts.0, parts.1))) (cut_nowhere part s (λ i within. lacks (suc i) (omega arith)))

empty_part : (part rest : List ℕ) → [] ≡ part ++ rest → part ≡ []
empty_part [] rest is = refl
empty_part (b ∷ part) rest is = absurd cc

drop_nothing : (n : ℕ) (s : List ℕ) → s ≡ [] → drop n s ≡ []
drop_nothing zero s none = none
drop_nothing (suc n) [] none = refl
drop_nothing (suc n) (b ∷ s) none = absurd cc

cut_there : (part s : List ℕ) (i j : ℕ) → ((k : ℕ) → k < i → LacksTextAt part s k) → j ≡ i + length part → drop i s ≡ part ++ drop j s → cut part s ≡ Some (take i s, drop j s)
unfolding cut
cut_there part [] zero j lacks ends is =
    cond-true (bytes_eq part []) _ _ ((bytes_eq-Decides part []).1 (empty_part part (drop j []) is)) ∙ ap (λ rest. Some ([], rest)) (sym (drop_nothing j [] refl))
cut_there part (b ∷ s) zero j lacks ends is =
    let same : length part ≡ j = omega (arith, ends) in
    cond-true (bytes_eq (take (length part) (b ∷ s)) part) _ _ (goes_on part (drop j (b ∷ s)) (b ∷ s) is) ∙ ap (λ n. Some ([], drop n (b ∷ s))) same
cut_there part [] (suc i) j lacks ends is = absurd (lacks 0 (omega arith) (drop j []) is)
cut_there part (b ∷ s) (suc i) zero lacks ends is = absurd (omega (arith, ends))
cut_there part (b ∷ s) (suc i) (suc j) lacks ends is =
    cond-false (bytes_eq (take (length part) (b ∷ s)) part) _ _ (goes_not_on part (b ∷ s) (lacks 0 (omega arith)))
    ∙ ap (option_map (λ parts. (b ∷ parts.0, parts.1))) (cut_there part s i j (λ k below. lacks (suc k) (omega arith)) (omega (arith, ends)) is)

-- `split_once` at a text
pub split_is_cut : (part s : List ℕ) (r : Option (Bor (List ℕ) × Bor (List ℕ))) →
    MatchOption r (FindsText part s None) (λ x. (i : ℕ) × (j : ℕ) × FindsText part s (Some (i, j)) × (x.0.now ≡ take i s) × (x.1.now ≡ drop j s) × (i ≤ j) × (length x.0.now ≡ i) × (length x.1.now + j ≡ length s)) →
    option_map (λ parts. (parts.0.now, parts.1.now)) r ≡ cut part s
split_is_cut part s None lacks = sym (cut_nowhere part s lacks)
split_is_cut part s (Some x) found =
    (λ k. Some (found.3 k, found.4 k)) ∙ sym (cut_there part s found.0 found.1 found.2.0 found.2.1.ends found.2.1.split)

pub split_within : (part s : List ℕ) (r : Option (Bor (List ℕ) × Bor (List ℕ))) →
    MatchOption r (FindsText part s None) (λ x. (i : ℕ) × (j : ℕ) × FindsText part s (Some (i, j)) × (x.0.now ≡ take i s) × (x.1.now ≡ drop j s) × (i ≤ j) × (length x.0.now ≡ i) × (length x.1.now + j ≡ length s)) →
    IfSome r (λ x. length x.0.now ≤ length s)
split_within part s None lacks = tt
split_within part s (Some x) found = omega (arith, found.5, found.6, found.7)

-- ---- one part after the other

pub cut_next : (part s before behind : List ℕ) (left : ℕ) → 0 < left → cut part s ≡ Some (before, behind) → cut_up part left s ≡ before ∷ cut_up part (left - 1) behind
cut_next part s before behind zero some is = absurd (omega arith)
cut_next part s before behind (suc n) some is =
    let less : suc n - 1 ≡ n = omega arith in
    ap (cut_on s (cut_up part n)) is ∙ ap (λ m. before ∷ cut_up part m behind) (sym less)

pub cut_last : (part s : List ℕ) (left : ℕ) → cut part s ≡ None → cut_up part left s ≡ s ∷ []
cut_last part s zero none = refl
cut_last part s (suc n) none = ap (cut_on s (cut_up part n)) none

-- how often a part cuts that may be empty
pub cuts_so : (part : List ℕ) (cuts : ℕ) (s : List ℕ) (n : ℕ) → (part ≡ [] → n ≡ 0) → (part ≢ [] → n ≡ cuts) → cut_up part n s ≡ parts_between part cuts s
cuts_so [] cuts s n none some = ap (λ m. cut_up [] m s) (none refl)
cuts_so (b ∷ part) cuts s n none some = ap (λ m. cut_up (b ∷ part) m s) (some (λ e. absurd cc))

-- ---- put together

joined_on : (between before s : List ℕ) (rest : List ℕ → List (List ℕ)) (o : Option (List ℕ × List ℕ)) → joined between (before ∷ cut_on s rest o) ≡ before ++ (between ++ joined between (cut_on s rest o))
joined_on between before s rest None = refl
joined_on between before s rest (Some parts) = refl

-- a part before the others
pub joined_next : (between part before s : List ℕ) (n : ℕ) → joined between (before ∷ cut_up part n s) ≡ before ++ (between ++ joined between (cut_up part n s))
joined_next between part before s zero = refl
joined_next between part before s (suc n) = joined_on between before s (cut_up part n) (cut part s)

-- ---- the steps of the loops

pub parts_go_on : (parts after all : List Tree) (part s before behind : List ℕ) (left : ℕ) → 0 < left → Some (before, behind) ≡ cut part s → after ≡ parts ++ (string before ∷ []) →
    parts ++ map string (cut_up part left s) ≡ all → after ++ map string (cut_up part (left - 1) behind) ≡ all
parts_go_on parts after all part s before behind left some is adds so_far =
    ap (λ ts. ts ++ map string (cut_up part (left - 1) behind)) adds ∙ append_assoc parts (string before ∷ []) (map string (cut_up part (left - 1) behind))
    ∙ ap (λ ss. parts ++ map string ss) (sym (cut_next part s before behind left some (sym is))) ∙ so_far

pub parts_end : (parts after all : List Tree) (part s : List ℕ) (left : ℕ) → None ≡ cut part s → after ≡ parts ++ (string s ∷ []) → parts ++ map string (cut_up part left s) ≡ all → after ≡ all
parts_end parts after all part s left none adds so_far = adds ∙ ap (λ ss. parts ++ map string ss) (sym (cut_last part s left (sym none))) ∙ so_far

pub parts_stop : (parts after all : List Tree) (part s : List ℕ) (left : ℕ) → left ≡ 0 → after ≡ parts ++ (string s ∷ []) → parts ++ map string (cut_up part left s) ≡ all → after ≡ all
parts_stop parts after all part s left none adds so_far = adds ∙ ap (λ n. parts ++ map string (cut_up part n s)) (sym none) ∙ so_far

pub swaps_go_on : (text after all part with s before behind : List ℕ) (left : ℕ) → 0 < left → Some (before, behind) ≡ cut part s → after ≡ text ++ (before ++ with) →
    text ++ joined with (cut_up part left s) ≡ all → after ++ joined with (cut_up part (left - 1) behind) ≡ all
swaps_go_on text after all part with s before behind left some is adds so_far =
    let rest = joined with (cut_up part (left - 1) behind) in
    ap (λ t. t ++ rest) adds ∙ append_assoc text (before ++ with) rest ∙ ap (λ t. text ++ t) (append_assoc before with rest)
    ∙ ap (λ t. text ++ t) (sym (joined_next with part before behind (left - 1))) ∙ ap (λ ss. text ++ joined with ss) (sym (cut_next part s before behind left some (sym is))) ∙ so_far
