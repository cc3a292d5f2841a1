-- What is read of the matches, one after the other.
use Rattle.std.proofs.Common.{◌≡◌, ◌≢◌, ℕ, zero, suc, ◌+◌, ◌-◌, ◌<◌, if◌then◌else◌, List, [], ◌∷◌, ◌++◌, map, take, Option, Some, None, option_map, refl, sym, ap, ◌∙◌, arith, append_assoc, ne_eqb}
use Rattle.std.proofs.lemmas.List.{append-nil}
use Rattle.std.proofs.lemmas.List.FromFn.{map-range_with_len_more}
use Rattle.std.specs.List.{range_with_len}
use Rattle.regex.specs.Locations.{location, location_count, AreLocationsOf}
use Rattle.regex.specs.Patterns.{Match}
use Rattle.regex.specs.Search.{as_limit}
use Rattle.regex.specs.Replace.{replaced_by}
use Rattle.regex.specs.declared.locations.CaptureLocations.{CaptureLocations}
use Rattle.vrl_pattern.specs.Matches.{group_place, replaced}
use Rattle.vrl_pattern.specs.Places.{place_span, place_spans}
use Rattle.vrl_pattern.specs.declared.place.Place.{Place}

-- ---- groups

spans_more : (ps : List (Option Place)) (p : Option Place) → place_spans (ps ++ p ∷ []) ≡ place_spans ps ++ option_map place_span p ∷ []
spans_more [] p = refl
spans_more (q ∷ ps) p = ap (λ ss. option_map place_span q ∷ ss) (spans_more ps p)

-- one more group is read
pub group_more : (f : ℕ → Option (ℕ × ℕ)) (n : ℕ) (ps qs : List (Option Place)) (p : Option Place) → qs ≡ ps ++ p ∷ [] → option_map place_span p ≡ f n →
    place_spans ps ≡ map f (range_with_len 0 n) → place_spans qs ≡ map f (range_with_len 0 (n + 1))
group_more f n ps qs p adds is so_far =
    let from : 0 + n ≡ n = omega arith in
    ap place_spans adds ∙ spans_more ps p ∙ (λ i. so_far i ++ is i ∷ []) ∙ sym (map-range_with_len_more f 0 n n from)

range_same : {A : Type 0} (f g : ℕ → A) (a n : ℕ) → ((k : ℕ) → k < a + n → f k ≡ g k) → map f (range_with_len a n) ≡ map g (range_with_len a n)
range_same f g a zero same = refl
range_same f g a (suc n) same =
    (λ i. same a (omega arith) i ∷ range_same f g (a + 1) n (λ k below. same k (omega arith)) i)

group_here : (m : Match) (l : CaptureLocations) → AreLocationsOf m l → (n : ℕ) → n < location_count l → location l n ≡ group_place m n
group_here m l are zero below = are.0 below
group_here m l are (suc n) below = are.1 (suc n) (omega arith) below

-- the groups are those of the match
pub groups_here : (m : Match) (l : CaptureLocations) → AreLocationsOf m l → (count : ℕ) → location_count l ≡ count → map (location l) (range_with_len 0 (location_count l)) ≡ map (group_place m) (range_with_len 0 count)
groups_here m l are count is =
    range_same (location l) (group_place m) 0 (location_count l) (λ k below. group_here m l are k (omega arith)) ∙ ap (λ n. map (group_place m) (range_with_len 0 n)) is

-- ---- matches

pub matches_go_on : {A B : Type 0} (f : A → B) (found after all : List B) (g : B) (m : A) (before ms : List A) (left : ℕ) → 0 < left → before ≡ m ∷ ms → g ≡ f m → after ≡ found ++ g ∷ [] →
    found ++ map f (take left before) ≡ all → after ++ map f (take (left - 1) ms) ≡ all
matches_go_on f found after all g m before ms zero some is one adds so_far = absurd (omega arith)
matches_go_on f found after all g m before ms (suc n) some is one adds so_far =
    let less : suc n - 1 ≡ n = omega arith in
    ap (λ xs. xs ++ map f (take (suc n - 1) ms)) adds ∙ append_assoc found (g ∷ []) (map f (take (suc n - 1) ms))
    ∙ (λ i. found ++ (one i ∷ map f (take (less i) ms))) ∙ ap (λ xs. found ++ map f (take (suc n) xs)) (sym is) ∙ so_far

pub take_none : {A : Type 0} (n : ℕ) (xs : List A) → xs ≡ [] → take n xs ≡ []
take_none zero xs none = refl
take_none (suc n) [] none = refl
take_none (suc n) (x ∷ xs) none = absurd cc

pub matches_end : {A B : Type 0} (f : A → B) (found all : List B) (before : List A) (left : ℕ) → before ≡ [] → found ++ map f (take left before) ≡ all → found ≡ all
matches_end f found all before left none so_far =
    sym (append-nil found) ∙ ap (λ ms. found ++ map f ms) (sym (take_none left before none)) ∙ so_far

-- ---- limits

pub some_limit : (n : ℕ) → n ≢ 0 → as_limit n ≡ Some n
some_limit n some = ap (λ b. if b then None else Some n) (ne_eqb n 0 some)

-- none is replaced
pub none_replaced : (source text template : List ℕ) → replaced source text template (Some 0) ≡ text
unfolding replaced_by
none_replaced source text template = refl
