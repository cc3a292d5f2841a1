-- Names of a closure that stand twice, as they are looked for.
use Rattle.std.proofs.Common.{◌≡◌, ℕ, Bool, true, false, ◌||◌, ◌&&◌, not, bytes_eq, codes, List, [], ◌∷◌, if◌then◌else◌, refl, sym, ap, ◌∙◌}
use Rattle.std.proofs.lemmas.Slice.Eq.{bytes_eq-Decides}
use Rattle.std.specs.List.{list_any}
use Rattle.vrl_syntax.specs.Calls.{has_equal}
use Rattle.vrl_syntax.specs.Stores.{hidden_by}

among_more : (x y : List ℕ) (names : List (List ℕ)) (b : Bool) → bytes_eq y (codes "_") ≡ b → bytes_eq x (codes "_") ≡ false → list_any (bytes_eq x) (hidden_by names) ≡ list_any (bytes_eq x) names
    → list_any (bytes_eq x) (if b then hidden_by names else y ∷ hidden_by names) ≡ (bytes_eq x y || list_any (bytes_eq x) names)
among_more x y names true is other so_far = so_far ∙ ap (λ c. c || list_any (bytes_eq x) names) (sym (ap (bytes_eq x) ((bytes_eq-Decides y (codes "_")).0 is) ∙ other))
among_more x y names false is other so_far = ap (λ c. bytes_eq x y || c) so_far

-- a name that isn't `_` is one of those that aren't where it is one of all
among_hidden : (x : List ℕ) (names : List (List ℕ)) → bytes_eq x (codes "_") ≡ false → list_any (bytes_eq x) (hidden_by names) ≡ list_any (bytes_eq x) names
among_hidden x [] other = refl
among_hidden x (y ∷ names) other = among_more x y names (bytes_eq y (codes "_")) refl other (among_hidden x names other)

equal_more : (x : List ℕ) (names : List (List ℕ)) (b : Bool) → bytes_eq x (codes "_") ≡ b → has_equal (if b then hidden_by names else x ∷ hidden_by names) ≡ ((not b && list_any (bytes_eq x) names) || has_equal (hidden_by names))
equal_more x names true is = refl
equal_more x names false is = ap (λ c. c || has_equal (hidden_by names)) (among_hidden x names is)

-- the first name stands again, or one of the others stands twice
equal_first : (x : List ℕ) (names : List (List ℕ)) → has_equal (hidden_by (x ∷ names)) ≡ ((not (bytes_eq x (codes "_")) && list_any (bytes_eq x) names) || has_equal (hidden_by names))
equal_first x names = equal_more x names (bytes_eq x (codes "_")) refl

-- .. where a test has told whether it does
pub equal_from : (left names : List (List ℕ)) (x : List ℕ) (found : Bool) → left ≡ x ∷ names → (not (bytes_eq x (codes "_")) && list_any (bytes_eq x) names) ≡ found → has_equal (hidden_by left) ≡ (found || has_equal (hidden_by names))
equal_from left names x found split is = ap (λ ns. has_equal (hidden_by ns)) split ∙ equal_first x names ∙ ap (λ b. b || has_equal (hidden_by names)) is
