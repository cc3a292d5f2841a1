-- The fields of a row from a place on.
use Rattle.std.proofs.Common.{◌≡◌, ◌++◌, ℕ, zero, suc, List, [], ◌∷◌, drop, map, Some, None, refl, sym, ap, ◌∙◌, append_assoc, arith, ◌+◌}
use Rattle.csv.specs.Records.{field_at}

next_field : (fs : List (List ℕ)) (i next : ℕ) (f : List ℕ) → next ≡ suc i → field_at fs i ≡ Some f → drop i fs ≡ f ∷ drop next fs
unfolding field_at
next_field [] i next f is found = absurd cc
next_field (g ∷ fs) zero next f is found = let same : f ≡ g = cc in rw (is, same) refl
next_field (g ∷ fs) (suc i) next f is found = rw is (next_field fs i (suc i) f refl found)

no_field : (fs : List (List ℕ)) (i : ℕ) → field_at fs i ≡ None → drop i fs ≡ []
unfolding field_at
no_field [] zero none = refl
no_field [] (suc i) none = refl
no_field (g ∷ fs) zero none = absurd cc
no_field (g ∷ fs) (suc i) none = no_field fs i none

one_more : (i : ℕ) → i + 1 ≡ suc i
one_more i = omega arith

-- one field more is shown, and then those that are left
pub one_shown : {A : Type 0} (shown : List ℕ → A) (done : List A) (fs all : List (List ℕ)) (i next : ℕ) (f : List ℕ) → next ≡ i + 1 → field_at fs i ≡ Some f →
    done ++ map shown (drop i fs) ≡ map shown all → (done ++ shown f ∷ []) ++ map shown (drop next fs) ≡ map shown all
one_shown shown done fs all i next f is found before =
    append_assoc done (shown f ∷ []) (map shown (drop next fs)) ∙ sym (ap (λ gs. done ++ map shown gs) (next_field fs i next f (is ∙ one_more i) found)) ∙ before

-- where none is left, all are shown
pub all_shown : {A : Type 0} (shown : List ℕ → A) (done : List A) (fs all : List (List ℕ)) (i : ℕ) → field_at fs i ≡ None → done ++ map shown (drop i fs) ≡ map shown all → done ++ [] ≡ map shown all
all_shown shown done fs all i none before = sym (ap (λ gs. done ++ map shown gs) (no_field fs i none)) ∙ before
