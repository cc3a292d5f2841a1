-- What is left of a take.
use Rattle.std.proofs.Common.{◌≡◌, ◌+◌, ◌-◌, ◌<◌, ◌≤◌, ℕ, List, [], ◌∷◌, ◌++◌, length, take, drop, Option, Some, None, option_map, IfSome, sym, ap, ◌∙◌, drop-drop, take-take, arith}
use Rattle.std.proofs.lemmas.List.{drop-take, take-append-drop, take-append-le}

-- what is left behind the first bytes of a window
pub skipped : (xs : List ℕ) (from to count : ℕ) → from + count ≤ to → take (to - (from + count)) (drop (from + count) xs) ≡ drop count (take (to - from) (drop from xs))
skipped xs from to count within =
    let size : count + (to - (from + count)) ≡ to - from = omega (arith, within) in
    ap (take (to - (from + count))) (sym (drop-drop count from xs))
    ∙ sym (drop-take count (to - (from + count)) (drop from xs))
    ∙ ap (λ n. drop count (take n (drop from xs))) size

-- one byte was taken
pub one_byte : (left left_after : Option (List ℕ)) (n : ℕ) (written : List ℕ) → 0 < n → n ≤ 1 → IfSome left (λ bytes. (n ≤ length bytes) × (take n written ≡ take n bytes)) → left_after ≡ option_map (drop n) left
    → (byte : ℕ) × (left ≡ option_map (λ rest. byte ∷ rest) left_after)
one_byte None left_after n written some one front is = (0, sym (ap (option_map (λ rest. 0 ∷ rest)) is))
one_byte (Some []) left_after n written some one front is = absurd (omega (arith, some, front.0))
one_byte (Some (b ∷ bytes)) left_after n written some one front is =
    let n_is : n ≡ 1 = omega (arith, some, one) in
    (b, sym (ap (option_map (λ rest. b ∷ rest)) (is ∙ ap (λ k. Some (drop k (b ∷ bytes))) n_is)))

-- the bytes taken stand in front of those left
pub in_front : (left left_after : Option (List ℕ)) (n : ℕ) (written taken : List ℕ) → taken ≡ take n written → IfSome left (λ bytes. (n ≤ length bytes) × (take n written ≡ take n bytes)) → left_after ≡ option_map (drop n) left
    → left ≡ option_map (λ rest. taken ++ rest) left_after
in_front None left_after n written taken is front after = sym (ap (option_map (λ rest. taken ++ rest)) after)
in_front (Some bytes) left_after n written taken is front after =
    ap Some (sym (take-append-drop n bytes))
    ∙ ap (λ x. Some (x ++ drop n bytes)) (sym front.1 ∙ sym is)
    ∙ sym (ap (option_map (λ rest. taken ++ rest)) after)

-- the bytes that a take wrote to the front of the buffer
pub window_is : (given rest : List ℕ) (n len : ℕ) → n ≤ length given → n ≤ len → take (n - 0) (drop 0 (take len (given ++ rest))) ≡ take n given
window_is given rest n len within room =
    let same : n - 0 ≡ n = omega arith in
    ap (λ k. take k (take len (given ++ rest))) same ∙ take-take n len (given ++ rest) room ∙ take-append-le n given rest within
