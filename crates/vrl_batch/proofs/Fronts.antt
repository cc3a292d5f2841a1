-- Fronts of a list that grow.
use Rattle.std.proofs.Common.{◌≡◌, ℕ, ◌+◌, ◌-◌, List, ◌++◌, length, take, drop, arith, length-drop}
use Rattle.std.proofs.lemmas.List.{drop-take, take-append-drop}
use Rattle.std.proofs.lemmas.Grind.{common_steps}

-- a front, and a front of what stands behind it, are a longer front
pub take-more : (xs : List ℕ) (g n : ℕ) → take g xs ++ take n (drop g xs) ≡ take (g + n) xs
take-more xs g n = grind (arith, common_steps, drop-take g n xs, take-append-drop g (take (g + n) xs))

-- all that stands behind a front
pub rest_is : (xs : List ℕ) (g : ℕ) → take (length xs - g) (drop g xs) ≡ drop g xs
rest_is xs g = grind (arith, common_steps, length-drop g xs)
