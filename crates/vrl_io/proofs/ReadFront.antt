-- The front of what a source had left, read piece by piece.
use Rattle.std.proofs.Common.{ℕ, ◌≡◌, ◌≤◌, ◌⊎◌, List, [], ◌++◌, length, take, drop, Option, Some, None, IfSome, option_map, arith}
use Rattle.std.proofs.lemmas.Grind.{common_steps}

-- what was left are the bytes so far, and what is left now
abbrev pub IsFrontOf : List ℕ → Option (List ℕ) → Option (List ℕ) → Type 0
IsFrontOf bytes before now = before ≡ option_map (λ rest. bytes ++ rest) now

-- one more piece keeps that so
pub front_more : (bytes more buffer : List ℕ) (n : ℕ) (before old new : Option (List ℕ)) → IsFrontOf bytes before old → new ≡ option_map (drop n) old → IfSome old (λ xs. (n ≤ length xs) × (take n buffer ≡ take n xs)) → more ≡ bytes ++ take n buffer → IsFrontOf more before new
front_more bytes more buffer n before None new front shorter same longer = cc
front_more bytes more buffer n before (Some xs) new front shorter same longer = grind (arith, common_steps)

-- the bytes are all that were wanted, or all that were left
pub front_whole : (bytes : List ℕ) (limit : ℕ) (before now : Option (List ℕ)) → IsFrontOf bytes before now → length bytes ≤ limit → (limit ≤ length bytes) ⊎ IfSome now (λ xs. xs ≡ []) → IfSome before (λ left. bytes ≡ take limit left)
front_whole bytes limit before None front within done = grind (arith, common_steps)
front_whole bytes limit before (Some xs) front within done = grind (arith, common_steps)
