-- How lines are put into batches. A line is given as its number and its bytes.
use Rattle.std.specs.Prelude.{◌≡◌, ℕ, List, [], ◌∷◌, ◌++◌, ◌||◌, ◌⊎◌, if◌then◌else◌, Bool, false, filter, length, nat_le, nat_lt}
use Rattle.std.specs.List.{flat_map, sum_by}
use Rattle.vrl_batch.specs.Lines.{line_limit}

-- how many bytes of a line are kept: all, and none of one that is too long
abbrev pub kept_bytes : ℕ × List ℕ → ℕ
kept_bytes l = if nat_lt line_limit (length l.1) then 0 else length l.1

-- a batch ends with this many lines
abbrev pub batch_lines : ℕ
batch_lines = 256

-- or with the line with which the bytes that are kept reach this number
abbrev pub batch_bytes : ℕ
batch_bytes = 8388608

-- whether these lines make a whole batch, by their number or by their bytes
abbrev pub is_whole : List (ℕ × List ℕ) → Bool
is_whole lines = nat_le batch_lines (length lines) || nat_le batch_bytes (sum_by kept_bytes lines)

-- these lines cut into batches, the first of which begins with those that are begun
abbrev pub batches_from : (lines begun : List (ℕ × List ℕ)) → List (List (ℕ × List ℕ))
batches_from [] [] = []
batches_from [] (b ∷ begun) = (b ∷ begun) ∷ []
batches_from (l ∷ lines) begun = if is_whole (begun ++ l ∷ []) then (begun ++ l ∷ []) ∷ batches_from lines []
    else batches_from lines (begun ++ l ∷ [])

-- lines cut into batches: each ends with the line that makes it whole, and the last one where the
-- lines end
abbrev pub batches_of : List (ℕ × List ℕ) → List (List (ℕ × List ℕ))
batches_of lines = batches_from lines []

-- the lines of the batches that are whole
abbrev pub lines_in_whole : List (ℕ × List ℕ) → List (ℕ × List ℕ)
lines_in_whole lines = flat_map (λ batch. batch) (filter is_whole (batches_of lines))

-- these lines are no more than a batch: without the last of them they are not whole
abbrev pub IsAtMostBatch : List (ℕ × List ℕ) → Type 0
IsAtMostBatch lines = (lines ≡ [])
    ⊎ ((begun : List (ℕ × List ℕ)) × (last : ℕ × List ℕ) × (lines ≡ begun ++ last ∷ []) × (is_whole begun ≡ false))
