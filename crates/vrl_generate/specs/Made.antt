-- The lines that are made from a seed.
use Rattle.std.specs.Prelude.{◌≡◌, ℕ, zero, suc, ◌+◌, ◌*◌, ◌/◌, ◌%◌, ◌^◌, ℤ, pos, List, [], ◌∷◌, ◌++◌, map, codes, decimal, Option, Some, None}
use Rattle.std.specs.List.{range_with_len}
use Rattle.vrl_batch.specs.Lines.{line_at}
use Rattle.vrl_batch.specs.declared.line.Line.{Line}

-- ---- the states

-- the state behind a state: a linear congruential generator modulo 2^64, with the multiplier and the
-- increment of Knuth's MMIX
unfoldable pub state_after : ℕ → ℕ
state_after state = (state * 6364136223846793005 + 1442695040888963407) % 2 ^ 64

-- the state that is so many steps behind a seed
unfoldable pub made_state : ℕ → ℕ → ℕ
made_state seed zero = seed
made_state seed (suc i) = state_after (made_state seed i)

-- the number that a state gives: its upper 31 bits
unfoldable pub drawn : ℕ → ℕ
drawn state = state / 2 ^ 33

-- ---- the lines

-- one level of three
abbrev pub level_of : ℕ → List ℕ
level_of zero = codes "INFO"
level_of (suc zero) = codes "WARN"
level_of (suc (suc n)) = codes "ERROR"

-- the text of the i-th line, from the number that its state gives: the host is one of 16, the time that the
-- request took below a second, and `n` below 1,000
unfoldable pub line_text : ℕ → ℕ → List ℕ
line_text i r =
    codes "{\"host\":\"h" ++ (decimal (r % 16)
    ++ (codes "\",\"level\":\"" ++ (level_of ((r / 16) % 3)
    ++ (codes "\",\"message\":\"request " ++ (decimal i
    ++ (codes " took " ++ (decimal ((r / 64) % 1000)
    ++ (codes " ms\",\"n\":" ++ (decimal (r % 1000)
    ++ codes "}")))))))))

-- the moment of the i-th line: so many seconds behind 2023-11-14T22:13:20Z
abbrev pub made_moment : ℕ → ℤ
made_moment i = pos ((1700000000 + i) * 1000000000)

-- the i-th line, from its state
abbrev pub line_from : ℕ → ℕ → Line
line_from state i = line_at (made_moment i) (i, line_text i (drawn state))

-- the bytes of the i-th line that is made from a seed, without a newline
abbrev pub made_line : ℕ → ℕ → List ℕ
made_line seed i = line_text i (drawn (made_state seed i))

-- so many lines that are made from a seed, the first with the number 1
abbrev pub made_lines : ℕ → ℕ → List Line
made_lines count seed = map (λ i. line_at (made_moment i) (i, made_line seed i)) (range_with_len 1 count)

-- ---- one after the other

-- the lines that are still to come, so many of them, behind those that were made up to this state
unfoldable pub lines_behind : (made state left : ℕ) → List Line
lines_behind made state zero = []
lines_behind made state (suc left) =
    line_from (state_after state) (made + 1) ∷ lines_behind (made + 1) (state_after state) left

-- the first of the lines to come, and those behind it; none where nothing is to come
abbrev pub IsNext : (to_come : List Line) → Option Line → (left : List Line) → Type 0
IsNext to_come None left = (to_come ≡ []) × (left ≡ [])
IsNext to_come (Some line) left = to_come ≡ line ∷ left
