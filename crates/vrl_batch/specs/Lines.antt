-- The lines of an input.
use Rattle.std.specs.Prelude.{◌≡◌, ◌≢◌, ◌⊎◌, ℕ, ℤ, List, [], ◌∷◌, ◌++◌, ◌==◌, ◌||◌, if◌then◌else◌, Bool, true, false, not, filter, length, nat_lt}
use Rattle.std.specs.List.{enumerate_from, list_all, onto_first}
use Rattle.vrl_batch.specs.declared.line.Line.{Line}

-- what stands before each newline, and what stands behind the last one, unless that is nothing
abbrev pub lines_of : List ℕ → List (List ℕ)
lines_of [] = []
lines_of (b ∷ bs) = if b == 10 then [] ∷ lines_of bs else onto_first b (lines_of bs)

-- space, tab or carriage return
abbrev pub is_blank_byte : ℕ → Bool
is_blank_byte b = (b == 32) || (b == 9) || (b == 13)

abbrev pub is_blank : List ℕ → Bool
is_blank line = list_all is_blank_byte line

-- for how many moments a line asks: none where it is blank, and else one
abbrev pub moment_count : List ℕ → ℕ
moment_count line = if is_blank line then 0 else 1

-- the lines that aren't blank, each with its number, where the first line of all has the number n
abbrev pub event_lines_from : ℕ → List ℕ → List (ℕ × List ℕ)
event_lines_from n input = filter (λ l. not (is_blank l.1)) (enumerate_from n (lines_of input))

-- the lines of an input that aren't blank, each with its number, from 1
abbrev pub event_lines : List ℕ → List (ℕ × List ℕ)
event_lines = event_lines_from 1

-- an event line has at most this many bytes
abbrev pub line_limit : ℕ
line_limit = 1048576

-- a line with its number, and the moment at which it is run; of one that is too long no bytes are
-- kept
abbrev pub line_at : ℤ → ℕ × List ℕ → Line
line_at moment l = if nat_lt line_limit
    (length l.1) then record { number = l.0; bytes = []; long = true; moment = moment }
    else record { number = l.0; bytes = l.1; long = false; moment = moment }

-- ---- bytes of which more may follow

-- whole lines: no bytes, or bytes that end with a newline
abbrev pub AreWholeLines : List ℕ → Type 0
AreWholeLines bytes = (bytes ≡ []) ⊎ ((before : List ℕ) × (bytes ≡ before ++ 10 ∷ []))

-- no newline stands in these bytes
abbrev pub IsUnbroken : List ℕ → Type 0
IsUnbroken [] = Unit {0}
IsUnbroken (b ∷ bytes) = (b ≢ 10) × IsUnbroken bytes

abbrev pub before_some : ℕ → List ℕ → List ℕ
before_some b [] = []
before_some b (c ∷ bytes) = b ∷ c ∷ bytes

-- the lines that have ended: the bytes up to the last newline, with it
abbrev pub ended_of : List ℕ → List ℕ
ended_of [] = []
ended_of (b ∷ bytes) = if b == 10 then b ∷ ended_of bytes else before_some b (ended_of bytes)
