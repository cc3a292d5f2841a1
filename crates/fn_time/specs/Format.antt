-- Formats of dates and times: texts in which a conversion, a `%` and the letter behind it, stands
-- for a part of a moment. Whether a byte is such a letter is told at its place: it is one where an
-- odd number of `%` stands directly before it.
use Rattle.std.specs.Prelude.{ℕ, suc, ◌+◌, ◌%◌, ◌==◌, ◌&&◌, ◌||◌, not, Bool, List, [], ◌∷◌, codes, if◌then◌else◌}
use Rattle.std.specs.List.{list_all, list_any}

-- how many `%` stand first
abbrev pub signs : List ℕ → ℕ
signs [] = 0
signs (b ∷ bs) = if b == 37 then suc (signs bs) else 0

-- whether a letter stands at a place, by what stands before it, the last byte first
abbrev pub is_letter_place : List ℕ → Bool
is_letter_place before = signs before % 2 == 1

-- the letters of year, month, day, hour, minute, second and offset; and these with the sign itself
abbrev pub part_letters : List ℕ
part_letters = codes "YmdHMSz"

abbrev pub is_known : ℕ → Bool
is_known letter = list_any (λ known. letter == known) (37 ∷ part_letters)

-- at each place of a letter from one on a known one stands, also at the end
abbrev pub are_known : List ℕ → List ℕ → Bool
are_known before [] = not (is_letter_place before)
are_known before (b ∷ bs) = (not (is_letter_place before) || is_known b) && are_known (b ∷ before) bs

-- at how many places of a letter from one on this one stands
abbrev pub times_in : ℕ → List ℕ → List ℕ → ℕ
times_in letter before [] = 0
times_in letter before (b ∷ bs) =
    (if is_letter_place before && b == letter then 1 else 0) + times_in letter (b ∷ before) bs

-- the format shows moments: each conversion has one of the eight letters
abbrev pub is_shown_format : List ℕ → Bool
is_shown_format format = are_known [] format

-- the format reads moments: besides, each of the seven parts stands once
abbrev pub is_read_format : List ℕ → Bool
is_read_format format = is_shown_format format && list_all (λ letter. times_in letter [] format == 1) part_letters
