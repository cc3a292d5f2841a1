-- A text cut where another stands in it.
use Rattle.std.specs.Prelude.{ℕ, zero, suc, List, [], ◌∷◌, ◌++◌, Option, Some, None, bytes_eq, drop, length, option_map, take, if◌then◌else◌}

-- what stands before the first place where the text goes on with the part, and what stands behind
-- the part there; none where there is no such place
unfoldable pub cut : List ℕ → List ℕ → Option (List ℕ × List ℕ)
cut part [] = if bytes_eq part [] then Some ([], []) else None
cut part (b ∷ s) =
    if bytes_eq (take (length part) (b ∷ s)) part then Some ([], drop (length part) (b ∷ s))
    else option_map (λ parts. (b ∷ parts.0, parts.1)) (cut part s)

-- the text alone, or the first part, and then those of what is left
abbrev pub cut_on : List ℕ → (List ℕ → List (List ℕ)) → Option (List ℕ × List ℕ) → List (List ℕ)
cut_on s rest None = s ∷ []
cut_on s rest (Some parts) = parts.0 ∷ rest parts.1

-- the parts between the first so many places, from the left, none over another
abbrev pub cut_up : List ℕ → ℕ → List ℕ → List (List ℕ)
cut_up part zero s = s ∷ []
cut_up part (suc n) s = cut_on s (cut_up part n) (cut part s)

-- those where the part isn't empty; an empty one cuts nothing
abbrev pub parts_between : List ℕ → ℕ → List ℕ → List (List ℕ)
parts_between [] n s = s ∷ []
parts_between (b ∷ part) n s = cut_up (b ∷ part) n s

-- each text with another before it
abbrev pub behind_each : List ℕ → List (List ℕ) → List ℕ
behind_each between [] = []
behind_each between (s ∷ ss) = between ++ (s ++ behind_each between ss)

-- texts as one, with another between each two
abbrev pub joined : List ℕ → List (List ℕ) → List ℕ
joined between [] = []
joined between (s ∷ ss) = s ++ behind_each between ss
