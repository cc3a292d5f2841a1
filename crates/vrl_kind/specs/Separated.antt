-- Parts of a text behind what is written already.
use Rattle.std.specs.Prelude.{ℕ, ◌++◌, List, [], ◌∷◌}

-- the words, with the first of these before the first word, and the second before each other
abbrev pub separated_after : List ℕ → List ℕ → List (List ℕ) → List ℕ
separated_after before by [] = []
separated_after before by (w ∷ ws) = before ++ (w ++ separated_after by by ws)
