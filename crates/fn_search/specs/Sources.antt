-- The regex of an argument, by its number.
use Rattle.std.specs.Prelude.{ℕ, Bool, false, List, [], is_some, slice_index_or}
use Rattle.vrl_value.specs.Tree.{Tree, string, integer, boolean, null, timestamp, regex, array, object}
use Rattle.vrl_pattern.specs.Matches.{first_match}

-- the source of the regex with this number
abbrev pub source_at : ℕ → List (List ℕ) → List ℕ
source_at n sources = slice_index_or sources n []

-- whether a value is a regex that matches somewhere in the text
abbrev pub is_match : List (List ℕ) → List ℕ → Tree → Bool
is_match sources s (regex n) = is_some (first_match (source_at n sources) s)
is_match sources s (string t) = false
is_match sources s (integer n) = false
is_match sources s (boolean b) = false
is_match sources s null = false
is_match sources s (timestamp nanos) = false
is_match sources s (array ts) = false
is_match sources s (object ms) = false
