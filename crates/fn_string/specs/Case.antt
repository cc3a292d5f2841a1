-- `upcase` and `downcase`: a text with the letters of ASCII in one case. The bytes of all other
-- characters are no letters of ASCII, and stay.
use Rattle.std.specs.Prelude.{ℕ, List, map}
use Rattle.std.specs.Char.{to_ascii_lowercase, to_ascii_uppercase}

abbrev pub in_upper_case : List ℕ → List ℕ
in_upper_case s = map to_ascii_uppercase s

abbrev pub in_lower_case : List ℕ → List ℕ
in_lower_case s = map to_ascii_lowercase s
