-- Characters of a text, which are code points of Unicode, by their places from 0.
use Rattle.std.specs.Prelude.{ℕ, List, chars, drop, take}
use Rattle.std.specs.Str.{encode_utf8_all}

-- the text from one of its characters on; empty where it has no more
abbrev pub from_character : ℕ → List ℕ → List ℕ
from_character n s = encode_utf8_all (drop n (chars s))

-- so many of its first characters; all where it has no more
abbrev pub first_characters : ℕ → List ℕ → List ℕ
first_characters n s = encode_utf8_all (take n (chars s))
