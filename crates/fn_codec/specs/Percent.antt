-- `encode_percent` and `decode_percent`: bytes as `%` and two hexadecimal digits (RFC 3986, section
-- 2.1).
use Rattle.std.specs.Prelude.{ℕ, List, [], ◌∷◌, if◌then◌else◌}
use Rattle.std.specs.Char.{is_ascii_alphanumeric}
use Rattle.std.specs.List.{flat_map}
use Rattle.std.specs.Str.Lossy.{utf8_lossy}
use Rattle.percent_encoding.specs.Percent.{percent_decode, percent_encode_byte}

-- letters and digits of ASCII stay, and each other byte is escaped, in upper case
abbrev pub escaped : ℕ → List ℕ
escaped byte = if is_ascii_alphanumeric byte then byte ∷ [] else percent_encode_byte byte

abbrev pub percent_of : List ℕ → List ℕ
percent_of bytes = flat_map escaped bytes

-- each escape is its byte, and what is no escape stays; bytes that are no UTF-8 become U+FFFD
abbrev pub text_of_percent : List ℕ → List ℕ
text_of_percent text = utf8_lossy (percent_decode text)
