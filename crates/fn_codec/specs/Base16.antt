-- `encode_base16` and `decode_base16`: bytes as two hexadecimal digits each (RFC 4648, section 8).
use Rattle.std.specs.Prelude.{ℕ, List, Option}
use Rattle.std.specs.Result.{result_ok}
use Rattle.hex.specs.Hex.{decode_of, encode_lower}

-- in lower case
abbrev pub base16_of : List ℕ → List ℕ
base16_of bytes = encode_lower bytes

-- digits in either case, an even number of them
abbrev pub bytes_of_base16 : List ℕ → Option (List ℕ)
bytes_of_base16 text = result_ok (decode_of text)
