-- `encode_base64` and `decode_base64`: bytes in the standard alphabet of RFC 4648, section 4,
-- padded.
use Rattle.std.specs.Prelude.{ℕ, List, Option}
use Rattle.std.specs.Result.{result_ok}
use Rattle.base64.specs.Engines.{standard}
use Rattle.base64.specs.GeneralPurpose.{decode_of, encode_of}

abbrev pub base64_of : List ℕ → List ℕ
base64_of bytes = encode_of standard bytes

-- strict: with all of the padding, and no bits left over
abbrev pub bytes_of_base64 : List ℕ → Option (List ℕ)
bytes_of_base64 text = result_ok (decode_of standard text)
