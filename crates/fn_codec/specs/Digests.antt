-- `md5` and `sha1`: the digests of RFC 1321 and RFC 3174, in hexadecimal digits.
use Rattle.std.specs.Prelude.{ℕ, List}
use Rattle.hex.specs.Hex.{encode_lower}
use Rattle.md5.specs.Md5.{md5}
use Rattle.sha1.specs.Sha1.{sha1}

abbrev pub md5_of : List ℕ → List ℕ
md5_of bytes = encode_lower (md5 bytes)

abbrev pub sha1_of : List ℕ → List ℕ
sha1_of bytes = encode_lower (sha1 bytes)
