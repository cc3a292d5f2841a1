-- `sha2`: the digests of FIPS 180-4, by the name of a variant, in hexadecimal digits.
use Rattle.std.specs.Prelude.{ℕ, Bool, false, List, [], ◌∷◌, bytes_eq, codes, if◌then◌else◌}
use Rattle.std.specs.List.{list_any}
use Rattle.vrl_value.specs.Tree.{string}
use Rattle.vrl_value.specs.declared.value.Tag.TheVariants.{Text}
use Rattle.vrl_kind.specs.Kinds.{only_at}
use Rattle.vrl_builtin.specs.Rows.{Row, value, is_text_of, optional_literal_parameter, parameter, text_at}
use Rattle.vrl_builtin.specs.TagSets.{strings}
use Rattle.hex.specs.Hex.{encode_lower}
use Rattle.sha2.specs.Sha256.{sha224, sha256}
use Rattle.sha2.specs.Sha512.{sha384, sha512, sha512_224, sha512_256}

abbrev pub variants : List (List ℕ)
variants = codes "SHA-224" ∷ codes "SHA-256" ∷ codes "SHA-384" ∷ codes "SHA-512" ∷ codes "SHA-512/224"
    ∷ codes "SHA-512/256" ∷ []

abbrev pub is_variant : List ℕ → Bool
is_variant name = list_any (bytes_eq name) variants

-- the digest of the variant; SHA-512/256 under the last of the names
abbrev pub digest_of : List ℕ → List ℕ → List ℕ
digest_of name bytes =
    if bytes_eq name (codes "SHA-224") then sha224 bytes
    else if bytes_eq name (codes "SHA-256") then sha256 bytes
    else if bytes_eq name (codes "SHA-384") then sha384 bytes
    else if bytes_eq name (codes "SHA-512") then sha512 bytes
    else if bytes_eq name (codes "SHA-512/224") then sha512_224 bytes
    else sha512_256 bytes

abbrev pub sha2_row : Row
sha2_row = record {
  name = codes "sha2";
  parameters = parameter (codes "value") strings ∷ optional_literal_parameter (codes "variant") strings ∷ [];
  accepts = λ place literal. is_text_of is_variant literal;
  kind = λ givens sources. only_at Text;
  may_fail = λ givens. false;
  means = λ arguments setting. value
      (string (encode_lower (digest_of (text_at 1 (codes "SHA-512/256") arguments) (text_at 0 [] arguments))));
}
