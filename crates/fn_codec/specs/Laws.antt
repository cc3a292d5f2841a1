-- The functions of codes keep the law.
use Rattle.std.specs.Prelude.{ℕ, true, List, [], Option, Some, None, codes, refl}
use Rattle.std.specs.Str.{is_utf8}
use Rattle.vrl_value.specs.Tree.{string}
use Rattle.vrl_value.specs.declared.value.Tag.TheVariants.{Text}
use Rattle.vrl_kind.specs.Kinds.{only_at}
use Rattle.vrl_builtin.specs.Law.{KeepsLaw}
use Rattle.vrl_builtin.specs.OneTag.{IsOneTag, KeepsOneTag}
use Rattle.vrl_builtin.specs.OneTagLaw.{plain_is_lawful}
use Rattle.vrl_builtin.specs.Rows.{value, failure, text_at}
use Rattle.vrl_builtin.proofs.Lawful.{choice_is}
use Rattle.fn_codec.specs.Decode.{as_text, decode_row}
use Rattle.fn_codec.specs.Sha2.{digest_of, sha2_row}
use Rattle.hex.specs.Hex.{encode_lower}

as_text_is_one_tag : (words : List ℕ) (bytes : Option (List ℕ)) → IsOneTag Text true (as_text words bytes)
as_text_is_one_tag words None = refl
as_text_is_one_tag words (Some bytes) = choice_is (IsOneTag Text true) (is_utf8 bytes) (value (string bytes))
    (failure (codes "not UTF-8")) (λ is. (tt, refl)) (λ other. refl)

pub decode-law : (name words : List ℕ) (bytes_of : List ℕ → Option (List ℕ))
    → KeepsOneTag (decode_row name words bytes_of)
decode-law name words bytes_of = record {
  present = refl;
  lawful = λ givens arguments setting fit instances. as_text_is_one_tag words (bytes_of (text_at 0 [] arguments));
}

pub sha2-law : KeepsLaw sha2_row
sha2-law = record {
  present = λ givens sources given below. refl;
  lawful = λ givens arguments setting given fit instances below.
      plain_is_lawful
      (string (encode_lower (digest_of (text_at 1 (codes "SHA-512/256") arguments) (text_at 0 [] arguments))))
      (only_at Text) (sha2_row.may_fail givens) arguments tt refl;
}
