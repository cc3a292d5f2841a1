-- The text of bytes that were read, and the error where they are no text or none were read.
use Rattle.std.proofs.Common.{◌≡◌, ℕ, Bool, true, false, List, Option, Some, codes, refl, subst, String, string_bytes}
use Rattle.std.proofs.lemmas.Str.{is_utf8-from_IsUtf8, IsUtf8-from_is_utf8, IsUtf8-string_bytes}
use Rattle.std.specs.declared.alloc.Global.{Global}
use Rattle.std.specs.Str.{is_utf8, IsUtf8}
use Rattle.vrl_value.specs.Tree.{string}
use Rattle.vrl_builtin.specs.Rows.{failed, named, value}
use Rattle.vrl_builtin.specs.View.{Applies}
use Rattle.vrl_builtin.specs.declared.failing.Applied.{Applied}
use Rattle.fn_codec.specs.Decode.{as_text}

text_if : (name words bytes : List ℕ) → IsUtf8 bytes → named name (as_text words (Some bytes)) ≡ value (string bytes)
text_if name words bytes utf8 = rw (is_utf8-from_IsUtf8 bytes utf8) refl

pub text_is : (name words bytes : List ℕ) (text : String Global) → string_bytes text ≡ bytes → named name (as_text words (Some bytes)) ≡ value (string bytes)
text_is name words bytes text same = let P : List ℕ → Type 0 = IsUtf8 in text_if name words bytes (subst P same (IsUtf8-string_bytes text))

not_utf8 : (bytes : List ℕ) (b : Bool) → is_utf8 bytes ≡ b → ¬ IsUtf8 bytes → b ≡ false
not_utf8 bytes true is other = absurd (other (IsUtf8-from_is_utf8 bytes is))
not_utf8 bytes false is other = refl

pub no_text_is : (name words bytes : List ℕ) → ¬ IsUtf8 bytes → named name (as_text words (Some bytes)) ≡ failed name (codes "not UTF-8")
no_text_is name words bytes other = rw (not_utf8 bytes (is_utf8 bytes) refl other) refl

-- what is answered of the bytes is answered of what was found
pub found_is : (name words bytes : List ℕ) (told : Option (List ℕ)) (result : Applied) →
    Some bytes ≡ told → Applies true (named name (as_text words (Some bytes))) result → Applies true (named name (as_text words told)) result
found_is name words bytes told result is answered = subst (λ told. Applies true (named name (as_text words told)) result) is answered
