-- The set of bytes that are escaped is told byte by byte.
use Rattle.std.proofs.Common.{◌≡◌, ◌<◌, ℕ, Bool, true, false, List, [], ◌∷◌, ◌++◌, length, get_or, refl, ap, ◌∙◌, arith, suc, if◌then◌else◌}
use Rattle.std.specs.Char.{is_ascii_alphanumeric}
use Rattle.std.specs.List.{flat_map}
use Rattle.base64.proofs.Tables.{all_below_at}
use Rattle.base64.specs.Tables.{all_below}
use Rattle.percent_encoding.specs.AsciiSet.{should_percent_encode}
use Rattle.percent_encoding.specs.Percent.{encode_byte, percent_encode, percent_encode_byte}
use Rattle.percent_encoding.specs.declared.ascii_set.TheConstants.{NON_ALPHANUMERIC}
use Rattle.fn_codec.specs.Percent.{escaped, percent_of}

-- a byte is escaped where it is neither a letter nor a digit of ASCII
abbrev is_told : Bool → Bool → Bool
is_told true false = true
is_told false true = true
is_told true true = false
is_told false false = false

abbrev is_told_at : ℕ → Bool
is_told_at b = is_told (should_percent_encode NON_ALPHANUMERIC b) (is_ascii_alphanumeric b)

each_is_told : all_below is_told_at 256 ≡ true
unfolding should_percent_encode
each_is_told = refl

one_escape : (b : ℕ) (escape letter : Bool) → is_told escape letter ≡ true → (if escape then percent_encode_byte b else b ∷ []) ≡ (if letter then b ∷ [] else percent_encode_byte b)
one_escape b true false is = refl
one_escape b false true is = refl
one_escape b true true is = absurd cc
one_escape b false false is = absurd cc

byte_is : (b : ℕ) → b < 256 → encode_byte NON_ALPHANUMERIC b ≡ escaped b
byte_is b small = one_escape b (should_percent_encode NON_ALPHANUMERIC b) (is_ascii_alphanumeric b) (all_below_at is_told_at 256 b each_is_told small)

each_byte : (bs : List ℕ) → ((i : ℕ) → i < length bs → get_or bs i 0 < 256) → flat_map (encode_byte NON_ALPHANUMERIC) bs ≡ percent_of bs
each_byte [] small = refl
each_byte (b ∷ bs) small =
    ap (λ x. x ++ flat_map (encode_byte NON_ALPHANUMERIC) bs) (byte_is b (small 0 (omega arith))) ∙ ap (λ x. escaped b ++ x) (each_byte bs (λ i below. small (suc i) (omega (arith, below))))

pub percent_is : (bs : List ℕ) → ((i : ℕ) → i < length bs → get_or bs i 0 < 256) → percent_encode NON_ALPHANUMERIC bs ≡ percent_of bs
unfolding percent_encode
percent_is bs small = each_byte bs small
