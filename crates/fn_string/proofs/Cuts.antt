-- A text cut before one of its characters.
use Rattle.std.proofs.Common.{◌≡◌, ◌≤◌, ◌+◌, ◌-◌, ◌==◌, ℕ, suc, List, ◌++◌, length, take, drop, nat_le, sym, ap, ◌∙◌, arith, subst}
use Rattle.std.proofs.lemmas.Bool.Decides.{nat_tests}
use Rattle.std.proofs.lemmas.List.{length-append, length-drop, take-append-drop}
use Rattle.std.proofs.lemmas.Str.{chars_past_char, encodes-append, encodes-chars, length-le-encodes, IsCharBoundary-at_seam}
use Rattle.std.proofs.Math.ListN.{drop_of_length-le}
use Rattle.std.proofs.Math.Seq.{take-append_seam}
use Rattle.std.specs.Char.{encode_utf8}
use Rattle.std.specs.Str.{chars, encode_utf8_all, IsCharBoundary, IsUtf8}
use Rattle.fn_string.specs.Characters.{first_characters, from_character}
use Rattle.fn_string.specs.StrLen.{count_of_characters}

-- both parts are the text
parts_of : (n : ℕ) (s : List ℕ) → IsUtf8 s → s ≡ first_characters n s ++ from_character n s
parts_of n s utf8 =
    sym (sym (encodes-append (take n (chars s)) (drop n (chars s))) ∙ ap encode_utf8_all (take-append-drop n (chars s)) ∙ encodes-chars s utf8)

length_of_first : (s first rest : List ℕ) → s ≡ first ++ rest → length first ≡ length s - length rest
length_of_first s first rest is = let both : length s ≡ length first + length rest = ap length is ∙ length-append first rest in omega (arith, both)

with_rest : (n : ℕ) (s rest : List ℕ) → rest ≡ from_character n s → IsUtf8 s → s ≡ first_characters n s ++ rest
with_rest n s rest is utf8 = parts_of n s utf8 ∙ ap (λ x. first_characters n s ++ x) (sym is)

pub rest_is_shorter : (n : ℕ) (s rest : List ℕ) → rest ≡ from_character n s → IsUtf8 s → length rest ≤ length s
rest_is_shorter n s rest is utf8 =
    let both : length s ≡ length (first_characters n s) + length rest = ap length (with_rest n s rest is utf8) ∙ length-append (first_characters n s) rest in omega (arith, both)

pub cut_is_boundary : (n : ℕ) (s rest : List ℕ) → rest ≡ from_character n s → IsUtf8 s → IsUtf8 rest → IsCharBoundary s (length s - length rest)
cut_is_boundary n s rest is utf8 rest_utf8 =
    let parts = with_rest n s rest is utf8 in let P : ℕ → Type 0 = IsCharBoundary s in
    subst P (length_of_first s (first_characters n s) rest parts) (IsCharBoundary-at_seam s (first_characters n s) rest parts rest_utf8)

pub front_is_first : (n : ℕ) (s rest : List ℕ) → rest ≡ from_character n s → IsUtf8 s → take (length s - length rest) s ≡ first_characters n s
front_is_first n s rest is utf8 =
    let parts = with_rest n s rest is utf8 in let first = first_characters n s in
    ap (λ i. take i s) (sym (length_of_first s first rest parts)) ∙ ap (take (length first)) parts ∙ take-append_seam first rest

-- nothing is left where the text has no more characters
length_left : (n : ℕ) (cs : List ℕ) → length cs ≤ n → length (encode_utf8_all (drop n cs)) ≡ 0
length_left n cs within = ap (λ ds. length (encode_utf8_all ds)) (drop_of_length-le cs within)

count_left : (n : ℕ) (cs : List ℕ) → length (encode_utf8_all (drop n cs)) ≡ 0 → length cs ≤ n
count_left n cs none = let least = length-le-encodes (drop n cs) in let left = length-drop n cs in omega (arith, none, least, left)

one_test : (k m n : ℕ) → (k ≡ 0 → m ≤ n) → (m ≤ n → k ≡ 0) → (k == 0) ≡ nat_le m n
one_test k m n to from = grind (arith, nat_tests, to, from)

pub is_within : (n : ℕ) (s : List ℕ) → (length (from_character n s) == 0) ≡ nat_le (count_of_characters s) n
is_within n s = one_test (length (from_character n s)) (count_of_characters s) n (count_left n (chars s)) (length_left n (chars s))

-- ---- character by character

-- past one character, one fewer is left to pass
pub passed : (m next n : ℕ) (whole s rest : List ℕ) (c : ℕ) → IsUtf8 s → s ≡ encode_utf8 c ++ rest → suc next ≡ n → drop m (chars whole) ≡ drop n (chars s) → drop m (chars whole) ≡ drop next (chars rest)
passed m next n whole s rest c utf8 is one all = all ∙ ap (λ i. drop i (chars s)) (sym one) ∙ ap (drop (suc next)) (chars_past_char s rest c utf8 is)

pub all_passed : (m n : ℕ) (whole s : List ℕ) → IsUtf8 s → n ≡ 0 → drop m (chars whole) ≡ drop n (chars s) → s ≡ from_character m whole
all_passed m n whole s utf8 none all =
    sym (ap encode_utf8_all (all ∙ ap (λ i. drop i (chars s)) none) ∙ encodes-chars s utf8)
