-- What stands behind a piece, and behind a spelling at fault, is an end of the text.
use Rattle.std.proofs.Common.{◌≡◌, ℕ, ◌<◌, Bool, true, false, List, [], ◌∷◌, ◌++◌, length, inl, inr, sym, ap, ◌∙◌, subst, arith}
use Rattle.std.proofs.lemmas.List.{append-nil}
use Rattle.std.specs.Prelude.{codes}
use Rattle.vrl_token.specs.declared.piece.Piece.{Piece}
use Rattle.vrl_token.specs.declared.piece.Piece.TheVariants.{Blank, Comment, Newline, Brace, Bar, Word}
use Rattle.vrl_token.specs.declared.token.Token.{Token}
use Rattle.vrl_token.specs.declared.token.Token.TheVariants as token
use Rattle.vrl_token.specs.Lexical.{IsLongestRun, IsName}
use Rattle.vrl_token.specs.Characters.{Character, IsQuoted, spelling_of}
use Rattle.vrl_token.specs.Numbers.{IsBehindSign, IsDigits, IsExponent, IsFloat, IsNumeral}
use Rattle.vrl_token.specs.Paths.{RootSegments, Segment, Segments}
use Rattle.vrl_token.specs.Words.{BeginsWithToken, IsNonempty, IsRaw, IsTextSpelling}
use Rattle.vrl_token.specs.Pieces.{Begins}
use Rattle.vrl_token.specs.Faults.{IsFault, unclosed_text, unclosed_raw, unknown_escape, template, many_regexes, no_moment, float, joined_number, large_number, event_path, metadata_path, name_path, suffix, division, coalescing_assignment, stray}
use Rattle.vrl_token.proofs.Ends.{EndsWith, Takes, ends_on, first_byte, front_of, goes_to, is_end, one_byte, same_end, takes_on, two_bytes}
use Rattle.vrl_token.proofs.Walks.{begins_takes, segments_end, undotted_takes}

quoted_takes : {quote : ℕ} {text rest : List ℕ} {cs : List Character} → IsQuoted quote text cs rest → Takes text rest
quoted_takes {quote} {text} {rest} {cs} is = goes_to (record { front = spelling_of cs; parts = is.parts }) (first_byte quote rest)

text_takes : {text rest : List ℕ} {cs : List Character} → IsTextSpelling text cs rest → Takes text rest
text_takes is = takes_on (one_byte 34 is.parts) (is_end (quoted_takes is.is_quoted))

raw_takes : {letter : ℕ} {text rest : List ℕ} {cs : List Character} → IsRaw letter text cs rest → Takes text rest
raw_takes {letter} is = takes_on (two_bytes letter 39 is.parts) (is_end (quoted_takes is.is_quoted))

run_end : {P : ℕ → Type 0} {text run rest : List ℕ} → IsLongestRun P text run rest → EndsWith text rest
run_end {P} {text} {run} {rest} is = record { front = run; parts = is.parts }

name_takes : (name text rest : List ℕ) → IsName name → text ≡ name ++ rest → Takes text rest
name_takes [] text rest is parts = absurd is
name_takes (b ∷ bs) text rest is parts = record { front = b ∷ bs; parts = parts; some = omega arith }

some_digits : (digits : List ℕ) → IsDigits digits → 0 < length digits
some_digits [] is = absurd is
some_digits (d ∷ ds) is = omega arith

sign_end : (negative : Bool) (text unsigned : List ℕ) → IsBehindSign negative text unsigned → EndsWith text unsigned
sign_end true text unsigned is = is_end (one_byte 45 is)
sign_end false text unsigned is = same_end is

numeral_takes : {negative : Bool} {text digits rest : List ℕ} → IsNumeral negative text digits rest → Takes text rest
numeral_takes {negative} {text} {digits} {rest} is = goes_to (sign_end negative text is.unsigned is.sign) (record { front = digits; parts = is.parts; some = some_digits digits is.is_digits })

exponent_end : {text rest : List ℕ} → IsExponent text rest → EndsWith text rest
exponent_end {text} {rest} is = ends_on (is_end (one_byte is.letter is.parts)) (ends_on (front_of is.sign is.behind) (run_end is.is_run.run))

float_end : (text rest : List ℕ) → IsFloat text rest → EndsWith text rest
float_end text rest is =
    elim is [
      | inl power ↦ exponent_end power
      | inr fractional ↦
          let front = ends_on (is_end (one_byte 46 fractional.fraction.parts)) (run_end fractional.fraction.is_run.run) in
          elim fractional.power [ inl power ↦ ends_on front (exponent_end power) | inr none ↦ ends_on front (same_end none.0) ]
    ]

path_takes : (segments : List Segment) (text rest : List ℕ) → Segments text segments rest → IsNonempty segments → Takes text rest
path_takes [] text rest walk some = absurd some
path_takes (s ∷ ss) text rest walk some = takes_on (begins_takes s walk.1) (segments_end ss walk.0 rest walk.2)

root_takes : (sign : ℕ) (segments : List Segment) (text rest : List ℕ) → RootSegments sign text segments rest → Takes text rest
root_takes sign [] text rest walk = one_byte sign walk.0
root_takes sign (s ∷ ss) text rest walk =
    let first : Takes walk.0 walk.1 = subst (λ t. Takes t walk.1) (sym walk.3.parts) (undotted_takes s walk.1 walk.3.is_segment) in
    takes_on (one_byte sign walk.2) (ends_on (is_end first) (segments_end ss walk.1 rest walk.4))

token_takes : (before : List Piece) (t : Token) (text rest : List ℕ) → BeginsWithToken before t text rest → Takes text rest
token_takes before (token.Text v) text rest is = text_takes is.1
token_takes before (token.Template f hs) text rest is = text_takes is.1
token_takes before (token.RawText v) text rest is = raw_takes is.1
token_takes before (token.Regex v) text rest is = raw_takes is.1
token_takes before (token.Timestamp m) text rest is = raw_takes is.1
token_takes before (token.Number n) text rest is = numeral_takes is.2.numeral
token_takes before (token.Name name) text rest is = name_takes name text rest is.0.is_name is.0.run.parts
token_takes before (token.Function name) text rest is = name_takes name text rest is.0.is_name is.0.run.parts
token_takes before (token.BangFunction name) text rest is = takes_on (name_takes name text (33 ∷ rest) is.0.is_name is.0.run.parts) (is_end (first_byte 33 rest))
token_takes before (token.EventPath p) text rest is = root_takes 46 is.0 text rest is.1
token_takes before (token.MetadataPath p) text rest is = root_takes 37 is.0 text rest is.1
token_takes before (token.NamePath name p) text rest is = takes_on (name_takes name text is.0 is.2.is_name is.2.run.parts) (is_end (path_takes is.1 is.0 rest is.3 is.4))
token_takes before (token.Suffix p) text rest is = path_takes is.0 text rest is.2 is.3
token_takes before token.True text rest is = name_takes (codes "true") text rest is.is_name is.run.parts
token_takes before token.False text rest is = name_takes (codes "false") text rest is.is_name is.run.parts
token_takes before token.Null text rest is = name_takes (codes "null") text rest is.is_name is.run.parts
token_takes before token.If text rest is = name_takes (codes "if") text rest is.is_name is.run.parts
token_takes before token.Else text rest is = name_takes (codes "else") text rest is.is_name is.run.parts
token_takes before token.Abort text rest is = name_takes (codes "abort") text rest is.is_name is.run.parts
token_takes before token.Return text rest is = name_takes (codes "return") text rest is.is_name is.run.parts
token_takes before token.Plus text rest is = one_byte 43 is
token_takes before token.Times text rest is = one_byte 42 is
token_takes before token.OpenParenthesis text rest is = one_byte 40 is
token_takes before token.CloseParenthesis text rest is = one_byte 41 is
token_takes before token.CloseBracket text rest is = one_byte 93 is
token_takes before token.CloseBrace text rest is = one_byte 125 is
token_takes before token.Comma text rest is = one_byte 44 is
token_takes before token.Colon text rest is = one_byte 58 is
token_takes before token.Separator text rest is = one_byte 59 is
token_takes before token.Assign text rest is = one_byte 61 is.0
token_takes before token.Less text rest is = one_byte 60 is.0
token_takes before token.More text rest is = one_byte 62 is.0
token_takes before token.Not text rest is = one_byte 33 is.0
token_takes before token.Minus text rest is = one_byte 45 is.0
token_takes before token.OpenBracket text rest is = one_byte 91 is.0
token_takes before token.MergeAssign text rest is = two_bytes 124 61 is
token_takes before token.Or text rest is = two_bytes 124 124 is
token_takes before token.And text rest is = two_bytes 38 38 is
token_takes before token.Equal text rest is = two_bytes 61 61 is
token_takes before token.Unequal text rest is = two_bytes 33 61 is
token_takes before token.AtMost text rest is = two_bytes 60 61 is
token_takes before token.AtLeast text rest is = two_bytes 62 61 is
token_takes before token.Arrow text rest is = two_bytes 45 62 is
token_takes before token.Coalesce text rest is = two_bytes 63 63 is.0
token_takes before token.Merge text rest is = absurd is
token_takes before token.OpenBlock text rest is = absurd is
token_takes before token.OpenObject text rest is = absurd is
token_takes before token.OpenBars text rest is = absurd is
token_takes before token.CloseBars text rest is = absurd is

-- a piece takes at least a byte
pub piece_takes : (before : List Piece) (p : Piece) (text rest : List ℕ) → Begins before p text rest → Takes text rest
piece_takes before Blank text rest is = record { front = is.gap; parts = is.run.parts; some = is.some }
piece_takes before Comment text rest is = takes_on (one_byte 35 is.parts) (run_end is.run)
piece_takes before Newline text rest is = one_byte 10 is
piece_takes before Brace text rest is = one_byte 123 is
piece_takes before Bar text rest is = one_byte 124 is.0
piece_takes before (Word t) text rest is = token_takes before t text rest is

all_taken : (text : List ℕ) {rest : List ℕ} → rest ≡ [] → EndsWith text rest
all_taken text none = record { front = text; parts = sym (append-nil text) ∙ ap (λ t. text ++ t) (sym none) }

-- behind a spelling at fault no more is left than the text
pub fault_end : {before : List Piece} {text rest : List ℕ} {code : ℕ} → IsFault before text code rest → EndsWith text rest
fault_end {before} {text} (unclosed_text behind opens un none code) = all_taken text none
fault_end {before} {text} (unclosed_raw letter behind is opens un none code) = all_taken text none
fault_end (unknown_escape cs is bad code) = is_end (text_takes is)
fault_end (template cs is known malformed code) = is_end (text_takes is)
fault_end (many_regexes cs is many code) = is_end (raw_takes is)
fault_end (no_moment cs is none code) = is_end (raw_takes is)
fault_end (float negative digits behind may is tail code) = ends_on (is_end (numeral_takes is)) (float_end behind _ tail)
fault_end (joined_number negative digits is joined code) = is_end (numeral_takes is.numeral)
fault_end (large_number negative digits is apart large code) = is_end (numeral_takes is.numeral)
fault_end (event_path segments walk apart flaw) = is_end (root_takes 46 segments _ _ walk)
fault_end (metadata_path segments walk flaw) = is_end (root_takes 37 segments _ _ walk)
fault_end (name_path name behind segments free walk some flaw) = ends_on (is_end (name_takes name _ behind free.is_name free.run.parts)) (is_end (path_takes segments _ _ walk some))
fault_end (suffix segments closes walk some flaw) = is_end (path_takes segments _ _ walk some)
fault_end (division is code) = is_end (one_byte 47 is)
fault_end (coalescing_assignment is code) = ends_on (is_end (two_bytes 63 63 is)) (is_end (first_byte 61 _))
fault_end (stray is behind code) = ends_on (is_end (one_byte behind.first behind.parts)) (run_end behind.run)
