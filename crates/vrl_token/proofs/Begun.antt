-- Each piece and each fault that a text begins with is what its first byte says.
use Rattle.std.proofs.Common.{◌≡◌, ◌≢◌, ℕ, ◌<◌, ◌⊎◌, Bool, true, false, List, [], ◌∷◌, ◌++◌, length, inl, inr, refl, sym, ap, ◌∙◌, subst, arith}
use Rattle.std.specs.Prelude.{codes}
use Rattle.std.specs.List.{Contains}
use Rattle.vrl_value.specs.Laws.{MomentsReadBack}
use Rattle.vrl_path.specs.declared.path.Step.{Step}
use Rattle.vrl_token.specs.declared.piece.Piece.{Piece}
use Rattle.vrl_token.specs.declared.piece.Piece.TheVariants.{Blank, Comment, Newline, Brace, Bar, Word}
use Rattle.vrl_token.specs.declared.token.Hole.{Hole}
use Rattle.vrl_token.specs.declared.token.Token.{Token}
use Rattle.vrl_token.specs.declared.token.Token.TheVariants as token
use Rattle.vrl_token.specs.Lexical.{BeginsInside, IsBlank, IsDigit, IsLongestRun, IsName, IsNamePart, IsNameStart, keywords}
use Rattle.vrl_token.specs.Characters.{Character}
use Rattle.vrl_token.specs.Numbers.{DigitsGoOn, IsBehindSign, IsDigits, IsNumeral}
use Rattle.vrl_token.specs.Paths.{HasFlaw, HasSteps, RootSegments, Segment, Segments}
use Rattle.vrl_token.specs.Context.{closes_before}
use Rattle.vrl_token.specs.Words.{BeginsRaw, BeginsWith, BeginsWithToken, IsCallRest, IsFreeName, IsNameRun, IsNonempty, IsRaw, IsRawLetter, IsTextSpelling, MayHaveSign, NoSegment, NoSuffix}
use Rattle.vrl_token.specs.Pieces.{Begins}
use Rattle.vrl_token.specs.Faults.{IsBehindCharacter, IsFault, IsStray, unclosed_text, unclosed_raw, unknown_escape, template, many_regexes, no_moment, float, joined_number, large_number, event_path, metadata_path, name_path, suffix, division, coalescing_assignment, stray as stray_character}
use Rattle.vrl_token.proofs.SegmentLemmas.{closed_not_unclosed}
use Rattle.vrl_token.proofs.Only.{Lexed, fault, finish, first, piece, second}
use Rattle.vrl_token.proofs.Unique.{digits_begin}
use Rattle.vrl_token.proofs.Beginnings.{inside_apart, not_inside, one_letter, path_begins, root_begins}
use Rattle.vrl_token.proofs.Starts.{FreeWay, IsBangCall, IsSuffixed, NameWay, NumeralWay, RawWay, Start, StepsWay, TextWay, Way, WayOf, ampersand, blank, digit, dot, keyword_of, letter, only_start, percent, question, square, start_blank, start_digit, start_letter, start_of, start_stray, stray, token_of_parts}

-- what the definitions say that the text begins with
abbrev pub Reads : List Piece → List ℕ → Lexed → Type 0
Reads before text (piece p rest) = Begins before p text rest
Reads before text (fault code rest) = IsFault before text code rest
Reads before text finish = text ≡ []

-- what its first byte says
pub record Started (before : List Piece) (text : List ℕ) (a : Lexed) : Type 0 where
  pub way : WayOf before text a

at_start : {before : List Piece} {text : List ℕ} {a : Lexed} (s : Start) (b : ℕ) (bs : List ℕ) → text ≡ b ∷ bs → start_of b ≡ s → Way s before b bs a → Started before text a
at_start {before} {text} {a} s b bs parts is way = record { way = subst (λ t. WayOf before t a) (sym parts) (subst (λ k. Way k before b bs a) (sym is) way) }

at : {before : List Piece} {text : List ℕ} {a : Lexed} (b : ℕ) (bs : List ℕ) → text ≡ b ∷ bs → Way (start_of b) before b bs a → Started before text a
at {before} {text} {a} b bs parts way = at_start (start_of b) b bs parts refl way

-- ---- first bytes

same_fault : {code other : ℕ} {rest last : List ℕ} → code ≡ other → rest ≡ last → fault code rest ≡ fault other last
same_fault {code} {other} {rest} {last} one two = ap (λ c. fault c rest) one ∙ ap (λ t. fault other t) two

-- ---- quotes

text_way : {before : List Piece} {a : Lexed} {text rest : List ℕ} {cs : List Character} → IsTextSpelling text cs rest → TextWay cs rest a → Started before text a
text_way {before} {a} {text} {rest} {cs} is way =
    at 34 is.behind is.parts (second (λ un. closed_not_unclosed (λ h. omega (arith, h)) is.is_quoted un) (record { value = (cs, rest); cut = is.is_quoted; gives = way }))

raw_letter_starts : (b : ℕ) → IsRawLetter b → start_of b ≡ letter
raw_letter_starts b is = start_letter b (elim is [ inl s ↦ inl (inl (omega (arith, s), omega (arith, s))) | inr (inl r) ↦ inl (inl (omega (arith, r), omega (arith, r))) | inr (inr t) ↦ inl (inl (omega (arith, t), omega (arith, t))) ])

raw_way : {before : List Piece} {a : Lexed} {text rest : List ℕ} {cs : List Character} (b : ℕ) → IsRawLetter b → IsRaw b text cs rest → RawWay before b cs rest a → Started before text a
raw_way {before} {a} {text} {rest} {cs} b raw is way =
    at_start letter b (39 ∷ is.behind) is.parts (raw_letter_starts b raw)
    (first (raw, refl) (record { value = is.behind; cut = refl; gives = second (λ un. closed_not_unclosed (λ h. omega (arith, h)) is.is_quoted un) (record { value = (cs, rest); cut = is.is_quoted; gives = way }) }))

-- ---- numbers

sign_way : (before : List Piece) (text rest : List ℕ) (a : Lexed) (negative : Bool) (digits : List ℕ) → MayHaveSign before negative → (unsigned : List ℕ) → IsBehindSign negative text unsigned → unsigned ≡ digits ++ rest → IsDigits digits → ¬ DigitsGoOn rest
    → NumeralWay negative digits rest a → Started before text a
sign_way before text rest a true digits may unsigned sign parts is ends way =
    let begins : BeginsInside IsDigit unsigned = subst (BeginsInside IsDigit) (sym parts) (digits_begin digits rest is) in
    at {before = before} {text = text} {a = a} 45 unsigned sign
    (second (inside_apart IsDigit (λ b. b ≡ 62) unsigned (λ b one two. omega (arith, one.1, two)) begins)
    (second (λ operator. elim operator [ inl operand ↦ (let wrong : true ≡ false = sym operand ∙ may in cc) | inr outside ↦ not_inside IsDigit unsigned outside begins ])
    (record { value = (digits, rest); cut = record { unsigned = unsigned; sign = refl; parts = parts; is_digits = is; ends = ends }; gives = way })))
sign_way before text rest a false [] may unsigned sign parts is ends way = absurd is
sign_way before text rest a false (d ∷ ds) may unsigned sign parts is ends way =
    at_start {before = before} {text = text} {a = a} digit d (ds ++ rest) (sign ∙ parts) (start_digit d (digits_begin (d ∷ ds) [] is))
    (record { value = (d ∷ ds, rest); cut = record { unsigned = d ∷ (ds ++ rest); sign = refl; parts = refl; is_digits = is; ends = ends }; gives = way })

numeral_way : {before : List Piece} {a : Lexed} {text digits rest : List ℕ} (negative : Bool) → MayHaveSign before negative → IsNumeral negative text digits rest → NumeralWay negative digits rest a → Started before text a
numeral_way {before} {a} {text} {digits} {rest} negative may is way = sign_way before text rest a negative digits may is.unsigned is.sign is.parts is.is_digits is.ends way

-- ---- names

named_way : {before : List Piece} {a : Lexed} {text rest : List ℕ} (name : List ℕ) → IsName name → IsLongestRun IsNamePart text name rest → ¬ BeginsRaw text → NameWay name rest a → Started before text a
named_way [] is run none way = absurd is
named_way {before} {a} {text} {rest} (b ∷ bs) is run none way =
    at_start letter b (bs ++ rest) run.parts (start_letter b is.0)
    (second (λ raw. none (subst BeginsRaw (sym run.parts) raw))
    (record { value = (b ∷ bs, rest); cut = record { is_name = is; run = record { parts = refl; passes = run.passes; ends = run.ends } }; gives = way }))

keyword_way : {before : List Piece} {text rest : List ℕ} (name : List ℕ) (t : Token) → keyword_of name ≡ t → length name ≢ 1 → Contains keywords name → IsNameRun text name rest → Started before text (piece (Word t) rest)
keyword_way {before} {text} {rest} name t is long has run =
    named_way name run.is_name run.run (λ raw. long (one_letter name text rest run.is_name run.run raw).0) (first has (ap (λ k. piece (Word k) rest) (sym is)))

-- a name that is no keyword, with no quote behind it
free_way : {before : List Piece} {a : Lexed} {text name rest : List ℕ} → IsFreeName text name rest → ¬ BeginsWith 39 rest → FreeWay name rest a → Started before text a
free_way {before} {a} {text} {name} {rest} free none way = named_way name free.is_name free.run (λ raw. none (one_letter name text rest free.is_name free.run raw).1) (second free.free way)

paren_calls : (text : List ℕ) → BeginsWith 40 text → IsCallRest text
paren_calls [] begins = begins
paren_calls (b ∷ bs) begins = inl begins

bang_calls : (text : List ℕ) → IsBangCall text → IsCallRest text
bang_calls [] bang = bang
bang_calls (b ∷ bs) bang = inr bang

bang_begins : (text : List ℕ) → IsBangCall text → BeginsWith 33 text
bang_begins [] bang = bang
bang_begins (b ∷ bs) bang = bang.0

-- ---- paths

some_segment : (text : List ℕ) (segments : List Segment) (rest : List ℕ) → Segments text segments rest → IsNonempty segments → ¬ NoSegment text
some_segment text [] rest walk some none = some
some_segment text (s ∷ ss) rest walk some none = none s walk.0 walk.1

steps_way : (make : List Step → Token) (segments : List Segment) (steps : List Step) (rest : List ℕ) → HasSteps segments steps → StepsWay make segments rest (piece (Word (make steps)) rest)
steps_way make segments steps rest has = first has.readable (first has.in_range (ap (λ p. piece (Word (make p)) rest) has.gives))

flaw_way : (make : List Step → Token) (segments : List Segment) (code : ℕ) (rest : List ℕ) → HasFlaw segments code → StepsWay make segments rest (fault code rest)
flaw_way make segments code rest (inl escape) = second escape.1 (same_fault escape.0 refl)
flaw_way make segments code rest (inr range) = first range.1 (second range.2 (same_fault range.0 refl))

name_path_way : {before : List Piece} {a : Lexed} {text behind rest : List ℕ} (name : List ℕ) (segments : List Segment) → IsFreeName text name behind → Segments behind segments rest → IsNonempty segments
    → StepsWay (λ path. token.NamePath name path) segments rest a → Started before text a
name_path_way {before} {a} {text} {behind} {rest} name segments free walk some way =
    let begins = path_begins behind segments rest walk some in
    free_way free (inside_apart (λ b. (b ≡ 46) ⊎ (b ≡ 91)) (λ b. b ≡ 39) behind (λ b one two. grind (arith, one, two)) begins)
    (second (inside_apart (λ b. (b ≡ 46) ⊎ (b ≡ 91)) (λ b. b ≡ 40) behind (λ b one two. grind (arith, one, two)) begins)
    (second (λ bang. inside_apart (λ b. (b ≡ 46) ⊎ (b ≡ 91)) (λ b. b ≡ 33) behind (λ b one two. grind (arith, one, two)) begins (bang_begins behind bang))
    (second (some_segment behind segments rest walk some) (record { value = (segments, rest); cut = walk; gives = way }))))

suffix_way : {before : List Piece} {a : Lexed} (text : List ℕ) {rest : List ℕ} (segments : List Segment) → closes_before before ≡ true → Segments text segments rest → IsNonempty segments → StepsWay (λ path. token.Suffix path) segments rest a → Started before text a
suffix_way [] {rest} segments closes walk some way = absurd (path_begins [] segments rest walk some)
suffix_way {before} {a} (b ∷ bs) {rest} segments closes walk some way =
    elim (path_begins (b ∷ bs) segments rest walk some) [
      | inl mark ↦ at_start dot b bs refl (ap start_of mark) (first (closes, some_segment (b ∷ bs) segments rest walk some) (record { value = (segments, rest); cut = walk; gives = way }))
      | inr mark ↦ at_start square b bs refl (ap start_of mark) (first (closes, some_segment (b ∷ bs) segments rest walk some) (record { value = (segments, rest); cut = walk; gives = way }))
    ]

no_suffix : (before : List Piece) (text : List ℕ) → NoSuffix before text → ¬ IsSuffixed before text
no_suffix before text (inl open_operand) suffixed = let wrong : true ≡ false = sym suffixed.0 ∙ open_operand in cc
no_suffix before text (inr none) suffixed = suffixed.1 none

event_way : {before : List Piece} {a : Lexed} (text : List ℕ) {rest : List ℕ} (segments : List Segment) → RootSegments 46 text segments rest → NoSuffix before text → StepsWay (λ path. token.EventPath path) segments rest a → Started before text a
event_way [] {rest} segments walk none way = absurd (root_begins 46 [] segments rest walk)
event_way {before} {a} (b ∷ bs) {rest} segments walk none way =
    at_start dot b bs refl (ap start_of (root_begins 46 (b ∷ bs) segments rest walk)) (second (no_suffix before (b ∷ bs) none) (record { value = (segments, rest); cut = walk; gives = way }))

metadata_way : {before : List Piece} {a : Lexed} (text : List ℕ) {rest : List ℕ} (segments : List Segment) → RootSegments 37 text segments rest → StepsWay (λ path. token.MetadataPath path) segments rest a → Started before text a
metadata_way [] {rest} segments walk way = absurd (root_begins 37 [] segments rest walk)
metadata_way {before} {a} (b ∷ bs) {rest} segments walk way =
    at_start percent b bs refl (ap start_of (root_begins 37 (b ∷ bs) segments rest walk)) (record { value = (segments, rest); cut = walk; gives = way })

-- ---- tokens

template_of : (f : List ℕ) (hs : List Hole) → 0 < length hs → token.Template f hs ≡ token_of_parts f hs
template_of f [] some = absurd (omega arith)
template_of f (h ∷ hs) some = refl

token_started : (before : List Piece) (t : Token) (text rest : List ℕ) → BeginsWithToken before t text rest → Started before text (piece (Word t) rest)
token_started before (token.Text v) text rest is = text_way is.1 (first is.2 (first (v, [], is.3) (record { value = (v, []); cut = is.3; gives = refl })))
token_started before (token.Template f hs) text rest is =
    text_way is.1 (first is.2 (first (f, hs, is.3) (record { value = (f, hs); cut = is.3; gives = ap (λ t. piece (Word t) rest) (template_of f hs is.4) })))
token_started before (token.RawText v) text rest is = raw_way 115 (inl refl) is.1 (first refl (ap (λ s. piece (Word (token.RawText s)) rest) is.2))
token_started before (token.Regex v) text rest is = raw_way 114 (inr (inl refl)) is.1 (second (λ h. omega (arith, h)) (first refl (first is.3 (ap (λ s. piece (Word (token.Regex s)) rest) is.2))))
token_started before (token.Timestamp m) text rest is = raw_way 116 (inr (inr refl)) is.1 (second (λ h. omega (arith, h)) (second (λ h. omega (arith, h)) (first (m, is.2) (record { value = m; cut = is.2; gives = refl }))))
token_started before (token.Number n) text rest is =
    numeral_way is.0 is.2.sign is.2.numeral (second (λ f. is.2.whole f.0 f.1) (second (not_inside IsNameStart rest is.3) (first (n, is.4) (record { value = n; cut = is.4; gives = refl }))))
token_started before token.True text rest is = keyword_way (codes "true") token.True refl (λ h. omega (arith, h)) (4, omega arith, refl) is
token_started before token.False text rest is = keyword_way (codes "false") token.False refl (λ h. omega (arith, h)) (5, omega arith, refl) is
token_started before token.Null text rest is = keyword_way (codes "null") token.Null refl (λ h. omega (arith, h)) (6, omega arith, refl) is
token_started before token.If text rest is = keyword_way (codes "if") token.If refl (λ h. omega (arith, h)) (0, omega arith, refl) is
token_started before token.Else text rest is = keyword_way (codes "else") token.Else refl (λ h. omega (arith, h)) (1, omega arith, refl) is
token_started before token.Abort text rest is = keyword_way (codes "abort") token.Abort refl (λ h. omega (arith, h)) (2, omega arith, refl) is
token_started before token.Return text rest is = keyword_way (codes "return") token.Return refl (λ h. omega (arith, h)) (3, omega arith, refl) is
token_started before (token.Name name) text rest is =
    named_way name is.0.is_name is.0.run is.1 (second is.0.free (second (λ h. is.2 (paren_calls rest h)) (second (λ h. is.2 (bang_calls rest h)) (first is.3 refl))))
token_started before (token.Function name) text rest is = free_way is.0 (inside_apart (λ b. b ≡ 40) (λ b. b ≡ 39) rest (λ b one two. omega (arith, one, two)) is.1) (first is.1 refl)
token_started before (token.BangFunction name) text rest is =
    free_way is.0 (λ h. omega (arith, h)) (second (λ h. omega (arith, h)) (first (refl, is.1) (record { value = rest; cut = refl; gives = refl })))
token_started before (token.EventPath p) text rest is = event_way text is.0 is.1 is.3 (steps_way (λ path. token.EventPath path) is.0 p rest is.2)
token_started before (token.MetadataPath p) text rest is = metadata_way text is.0 is.1 (steps_way (λ path. token.MetadataPath path) is.0 p rest is.2)
token_started before (token.NamePath name p) text rest is = name_path_way name is.1 is.2 is.3 is.4 (steps_way (λ path. token.NamePath name path) is.1 p rest is.5)
token_started before (token.Suffix p) text rest is = suffix_way text is.0 is.1 is.2 is.3 (steps_way (λ path. token.Suffix path) is.0 p rest is.4)
token_started before token.Assign text rest is = at 61 rest is.0 (second (not_inside (λ b. b ≡ 61) rest is.1) refl)
token_started before token.MergeAssign text rest is = at 124 (61 ∷ rest) is (first refl (record { value = rest; cut = refl; gives = refl }))
token_started before token.Coalesce text rest is = at 63 (63 ∷ rest) is.0 (first refl (record { value = rest; cut = refl; gives = second (not_inside (λ b. b ≡ 61) rest is.1) refl }))
token_started before token.Or text rest is = at 124 (124 ∷ rest) is (second (λ h. omega (arith, h)) (first refl (record { value = rest; cut = refl; gives = refl })))
token_started before token.And text rest is = at 38 (38 ∷ rest) is (first refl (record { value = rest; cut = refl; gives = refl }))
token_started before token.Equal text rest is = at 61 (61 ∷ rest) is (first refl (record { value = rest; cut = refl; gives = refl }))
token_started before token.Unequal text rest is = at 33 (61 ∷ rest) is (first refl (record { value = rest; cut = refl; gives = refl }))
token_started before token.Less text rest is = at 60 rest is.0 (second (not_inside (λ b. b ≡ 61) rest is.1) refl)
token_started before token.AtMost text rest is = at 60 (61 ∷ rest) is (first refl (record { value = rest; cut = refl; gives = refl }))
token_started before token.More text rest is = at 62 rest is.0 (second (not_inside (λ b. b ≡ 61) rest is.1) refl)
token_started before token.AtLeast text rest is = at 62 (61 ∷ rest) is (first refl (record { value = rest; cut = refl; gives = refl }))
token_started before token.Merge text rest is = absurd is
token_started before token.Plus text rest is = at 43 rest is refl
token_started before token.Minus text rest is = at 45 rest is.0 (second (not_inside (λ b. b ≡ 62) rest is.1) (first is.2 refl))
token_started before token.Times text rest is = at 42 rest is refl
token_started before token.Not text rest is = at 33 rest is.0 (second (not_inside (λ b. b ≡ 61) rest is.1) refl)
token_started before token.OpenParenthesis text rest is = at 40 rest is refl
token_started before token.CloseParenthesis text rest is = at 41 rest is refl
token_started before token.OpenBracket text rest is = at 91 rest is.0 (second (no_suffix before (91 ∷ rest) (subst (NoSuffix before) is.0 is.1)) refl)
token_started before token.CloseBracket text rest is = at 93 rest is refl
token_started before token.OpenBlock text rest is = absurd is
token_started before token.OpenObject text rest is = absurd is
token_started before token.CloseBrace text rest is = at 125 rest is refl
token_started before token.OpenBars text rest is = absurd is
token_started before token.CloseBars text rest is = absurd is
token_started before token.Comma text rest is = at 44 rest is refl
token_started before token.Colon text rest is = at 58 rest is refl
token_started before token.Arrow text rest is = at 45 (62 ∷ rest) is (first refl (record { value = rest; cut = refl; gives = refl }))
token_started before token.Separator text rest is = at 59 rest is refl

-- ---- pieces

blank_way : {before : List Piece} {text rest : List ℕ} (gap : List ℕ) → 0 < length gap → IsLongestRun IsBlank text gap rest → Started before text (piece Blank rest)
blank_way [] some run = absurd (omega arith)
blank_way {before} {text} {rest} (b ∷ bs) some run =
    at_start blank b (bs ++ rest) run.parts (start_blank b run.passes.0) (record { value = (b ∷ bs, rest); cut = record { parts = refl; passes = run.passes; ends = run.ends }; gives = refl })

piece_started : (before : List Piece) (p : Piece) (text rest : List ℕ) → Begins before p text rest → Started before text (piece p rest)
piece_started before Blank text rest is = blank_way is.gap is.some is.run
piece_started before Comment text rest is = at 35 is.behind is.parts (record { value = (is.remark, rest); cut = is.run; gives = refl })
piece_started before Newline text rest is = at 10 rest is refl
piece_started before Brace text rest is = at 123 rest is refl
piece_started before Bar text rest is = at 124 rest is.0 (second (not_inside (λ b. b ≡ 61) rest is.1) (second (not_inside (λ b. b ≡ 124) rest is.2) refl))
piece_started before (Word t) text rest is = token_started before t text rest is

-- ---- faults

stray_way : {before : List Piece} {text rest : List ℕ} {code : ℕ} (behind : IsBehindCharacter text rest) → IsStray (behind.first ∷ behind.behind) → code ≡ 203 → Started before text (fault code rest)
stray_way {before} {text} {rest} {code} behind is_stray is =
    elim is_stray [
      | inl none ↦ at_start stray behind.first behind.behind behind.parts (start_stray behind.first none) (record { value = (behind.others, rest); cut = behind.run; gives = same_fault is refl })
      | inr (inl mark) ↦
          at_start question behind.first behind.behind behind.parts (ap start_of mark.0)
          (second (not_inside (λ b. b ≡ 63) behind.behind mark.1) (record { value = (behind.others, rest); cut = behind.run; gives = same_fault is refl }))
      | inr (inr mark) ↦
          at_start ampersand behind.first behind.behind behind.parts (ap start_of mark.0)
          (second (not_inside (λ b. b ≡ 38) behind.behind mark.1) (record { value = (behind.others, rest); cut = behind.run; gives = same_fault is refl }))
    ]

fault_started : {before : List Piece} {text rest : List ℕ} {code : ℕ} → IsFault before text code rest → Started before text (fault code rest)
fault_started (unclosed_text behind parts un none code) = at 34 behind parts (first un (same_fault code none))
fault_started (unclosed_raw b behind raw parts un none code) =
    at_start letter b (39 ∷ behind) parts (raw_letter_starts b raw) (first (raw, refl) (record { value = behind; cut = refl; gives = first un (same_fault code none) }))
fault_started (unknown_escape cs is bad code) = text_way is (second bad (same_fault code refl))
fault_started (template cs is known malformed code) = text_way is (first known (second malformed (same_fault code refl)))
fault_started (many_regexes cs is many code) = raw_way 114 (inr (inl refl)) is (second (λ h. omega (arith, h)) (first refl (second (λ h. omega (arith, h, many)) (same_fault code refl))))
fault_started (no_moment cs is none code) = raw_way 116 (inr (inr refl)) is (second (λ h. omega (arith, h)) (second (λ h. omega (arith, h)) (second (λ h. none h.0 h.1) (same_fault code refl))))
fault_started {before} {text} {rest} (float negative digits behind may is tail code) = numeral_way negative may is (first (rest, tail) (record { value = rest; cut = tail; gives = same_fault code refl }))
fault_started (joined_number negative digits is joined code) = numeral_way negative is.sign is.numeral (second (λ f. is.whole f.0 f.1) (first joined (same_fault code refl)))
fault_started {before} {text} {rest} (large_number negative digits is apart large code) =
    numeral_way negative is.sign is.numeral (second (λ f. is.whole f.0 f.1) (second (not_inside IsNameStart rest apart) (second (λ h. large h.0 h.1) (same_fault code refl))))
fault_started {before} {text} {rest} {code} (event_path segments walk apart flaw) = event_way text segments walk apart (flaw_way (λ path. token.EventPath path) segments code rest flaw)
fault_started {before} {text} {rest} {code} (metadata_path segments walk flaw) = metadata_way text segments walk (flaw_way (λ path. token.MetadataPath path) segments code rest flaw)
fault_started {before} {text} {rest} {code} (name_path name behind segments free walk some flaw) = name_path_way name segments free walk some (flaw_way (λ path. token.NamePath name path) segments code rest flaw)
fault_started {before} {text} {rest} {code} (suffix segments closes walk some flaw) = suffix_way text segments closes walk some (flaw_way (λ path. token.Suffix path) segments code rest flaw)
fault_started {before} {text} {rest} (division is code) = at 47 rest is (same_fault code refl)
fault_started {before} {text} {rest} (coalescing_assignment is code) =
    at 63 (63 ∷ 61 ∷ rest) is (first refl (record { value = 61 ∷ rest; cut = refl; gives = first refl (record { value = rest; cut = refl; gives = same_fault code refl }) }))
fault_started (stray_character is behind code) = stray_way behind (subst IsStray behind.parts is) code

started : (before : List Piece) (text : List ℕ) (a : Lexed) → Reads before text a → WayOf before text a
started before text (piece p rest) is = (piece_started before p text rest is).way
started before text (fault code rest) is = (fault_started is).way
started before text finish is = subst (λ t. WayOf before t finish) (sym is) refl

-- a text begins with one piece, or one fault, or it is at its end
pub one_start : MomentsReadBack → (before : List Piece) (text : List ℕ) (a b : Lexed) → Reads before text a → Reads before text b → a ≡ b
one_start law before text a b one two = only_start law before text a b (started before text a one) (started before text b two)
