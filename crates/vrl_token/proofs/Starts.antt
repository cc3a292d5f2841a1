-- What a text begins with, by its first byte.
use Rattle.std.proofs.Common.{◌≡◌, ◌≢◌, ℕ, ◌<◌, ◌⊎◌, ◌==◌, if◌then◌else◌, ℤ, Bool, true, false, ◌&&◌, ◌||◌, List, [], ◌∷◌, inl, inr, refl, sym, ap, ◌∙◌, arith}
use Rattle.std.proofs.Math.Dec.{ltb}
use Rattle.std.proofs.lemmas.Bool.Decides.{Decides-and, Decides-eqb, Decides-like, Decides-ltb, Decides-or}
use Rattle.std.specs.Bool.{Decides}
use Rattle.std.specs.List.{AllByRecursion, Contains}
use Rattle.vrl_value.specs.Laws.{MomentsReadBack}
use Rattle.vrl_value.specs.Rfc3339.{IsReading}
use Rattle.vrl_path.specs.declared.path.Step.{Step}
use Rattle.vrl_token.specs.declared.piece.Piece.{Piece}
use Rattle.vrl_token.specs.declared.piece.Piece.TheVariants.{Blank, Comment, Newline, Brace, Bar, Word}
use Rattle.vrl_token.specs.declared.token.Token.{Token}
use Rattle.vrl_token.specs.declared.token.Token.TheVariants as token
use Rattle.vrl_token.specs.Lexical.{BeginsInside, BeginsOutside, IsBlank, IsDigit, IsLongestRun, IsNameStart, keywords}
use Rattle.vrl_token.specs.Characters.{Character, IsKnown, IsQuoted, IsUnclosed, raw_of}
use Rattle.vrl_token.specs.Templates.{IsParted, IsWellFormed}
use Rattle.vrl_token.specs.declared.token.Hole.{Hole}
use Rattle.vrl_token.specs.Numbers.{IsFloat, IsNumber, IsNumeral}
use Rattle.vrl_token.specs.Paths.{IsInRange, IsReadable, RootSegments, Segment, Segments, steps_of}
use Rattle.vrl_token.specs.Context.{closes_before, operand_before, regexes_before}
use Rattle.vrl_token.specs.Words.{BeginsRaw, BeginsWith, IsNameRun, NoSegment}
use Rattle.vrl_token.specs.Faults.{IsContinuation, IsStart}
use Rattle.vrl_token.proofs.Runs.{same_longest_run}
use Rattle.vrl_token.proofs.Only.{Branch, Is, OnlyOne, Lexed, With, fault, finish, only_branch, only_is, only_with, piece, same_pair}
use Rattle.vrl_token.proofs.Parting.{same_parted}
use Rattle.vrl_token.proofs.Unique.{same_float, same_numeral, same_quoted, same_root, same_segments, tails}

abbrev word : Token → List ℕ → Lexed
word t rest = piece (Word t) rest

-- ---- texts

-- the token of a text, from its first part and its variables
abbrev pub token_of_parts : List ℕ → List Hole → Token
token_of_parts first [] = token.Text first
token_of_parts first (hole ∷ holes) = token.Template first (hole ∷ holes)

abbrev pub PartedWay : List Character → List ℕ → Lexed → Type 0
PartedWay cs rest = With (List ℕ × List Hole) (λ p. IsParted cs p.0 p.1) (λ p. Is (word (token_of_parts p.0 p.1) rest))

abbrev pub TextWay : List Character → List ℕ → Lexed → Type 0
TextWay cs rest = Branch (AllByRecursion IsKnown cs) (Branch (IsWellFormed cs) (PartedWay cs rest) (Is (fault 1016 rest))) (Is (fault 203 rest))

abbrev pub QuoteWay : List ℕ → Lexed → Type 0
QuoteWay behind = Branch (IsUnclosed 34 behind) (Is (fault 203 [])) (With (List Character × List ℕ) (λ c. IsQuoted 34 behind c.0 c.1) (λ c. TextWay c.0 c.1))

only_quoted : (quote : ℕ) (behind : List ℕ) → quote ≢ 92 → (c d : List Character × List ℕ) → IsQuoted quote behind c.0 c.1 → IsQuoted quote behind d.0 d.1 → c ≡ d
only_quoted quote behind other c d one two = let same = same_quoted other one two in same_pair c d same.0 same.1

only_parted : (cs : List Character) (p q : List ℕ × List Hole) → IsParted cs p.0 p.1 → IsParted cs q.0 q.1 → p ≡ q
only_parted cs p q one two = let same = same_parted cs p.0 q.0 p.1 q.1 one two in same_pair p q same.0 same.1

only_text : (c : List Character × List ℕ) → OnlyOne (TextWay c.0 c.1)
only_text c = only_branch _ _ _ (only_branch _ _ _ (only_with _ _ _ (only_parted c.0) (λ p. only_is _)) (only_is _)) (only_is _)

only_quote : (behind : List ℕ) → OnlyOne (QuoteWay behind)
only_quote behind = only_branch _ _ _ (only_is _) (only_with _ _ _ (only_quoted 34 behind (λ h. omega (arith, h))) only_text)

-- ---- raw texts, regexes and timestamps

abbrev pub HasMoment : List Character → Type 0
HasMoment cs = (moment : ℤ) × IsReading (raw_of cs) moment

abbrev pub RawWay : List Piece → ℕ → List Character → List ℕ → Lexed → Type 0
RawWay before letter cs rest =
    Branch (letter ≡ 115) (Is (word (token.RawText (raw_of cs)) rest))
    (Branch (letter ≡ 114) (Branch (regexes_before before < 256) (Is (word (token.Regex (raw_of cs)) rest)) (Is (fault 1016 rest)))
    (Branch (HasMoment cs) (With ℤ (IsReading (raw_of cs)) (λ m. Is (word (token.Timestamp m) rest))) (Is (fault 1014 rest))))

abbrev pub ClosedWay : List Piece → ℕ → List ℕ → Lexed → Type 0
ClosedWay before letter behind = Branch (IsUnclosed 39 behind) (Is (fault 203 [])) (With (List Character × List ℕ) (λ c. IsQuoted 39 behind c.0 c.1) (λ c. RawWay before letter c.0 c.1))

only_raw : MomentsReadBack → (before : List Piece) (letter : ℕ) (c : List Character × List ℕ) → OnlyOne (RawWay before letter c.0 c.1)
only_raw law before letter c =
    only_branch _ _ _ (only_is _)
    (only_branch _ _ _ (only_branch _ _ _ (only_is _) (only_is _))
    (only_branch _ _ _ (only_with _ _ _ (law.one_reading (raw_of c.0)) (λ m. only_is _)) (only_is _)))

only_closed : MomentsReadBack → (before : List Piece) (letter : ℕ) (behind : List ℕ) → OnlyOne (ClosedWay before letter behind)
only_closed law before letter behind = only_branch _ _ _ (only_is _) (only_with _ _ _ (only_quoted 39 behind (λ h. omega (arith, h))) (only_raw law before letter))

-- ---- paths

abbrev pub StepsWay : (List Step → Token) → List Segment → List ℕ → Lexed → Type 0
StepsWay make ss rest = Branch (AllByRecursion IsReadable ss) (Branch (AllByRecursion IsInRange ss) (Is (word (make (steps_of ss)) rest)) (Is (fault 1002 rest))) (Is (fault 203 rest))

only_steps : (make : List Step → Token) (c : List Segment × List ℕ) → OnlyOne (StepsWay make c.0 c.1)
only_steps make c = only_branch _ _ _ (only_branch _ _ _ (only_is _) (only_is _)) (only_is _)

abbrev pub PathWay : (List Step → Token) → List ℕ → Lexed → Type 0
PathWay make text = With (List Segment × List ℕ) (λ c. Segments text c.0 c.1) (λ c. StepsWay make c.0 c.1)

only_path : (make : List Step → Token) (text : List ℕ) → OnlyOne (PathWay make text)
only_path make text = only_with _ _ _ (λ c d one two. let same = same_segments text c.0 d.0 c.1 d.1 one two in same_pair c d same.0 same.1) (only_steps make)

abbrev pub RootWay : ℕ → (List Step → Token) → List ℕ → Lexed → Type 0
RootWay sign make text = With (List Segment × List ℕ) (λ c. RootSegments sign text c.0 c.1) (λ c. StepsWay make c.0 c.1)

only_root : (sign : ℕ) (make : List Step → Token) (text : List ℕ) → OnlyOne (RootWay sign make text)
only_root sign make text = only_with _ _ _ (λ c d one two. let same = same_root sign text c.0 d.0 c.1 d.1 one two in same_pair c d same.0 same.1) (only_steps make)

abbrev pub EventWay : List ℕ → Lexed → Type 0
EventWay text = RootWay 46 (λ path. token.EventPath path) text

abbrev pub MetadataWay : List ℕ → Lexed → Type 0
MetadataWay text = RootWay 37 (λ path. token.MetadataPath path) text

-- a suffix begins here
abbrev pub IsSuffixed : List Piece → List ℕ → Type 0
IsSuffixed before text = (closes_before before ≡ true) × (¬ NoSegment text)

abbrev pub SuffixWay : List ℕ → Lexed → Type 0
SuffixWay text = PathWay (λ path. token.Suffix path) text

-- ---- names

-- the keyword that is spelled so
abbrev pub keyword_of : List ℕ → Token
keyword_of [] = token.Null
keyword_of (b ∷ bs) = if b == 116 then token.True else if b == 102 then token.False else if b == 105 then token.If else if b == 101 then token.Else else if b == 97 then token.Abort else if b == 114 then token.Return else token.Null

abbrev pub IsBangCall : List ℕ → Type 0
IsBangCall [] = ⊥
IsBangCall (b ∷ bs) = (b ≡ 33) × BeginsWith 40 bs

abbrev pub FreeWay : List ℕ → List ℕ → Lexed → Type 0
FreeWay name behind =
    Branch (BeginsWith 40 behind) (Is (word (token.Function name) behind))
    (Branch (IsBangCall behind) (With (List ℕ) (λ t. behind ≡ 33 ∷ t) (λ t. Is (word (token.BangFunction name) t)))
    (Branch (NoSegment behind) (Is (word (token.Name name) behind)) (PathWay (λ path. token.NamePath name path) behind)))

abbrev pub NameWay : List ℕ → List ℕ → Lexed → Type 0
NameWay name rest = Branch (Contains keywords name) (Is (word (keyword_of name) rest)) (FreeWay name rest)

abbrev pub NamedWay : List ℕ → Lexed → Type 0
NamedWay text = With (List ℕ × List ℕ) (λ c. IsNameRun text c.0 c.1) (λ c. NameWay c.0 c.1)

same_tail : (b : ℕ) (behind : List ℕ) (t u : List ℕ) → behind ≡ b ∷ t → behind ≡ b ∷ u → t ≡ u
same_tail b behind t u one two = tails (sym one ∙ two)

only_free : (name behind : List ℕ) → OnlyOne (FreeWay name behind)
only_free name behind =
    only_branch _ _ _ (only_is _)
    (only_branch _ _ _ (only_with _ _ _ (same_tail 33 behind) (λ t. only_is _))
    (only_branch _ _ _ (only_is _) (only_path (λ path. token.NamePath name path) behind)))

only_named : (text : List ℕ) → OnlyOne (NamedWay text)
only_named text = only_with _ _ _ (λ c d one two. let same = same_longest_run one.run two.run in same_pair c d same.0 same.1) (λ c. only_branch _ _ _ (only_is _) (only_free c.0 c.1))

abbrev pub LetterWay : List Piece → ℕ → List ℕ → Lexed → Type 0
LetterWay before letter behind = Branch (BeginsRaw (letter ∷ behind)) (With (List ℕ) (λ t. behind ≡ 39 ∷ t) (ClosedWay before letter)) (NamedWay (letter ∷ behind))

only_letter : MomentsReadBack → (before : List Piece) (letter : ℕ) (behind : List ℕ) → OnlyOne (LetterWay before letter behind)
only_letter law before letter behind = only_branch _ _ _ (only_with _ _ _ (same_tail 39 behind) (only_closed law before letter)) (only_named (letter ∷ behind))

-- ---- numbers

abbrev pub HasFloat : List ℕ → Type 0
HasFloat behind = (last : List ℕ) × IsFloat behind last

abbrev pub HasNumber : Bool → List ℕ → Type 0
HasNumber negative digits = (number : ℤ) × IsNumber negative digits number

abbrev pub NumeralWay : Bool → List ℕ → List ℕ → Lexed → Type 0
NumeralWay negative digits behind =
    Branch (HasFloat behind) (With (List ℕ) (IsFloat behind) (λ t. Is (fault 1001 t)))
    (Branch (BeginsInside IsNameStart behind) (Is (fault 203 behind))
    (Branch (HasNumber negative digits) (With ℤ (IsNumber negative digits) (λ n. Is (word (token.Number n) behind))) (Is (fault 1002 behind))))

abbrev pub NumberWay : Bool → List ℕ → Lexed → Type 0
NumberWay negative unsigned = With (List ℕ × List ℕ) (λ c. IsNumeral false unsigned c.0 c.1) (λ c. NumeralWay negative c.0 c.1)

only_numeral : (negative : Bool) (c : List ℕ × List ℕ) → OnlyOne (NumeralWay negative c.0 c.1)
only_numeral negative c =
    only_branch _ _ _ (only_with _ _ _ (same_float c.1) (λ t. only_is _))
    (only_branch _ _ _ (only_is _)
    (only_branch _ _ _ (only_with _ _ _ (λ n m one two. one.value ∙ sym two.value) (λ n. only_is _)) (only_is _)))

only_number : (negative : Bool) (unsigned : List ℕ) → OnlyOne (NumberWay negative unsigned)
only_number negative unsigned = only_with _ _ _ (λ c d one two. let same = same_numeral one two in same_pair c d same.0 same.1) (only_numeral negative)

-- ---- signs

-- the text goes on with this byte, or it doesn't
abbrev pub NextWay : ℕ → (List ℕ → Lexed → Type 0) → (Lexed → Type 0) → List ℕ → Lexed → Type 0
NextWay b P Q behind = Branch (BeginsWith b behind) (With (List ℕ) (λ t. behind ≡ b ∷ t) P) Q

only_next : (b : ℕ) (P : List ℕ → Lexed → Type 0) (Q : Lexed → Type 0) (behind : List ℕ) → ((t : List ℕ) → OnlyOne (P t)) → OnlyOne Q → OnlyOne (NextWay b P Q behind)
only_next b P Q behind p q = only_branch _ _ _ (only_with _ _ _ (same_tail b behind) p) q

abbrev pub StrayWay : List ℕ → Lexed → Type 0
StrayWay behind = With (List ℕ × List ℕ) (λ c. IsLongestRun IsContinuation behind c.0 c.1) (λ c. Is (fault 203 c.1))

abbrev pub JoinWay : Token → Token → List ℕ → Lexed → Type 0
JoinWay joined alone behind = NextWay 61 (λ t. Is (word joined t)) (Is (word alone behind)) behind

abbrev pub BarWay : List ℕ → Lexed → Type 0
BarWay behind = NextWay 61 (λ t. Is (word token.MergeAssign t)) (NextWay 124 (λ t. Is (word token.Or t)) (Is (piece Bar behind)) behind) behind

abbrev pub QuestionWay : List ℕ → Lexed → Type 0
QuestionWay behind = NextWay 63 (λ t. NextWay 61 (λ u. Is (fault 1003 u)) (Is (word token.Coalesce t)) t) (StrayWay behind) behind

abbrev pub AmpersandWay : List ℕ → Lexed → Type 0
AmpersandWay behind = NextWay 38 (λ t. Is (word token.And t)) (StrayWay behind) behind

abbrev pub IsOperator : List Piece → List ℕ → Type 0
IsOperator before behind = (operand_before before ≡ true) ⊎ BeginsOutside IsDigit behind

abbrev pub MinusWay : List Piece → List ℕ → Lexed → Type 0
MinusWay before behind = NextWay 62 (λ t. Is (word token.Arrow t)) (Branch (IsOperator before behind) (Is (word token.Minus behind)) (NumberWay true behind)) behind

only_run : (P : ℕ → Type 0) (text : List ℕ) (c d : List ℕ × List ℕ) → IsLongestRun P text c.0 c.1 → IsLongestRun P text d.0 d.1 → c ≡ d
only_run P text c d one two = let same = same_longest_run one two in same_pair c d same.0 same.1

only_stray : (behind : List ℕ) → OnlyOne (StrayWay behind)
only_stray behind = only_with _ _ _ (only_run IsContinuation behind) (λ c. only_is _)

-- ---- starts

-- what a first byte says
pub data Start : Type 0 where
  blank : Start
  newline : Start
  remark : Start
  brace : Start
  bar : Start
  quote : Start
  letter : Start
  digit : Start
  minus : Start
  dot : Start
  percent : Start
  square : Start
  question : Start
  ampersand : Start
  refused : Start
  stray : Start
  -- a sign of one character, and one that may go on with `=`
  single : Token → Start
  joins : Token → Token → Start

abbrev pub Way : Start → List Piece → ℕ → List ℕ → Lexed → Type 0
Way blank before b bs = With (List ℕ × List ℕ) (λ c. IsLongestRun IsBlank (b ∷ bs) c.0 c.1) (λ c. Is (piece Blank c.1))
Way newline before b bs = Is (piece Newline bs)
Way remark before b bs = With (List ℕ × List ℕ) (λ c. IsLongestRun (λ x. x ≢ 10) bs c.0 c.1) (λ c. Is (piece Comment c.1))
Way brace before b bs = Is (piece Brace bs)
Way bar before b bs = BarWay bs
Way quote before b bs = QuoteWay bs
Way letter before b bs = LetterWay before b bs
Way digit before b bs = NumberWay false (b ∷ bs)
Way minus before b bs = MinusWay before bs
Way dot before b bs = Branch (IsSuffixed before (b ∷ bs)) (SuffixWay (b ∷ bs)) (EventWay (b ∷ bs))
Way percent before b bs = MetadataWay (b ∷ bs)
Way square before b bs = Branch (IsSuffixed before (b ∷ bs)) (SuffixWay (b ∷ bs)) (Is (word token.OpenBracket bs))
Way question before b bs = QuestionWay bs
Way ampersand before b bs = AmpersandWay bs
Way refused before b bs = Is (fault 1003 bs)
Way stray before b bs = StrayWay bs
Way (single t) before b bs = Is (word t bs)
Way (joins joined alone) before b bs = JoinWay joined alone bs

only_way : MomentsReadBack → (s : Start) (before : List Piece) (b : ℕ) (bs : List ℕ) → OnlyOne (Way s before b bs)
only_way law blank before b bs = only_with _ _ _ (only_run IsBlank (b ∷ bs)) (λ c. only_is _)
only_way law newline before b bs = only_is _
only_way law remark before b bs = only_with _ _ _ (only_run (λ x. x ≢ 10) bs) (λ c. only_is _)
only_way law brace before b bs = only_is _
only_way law bar before b bs = only_next _ _ _ _ (λ t. only_is _) (only_next _ _ _ _ (λ t. only_is _) (only_is _))
only_way law quote before b bs = only_quote bs
only_way law letter before b bs = only_letter law before b bs
only_way law digit before b bs = only_number false (b ∷ bs)
only_way law minus before b bs = only_next _ _ _ _ (λ t. only_is _) (only_branch _ _ _ (only_is _) (only_number true bs))
only_way law dot before b bs = only_branch _ _ _ (only_path (λ path. token.Suffix path) (b ∷ bs)) (only_root 46 (λ path. token.EventPath path) (b ∷ bs))
only_way law percent before b bs = only_root 37 (λ path. token.MetadataPath path) (b ∷ bs)
only_way law square before b bs = only_branch _ _ _ (only_path (λ path. token.Suffix path) (b ∷ bs)) (only_is _)
only_way law question before b bs = only_next _ _ _ _ (λ t. only_next _ _ _ _ (λ u. only_is _) (only_is _)) (only_stray bs)
only_way law ampersand before b bs = only_next _ _ _ _ (λ t. only_is _) (only_stray bs)
only_way law refused before b bs = only_is _
only_way law stray before b bs = only_stray bs
only_way law (single t) before b bs = only_is _
only_way law (joins joined alone) before b bs = only_next _ _ _ _ (λ t. only_is _) (only_is _)

-- ---- first bytes

abbrev is_name_start : ℕ → Bool
is_name_start b = ((ltb 96 b && ltb b 123) || (ltb 64 b && ltb b 91)) || b == 95

abbrev is_digit : ℕ → Bool
is_digit b = ltb 47 b && ltb b 58

abbrev pub marks : List (ℕ × Start)
marks = (32, blank) ∷ (9, blank) ∷ (13, blank) ∷ (10, newline) ∷ (35, remark) ∷ (34, quote) ∷ (46, dot) ∷ (61, joins token.Equal token.Assign) ∷ (124, bar) ∷ (33, joins token.Unequal token.Not) ∷ (60, joins token.AtMost token.Less)
    ∷ (62, joins token.AtLeast token.More) ∷ (43, single token.Plus) ∷ (45, minus) ∷ (42, single token.Times) ∷ (63, question) ∷ (38, ampersand) ∷ (40, single token.OpenParenthesis) ∷ (41, single token.CloseParenthesis) ∷ (91, square)
    ∷ (93, single token.CloseBracket) ∷ (123, brace) ∷ (125, single token.CloseBrace) ∷ (44, single token.Comma) ∷ (58, single token.Colon) ∷ (59, single token.Separator) ∷ (47, refused) ∷ (37, percent) ∷ []

abbrev pub start_in : ℕ → List (ℕ × Start) → Start
start_in b [] = stray
start_in b (m ∷ ms) = if b == m.0 then m.1 else start_in b ms

abbrev pub start_of : ℕ → Start
start_of b = if is_name_start b then letter else if is_digit b then digit else start_in b marks

name_start_decides : (b : ℕ) → Decides (is_name_start b) (IsNameStart b)
name_start_decides b =
    Decides-like (is_name_start b)
    (λ h. elim h [ inl (inl small) ↦ inl (inl (omega (arith, small.0), omega (arith, small.1))) | inl (inr large) ↦ inl (inr (omega (arith, large.0), omega (arith, large.1))) | inr mark ↦ inr mark ])
    (λ h. elim h [ inl (inl small) ↦ inl (inl (omega (arith, small.0), omega (arith, small.1))) | inl (inr large) ↦ inl (inr (omega (arith, large.0), omega (arith, large.1))) | inr mark ↦ inr mark ])
    (Decides-or _ _ (Decides-or _ _ (Decides-and _ _ (Decides-ltb 96 b) (Decides-ltb b 123)) (Decides-and _ _ (Decides-ltb 64 b) (Decides-ltb b 91))) (Decides-eqb b 95))

digit_decides : (b : ℕ) → Decides (is_digit b) (IsDigit b)
digit_decides b = Decides-like (is_digit b) (λ h. (omega (arith, h.0), omega (arith, h.1))) (λ h. (omega (arith, h.0), omega (arith, h.1))) (Decides-and _ _ (Decides-ltb 47 b) (Decides-ltb b 58))

false_of : {P : Type 0} (r : Bool) → Decides r P → ¬ P → r ≡ false
false_of true says none = absurd (none (says.0 refl))
false_of false says none = refl

pub start_letter : (b : ℕ) → IsNameStart b → start_of b ≡ letter
start_letter b is = ap (λ r. let s : Start = if r then letter else if is_digit b then digit else start_in b marks in s) ((name_start_decides b).1 is)

no_name_start : (b : ℕ) → ¬ IsNameStart b → start_of b ≡ (if is_digit b then digit else start_in b marks)
no_name_start b none = ap (λ r. let s : Start = if r then letter else if is_digit b then digit else start_in b marks in s) (false_of (is_name_start b) (name_start_decides b) none)

pub start_digit : (b : ℕ) → IsDigit b → start_of b ≡ digit
start_digit b is = no_name_start b (λ h. grind (arith, h, is)) ∙ ap (λ r. let s : Start = if r then digit else start_in b marks in s) ((digit_decides b).1 is)

no_mark_in : (b : ℕ) (ms : List (ℕ × Start)) → AllByRecursion (λ m. b ≢ m.0) ms → start_in b ms ≡ stray
no_mark_in b [] none = refl
no_mark_in b (m ∷ ms) none = ap (λ r. let s : Start = if r then m.1 else start_in b ms in s) (false_of (b == m.0) (Decides-eqb b m.0) none.0) ∙ no_mark_in b ms none.1

pub start_stray : (b : ℕ) → ¬ IsStart b → start_of b ≡ stray
start_stray b none =
    no_name_start b (λ h. none (inr (inl h)))
    ∙ ap (λ r. let s : Start = if r then digit else start_in b marks in s) (false_of (is_digit b) (digit_decides b) (λ h. none (inr (inr (inl h)))))
    ∙ no_mark_in b marks (other_marks b none)
  where
    other_marks : (b : ℕ) → ¬ IsStart b → AllByRecursion (λ m. b ≢ m.0) marks
    other_marks b none = (λ e. none (inl (inl e)), (λ e. none (inl (inr (inl e))), (λ e. none (inl (inr (inr e))), (λ e. none (inr (inr (inr (inl e)))), (λ e. none (inr (inr (inr (inr (inl e))))), (λ e. none (inr (inr (inr (inr (inr (inl e)))))), (λ e. none (inr (inr (inr (inr (inr (inr (inl e))))))), (λ e. none (inr (inr (inr (inr (inr (inr (inr (inl e)))))))), (λ e. none (inr (inr (inr (inr (inr (inr (inr (inr (inl e))))))))), (λ e. none (inr (inr (inr (inr (inr (inr (inr (inr (inr (inl e)))))))))), (λ e. none (inr (inr (inr (inr (inr (inr (inr (inr (inr (inr (inl e))))))))))), (λ e. none (inr (inr (inr (inr (inr (inr (inr (inr (inr (inr (inr (inl e)))))))))))), (λ e. none (inr (inr (inr (inr (inr (inr (inr (inr (inr (inr (inr (inr (inl e))))))))))))), (λ e. none (inr (inr (inr (inr (inr (inr (inr (inr (inr (inr (inr (inr (inr (inl e)))))))))))))), (λ e. none (inr (inr (inr (inr (inr (inr (inr (inr (inr (inr (inr (inr (inr (inr (inl e))))))))))))))), (λ e. none (inr (inr (inr (inr (inr (inr (inr (inr (inr (inr (inr (inr (inr (inr (inr (inl e)))))))))))))))), (λ e. none (inr (inr (inr (inr (inr (inr (inr (inr (inr (inr (inr (inr (inr (inr (inr (inr (inl e))))))))))))))))), (λ e. none (inr (inr (inr (inr (inr (inr (inr (inr (inr (inr (inr (inr (inr (inr (inr (inr (inr (inl e)))))))))))))))))), (λ e. none (inr (inr (inr (inr (inr (inr (inr (inr (inr (inr (inr (inr (inr (inr (inr (inr (inr (inr (inl e))))))))))))))))))), (λ e. none (inr (inr (inr (inr (inr (inr (inr (inr (inr (inr (inr (inr (inr (inr (inr (inr (inr (inr (inr (inl e)))))))))))))))))))), (λ e. none (inr (inr (inr (inr (inr (inr (inr (inr (inr (inr (inr (inr (inr (inr (inr (inr (inr (inr (inr (inr (inl e))))))))))))))))))))), (λ e. none (inr (inr (inr (inr (inr (inr (inr (inr (inr (inr (inr (inr (inr (inr (inr (inr (inr (inr (inr (inr (inr (inl e)))))))))))))))))))))), (λ e. none (inr (inr (inr (inr (inr (inr (inr (inr (inr (inr (inr (inr (inr (inr (inr (inr (inr (inr (inr (inr (inr (inr (inl e))))))))))))))))))))))), (λ e. none (inr (inr (inr (inr (inr (inr (inr (inr (inr (inr (inr (inr (inr (inr (inr (inr (inr (inr (inr (inr (inr (inr (inr (inl e)))))))))))))))))))))))), (λ e. none (inr (inr (inr (inr (inr (inr (inr (inr (inr (inr (inr (inr (inr (inr (inr (inr (inr (inr (inr (inr (inr (inr (inr (inr (inl e))))))))))))))))))))))))), (λ e. none (inr (inr (inr (inr (inr (inr (inr (inr (inr (inr (inr (inr (inr (inr (inr (inr (inr (inr (inr (inr (inr (inr (inr (inr (inr (inl e)))))))))))))))))))))))))), (λ e. none (inr (inr (inr (inr (inr (inr (inr (inr (inr (inr (inr (inr (inr (inr (inr (inr (inr (inr (inr (inr (inr (inr (inr (inr (inr (inr (inl e))))))))))))))))))))))))))), (λ e. none (inr (inr (inr (inr (inr (inr (inr (inr (inr (inr (inr (inr (inr (inr (inr (inr (inr (inr (inr (inr (inr (inr (inr (inr (inr (inr (inr e))))))))))))))))))))))))))), tt))))))))))))))))))))))))))))

pub start_blank : (b : ℕ) → IsBlank b → start_of b ≡ blank
start_blank b is = elim is [ inl space ↦ ap start_of space | inr (inl tab) ↦ ap start_of tab | inr (inr carriage) ↦ ap start_of carriage ]

-- ---- all

abbrev pub WayOf : List Piece → List ℕ → Lexed → Type 0
WayOf before [] = Is finish
WayOf before (b ∷ bs) = Way (start_of b) before b bs

pub only_start : MomentsReadBack → (before : List Piece) (text : List ℕ) → OnlyOne (WayOf before text)
only_start law before [] = only_is finish
only_start law before (b ∷ bs) = only_way law (start_of b) before b bs
