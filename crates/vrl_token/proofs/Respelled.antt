-- Each piece, written again behind other pieces and before another rest.
use Rattle.std.proofs.Common.{◌≡◌, ◌≢◌, ℕ, ◌<◌, Bool, true, false, List, [], ◌∷◌, ◌++◌, inl, inr, refl, sym, ap, ◌∙◌, subst, append_assoc, length, arith}
use Rattle.std.specs.Prelude.{codes}
use Rattle.std.proofs.lemmas.List.{append_cancel_right}
use Rattle.std.specs.List.{AllByRecursion}
use Rattle.vrl_token.specs.declared.piece.Piece.{Piece}
use Rattle.vrl_token.specs.declared.piece.Piece.TheVariants.{Blank, Comment, Newline, Brace, Bar, Word}
use Rattle.vrl_token.specs.declared.token.Token.{Token}
use Rattle.vrl_token.specs.declared.token.Token.TheVariants as token
use Rattle.vrl_token.specs.Lexical.{BeginsInside, BeginsOutside, IsBlank, IsDigit, IsNameStart}
use Rattle.vrl_token.specs.Context.{operand_before}
use Rattle.vrl_token.specs.Words.{BeginsWithToken, IsFreeName, MayHaveSign}
use Rattle.vrl_token.specs.Pieces.{Begins}
use Rattle.vrl_token.specs.Respelling.{EndsLine, KeepsContext, MayStandBefore, PiecesAreRespelled, RespellingLaws, SignsAreApart, SpellingsBegin, StartsPiece, TrimmedCommentsStay, lengthens}
use Rattle.vrl_token.proofs.Runs.{heads}
use Rattle.vrl_token.proofs.Unique.{tails}
use Rattle.vrl_token.proofs.Stopping.{no_call, no_float, no_segment, outside, stop_no_digit, stop_no_start, without}
use Rattle.vrl_token.proofs.Spelled.{IsLone, IsVisible, lone, call_ends, closed, free_again, free_stops, name_again, name_is_lone, no_raw, numeral, numeral_again, numeral_is_lone, numeral_parts, path, path_ends_name, path_is_lone, path_parts, raw_again, raw_parts, root, root_again, root_parts, segments_again, text_again, text_parts, visible}

-- how the spelling of a piece begins
abbrev IsFirst : Piece → ℕ → Type 0
IsFirst p b = StartsPiece p b × (lengthens p ≡ false → (b ≢ 61) × (b ≢ 124))

-- A front of the text that is the piece again wherever it may be.
record Respells (before : List Piece) (p : Piece) (text rest : List ℕ) : Type 0 where
  pub front : List ℕ
  pub parts : text ≡ front ++ rest
  pub starts : BeginsInside (IsFirst p) front
  pub again : (after : List Piece) (other : List ℕ) → KeepsContext p before after → MayStandBefore p other → Begins after p (front ++ other) other

-- ---- tokens

lone_first : (t : Token) (front : List ℕ) → BeginsInside IsLone front → BeginsInside (IsFirst (Word t)) front
lone_first t [] starts = starts
lone_first t (b ∷ bs) starts = (starts.0, λ apart. starts.1)

-- a token with which no sign before it goes on
word : {before : List Piece} {text rest : List ℕ} (t : Token) (front : List ℕ) → BeginsInside IsLone front → text ≡ front ++ rest
    → ((after : List Piece) (other : List ℕ) → KeepsContext (Word t) before after → MayStandBefore (Word t) other → BeginsWithToken after t (front ++ other) other) → Respells before (Word t) text rest
word t front starts parts again = record { front = front; parts = parts; starts = lone_first t front starts; again = again }

joining_first : (t : Token) (front : List ℕ) → lengthens (Word t) ≡ true → BeginsInside IsVisible front → BeginsInside (IsFirst (Word t)) front
joining_first t [] joins starts = starts
joining_first t (b ∷ bs) joins starts = (starts, λ apart. let wrong : true ≡ false = sym joins ∙ apart in cc)

-- a token that begins with `=` or `|`
joining : {before : List Piece} {text rest : List ℕ} (t : Token) (front : List ℕ) → lengthens (Word t) ≡ true → BeginsInside IsVisible front → text ≡ front ++ rest
    → ((after : List Piece) (other : List ℕ) → KeepsContext (Word t) before after → MayStandBefore (Word t) other → BeginsWithToken after t (front ++ other) other) → Respells before (Word t) text rest
joining t front joins starts parts again = record { front = front; parts = parts; starts = joining_first t front joins starts; again = again }

bang_parts : (name rest : List ℕ) → name ++ 33 ∷ rest ≡ (name ++ 33 ∷ []) ++ rest
bang_parts name rest = sym (append_assoc name (33 ∷ []) rest)

starts_append : (P : ℕ → Type 0) (front behind : List ℕ) → BeginsInside P front → BeginsInside P (front ++ behind)
starts_append P [] behind starts = absurd starts
starts_append P (b ∷ bs) behind starts = starts

keeps_sign : (before after : List Piece) (negative : Bool) → MayHaveSign before negative → (operand_before before ≡ false → operand_before after ≡ false) → MayHaveSign after negative
keeps_sign before after true sign keeps = keeps sign
keeps_sign before after false sign keeps = tt

token_respells : (before : List Piece) (t : Token) (text rest : List ℕ) → BeginsWithToken before t text rest → Respells before (Word t) text rest
token_respells before (token.Text v) text rest is =
    word (token.Text v) (34 ∷ closed 34 is.0) (lone 34 refl) (text_parts is.0 is.1)
    (λ after other keeps may. (is.0, text_again is.0 other is.1, is.2, is.3))
token_respells before (token.Template f hs) text rest is =
    word (token.Template f hs) (34 ∷ closed 34 is.0) (lone 34 refl) (text_parts is.0 is.1)
    (λ after other keeps may. (is.0, text_again is.0 other is.1, is.2, is.3, is.4))
token_respells before (token.RawText v) text rest is =
    word (token.RawText v) (115 ∷ 39 ∷ closed 39 is.0) (lone 115 refl) (raw_parts 115 is.0 is.1)
    (λ after other keeps may. (is.0, raw_again 115 is.0 other is.1, is.2))
token_respells before (token.Regex v) text rest is =
    word (token.Regex v) (114 ∷ 39 ∷ closed 39 is.0) (lone 114 refl) (raw_parts 114 is.0 is.1)
    (λ after other keeps may. (is.0, raw_again 114 is.0 other is.1, is.2, (let few = is.3 in omega (arith, few, keeps))))
token_respells before (token.Timestamp m) text rest is =
    word (token.Timestamp m) (116 ∷ 39 ∷ closed 39 is.0) (lone 116 refl) (raw_parts 116 is.0 is.1)
    (λ after other keeps may. (is.0, raw_again 116 is.0 other is.1, is.2))
token_respells before (token.Number n) text rest is =
    word (token.Number n) (numeral is.0 is.1) (numeral_is_lone is.0 is.1 is.2.numeral.is_digits) (numeral_parts is.2.numeral)
    (λ after other keeps may. (is.0, is.1, record { sign = keeps_sign before after is.0 is.2.sign keeps; numeral = numeral_again other is.2.numeral may; whole = λ last. no_float other last may }, outside IsNameStart other stop_no_start may, is.4))
token_respells before token.True text rest is =
    word token.True (codes "true") (name_is_lone (codes "true") is.is_name) is.run.parts
    (λ after other keeps may. name_again other is may)
token_respells before token.False text rest is =
    word token.False (codes "false") (name_is_lone (codes "false") is.is_name) is.run.parts
    (λ after other keeps may. name_again other is may)
token_respells before token.Null text rest is =
    word token.Null (codes "null") (name_is_lone (codes "null") is.is_name) is.run.parts
    (λ after other keeps may. name_again other is may)
token_respells before token.If text rest is =
    word token.If (codes "if") (name_is_lone (codes "if") is.is_name) is.run.parts
    (λ after other keeps may. name_again other is may)
token_respells before token.Else text rest is =
    word token.Else (codes "else") (name_is_lone (codes "else") is.is_name) is.run.parts
    (λ after other keeps may. name_again other is may)
token_respells before token.Abort text rest is =
    word token.Abort (codes "abort") (name_is_lone (codes "abort") is.is_name) is.run.parts
    (λ after other keeps may. name_again other is may)
token_respells before token.Return text rest is =
    word token.Return (codes "return") (name_is_lone (codes "return") is.is_name) is.run.parts
    (λ after other keeps may. name_again other is may)
token_respells before (token.Name name) text rest is =
    word (token.Name name) name (name_is_lone name is.0.is_name) is.0.run.parts
    (λ after other keeps may. (free_stops other is.0 may, no_raw other is.0 may, no_call other may, no_segment other may))
token_respells before (token.Function name) text rest is =
    word (token.Function name) name (name_is_lone name is.0.is_name) is.0.run.parts
    (λ after other keeps may. (free_again other is.0 (call_ends other may), may))
token_respells before (token.BangFunction name) text rest is =
    word (token.BangFunction name) (name ++ 33 ∷ []) (starts_append IsLone name (33 ∷ []) (name_is_lone name is.0.is_name)) (is.0.run.parts ∙ bang_parts name rest)
    (λ after other keeps may. (subst (λ t. IsFreeName t name (33 ∷ other)) (bang_parts name other) (free_again (33 ∷ other) is.0 (λ part. grind (arith, part))), may))
token_respells before (token.EventPath steps) text rest is =
    word (token.EventPath steps) (46 ∷ root is.0 []) (lone 46 refl) (root_parts 46 is.0 text rest is.1)
    (λ after other keeps may. (is.0, root_again 46 is.0 text rest other is.1 may, is.2, inl keeps))
token_respells before (token.MetadataPath steps) text rest is =
    word (token.MetadataPath steps) (37 ∷ root is.0 []) (lone 37 refl) (root_parts 37 is.0 text rest is.1)
    (λ after other keeps may. (is.0, root_again 37 is.0 text rest other is.1 may, is.2))
token_respells before (token.NamePath name steps) text rest is =
    word (token.NamePath name steps) (name ++ path is.1 []) (starts_append IsLone name (path is.1 []) (name_is_lone name is.2.is_name)) (is.2.run.parts ∙ ap (λ t. name ++ t) (path_parts is.1 is.0 rest is.3) ∙ sym (append_assoc name (path is.1 []) rest))
    (λ after other keeps may. (path is.1 [] ++ other, is.1, subst (λ t. IsFreeName t name (path is.1 [] ++ other)) (sym (append_assoc name (path is.1 []) other)) (free_again (path is.1 [] ++ other) is.2 (path_ends_name is.1 other is.4)), segments_again is.1 is.0 rest other is.3 may, is.4, is.5))
token_respells before (token.Suffix steps) text rest is =
    word (token.Suffix steps) (path is.0 []) (path_is_lone is.0 is.3) (path_parts is.0 text rest is.2)
    (λ after other keeps may. (is.0, keeps, segments_again is.0 text rest other is.2 may, is.3, is.4))
token_respells before token.Assign text rest is =
    joining token.Assign (61 ∷ []) refl (visible 61 (omega arith)) is.0
    (λ after other keeps may. (refl, without 61 other refl may))
token_respells before token.MergeAssign text rest is =
    joining token.MergeAssign (124 ∷ 61 ∷ []) refl (visible 124 (omega arith)) is
    (λ after other keeps may. refl)
token_respells before token.Coalesce text rest is =
    word token.Coalesce (63 ∷ 63 ∷ []) (lone 63 refl) is.0
    (λ after other keeps may. (refl, without 61 other refl may))
token_respells before token.Or text rest is =
    joining token.Or (124 ∷ 124 ∷ []) refl (visible 124 (omega arith)) is
    (λ after other keeps may. refl)
token_respells before token.And text rest is =
    word token.And (38 ∷ 38 ∷ []) (lone 38 refl) is
    (λ after other keeps may. refl)
token_respells before token.Equal text rest is =
    joining token.Equal (61 ∷ 61 ∷ []) refl (visible 61 (omega arith)) is
    (λ after other keeps may. refl)
token_respells before token.Unequal text rest is =
    word token.Unequal (33 ∷ 61 ∷ []) (lone 33 refl) is
    (λ after other keeps may. refl)
token_respells before token.Less text rest is =
    word token.Less (60 ∷ []) (lone 60 refl) is.0
    (λ after other keeps may. (refl, without 61 other refl may))
token_respells before token.AtMost text rest is =
    word token.AtMost (60 ∷ 61 ∷ []) (lone 60 refl) is
    (λ after other keeps may. refl)
token_respells before token.More text rest is =
    word token.More (62 ∷ []) (lone 62 refl) is.0
    (λ after other keeps may. (refl, without 61 other refl may))
token_respells before token.AtLeast text rest is =
    word token.AtLeast (62 ∷ 61 ∷ []) (lone 62 refl) is
    (λ after other keeps may. refl)
token_respells before token.Merge text rest is = absurd is
token_respells before token.Plus text rest is =
    word token.Plus (43 ∷ []) (lone 43 refl) is
    (λ after other keeps may. refl)
token_respells before token.Minus text rest is =
    word token.Minus (45 ∷ []) (lone 45 refl) is.0
    (λ after other keeps may. (refl, without 62 other refl may, inr (outside IsDigit other stop_no_digit may)))
token_respells before token.Times text rest is =
    word token.Times (42 ∷ []) (lone 42 refl) is
    (λ after other keeps may. refl)
token_respells before token.Not text rest is =
    word token.Not (33 ∷ []) (lone 33 refl) is.0
    (λ after other keeps may. (refl, may))
token_respells before token.OpenParenthesis text rest is =
    word token.OpenParenthesis (40 ∷ []) (lone 40 refl) is
    (λ after other keeps may. refl)
token_respells before token.CloseParenthesis text rest is =
    word token.CloseParenthesis (41 ∷ []) (lone 41 refl) is
    (λ after other keeps may. refl)
token_respells before token.OpenBracket text rest is =
    word token.OpenBracket (91 ∷ []) (lone 91 refl) is.0
    (λ after other keeps may. (refl, inl keeps))
token_respells before token.CloseBracket text rest is =
    word token.CloseBracket (93 ∷ []) (lone 93 refl) is
    (λ after other keeps may. refl)
token_respells before token.OpenBlock text rest is = absurd is
token_respells before token.OpenObject text rest is = absurd is
token_respells before token.CloseBrace text rest is =
    word token.CloseBrace (125 ∷ []) (lone 125 refl) is
    (λ after other keeps may. refl)
token_respells before token.OpenBars text rest is = absurd is
token_respells before token.CloseBars text rest is = absurd is
token_respells before token.Comma text rest is =
    word token.Comma (44 ∷ []) (lone 44 refl) is
    (λ after other keeps may. refl)
token_respells before token.Colon text rest is =
    word token.Colon (58 ∷ []) (lone 58 refl) is
    (λ after other keeps may. refl)
token_respells before token.Arrow text rest is =
    word token.Arrow (45 ∷ 62 ∷ []) (lone 45 refl) is
    (λ after other keeps may. refl)
token_respells before token.Separator text rest is =
    word token.Separator (59 ∷ []) (lone 59 refl) is
    (λ after other keeps may. refl)

-- ---- pieces

-- where a line ends, no comment goes on
line_ends : (other : List ℕ) → EndsLine other → BeginsOutside (λ b. b ≢ 10) other
line_ends [] ends = tt
line_ends (b ∷ bs) ends = λ goes_on. goes_on ends

blanks_start : (gap : List ℕ) → 0 < length gap → AllByRecursion IsBlank gap → BeginsInside (IsFirst Blank) gap
blanks_start [] some all = omega (arith, some)
blanks_start (b ∷ bs) some all = let blank = all.0 in (blank, λ apart. (λ e. grind (arith, blank, e), λ e. grind (arith, blank, e)))

piece_respells : (before : List Piece) (p : Piece) (text rest : List ℕ) → Begins before p text rest → Respells before p text rest
piece_respells before Blank text rest is =
    record {
      front = is.gap;
      parts = is.run.parts;
      starts = blanks_start is.gap is.some is.run.passes;
      again = λ after other keeps may. record { gap = is.gap; some = is.some; run = record { parts = refl; passes = is.run.passes; ends = may } };
    }
piece_respells before Comment text rest is =
    record {
      front = 35 ∷ is.remark;
      parts = is.parts ∙ ap (λ t. 35 ∷ t) is.run.parts;
      starts = let is_lone = lone 35 refl in (is_lone.0, λ apart. is_lone.1);
      again = λ after other keeps may. record { behind = is.remark ++ other; remark = is.remark; parts = refl; run = record { parts = refl; passes = is.run.passes; ends = line_ends other may } };
    }
piece_respells before Newline text rest is = record { front = 10 ∷ []; parts = is; starts = (refl, λ apart. (λ e. omega (arith, e), λ e. omega (arith, e))); again = λ after other keeps may. refl }
piece_respells before Brace text rest is = record { front = 123 ∷ []; parts = is; starts = let is_lone = lone 123 refl in (is_lone.0, λ apart. is_lone.1); again = λ after other keeps may. refl }
piece_respells before Bar text rest is = record { front = 124 ∷ []; parts = is.0; starts = (visible 124 (omega arith), λ apart. let wrong : true ≡ false = apart in cc); again = λ after other keeps may. (refl, may.0, may.1) }
piece_respells before (Word t) text rest is = token_respells before t text rest is

-- ---- comments

-- what is kept of a comment without blanks at its end begins with its `#`
record IsKept (kept blanks remark : List ℕ) : Type 0 where
  pub behind : List ℕ
  pub parts : kept ≡ 35 ∷ behind
  pub front : behind ++ blanks ≡ remark

kept_front : (kept blanks remark : List ℕ) → AllByRecursion IsBlank blanks → kept ++ blanks ≡ 35 ∷ remark → IsKept kept blanks remark
kept_front [] [] remark all e = cc
kept_front [] (b ∷ bs) remark all e = let same : b ≡ 35 = cc in absurd (grind (arith, same, all.0))
kept_front (b ∷ bs) blanks remark all e = record { behind = bs; parts = ap (λ x. x ∷ bs) (heads e); front = tails e }

front_passes : (P : ℕ → Type 0) (xs ys : List ℕ) → AllByRecursion P (xs ++ ys) → AllByRecursion P xs
front_passes P [] ys all = tt
front_passes P (x ∷ xs) ys all = (all.0, front_passes P xs ys all.1)

-- ---- laws

pieces_again : PiecesAreRespelled
pieces_again p before after spelling rest other is keeps may =
    let respells = piece_respells before p (spelling ++ rest) rest is in
    let same = append_cancel_right spelling respells.front rest respells.parts in
    subst (λ s. Begins after p (s ++ other) other) (sym same) (respells.again after other keeps may)

first_of : (p : Piece) (before : List Piece) (spelling rest : List ℕ) → Begins before p (spelling ++ rest) rest → BeginsInside (IsFirst p) spelling
first_of p before spelling rest is =
    let respells = piece_respells before p (spelling ++ rest) rest is in
    let same = append_cancel_right spelling respells.front rest respells.parts in
    subst (BeginsInside (IsFirst p)) (sym same) respells.starts

inside_more : (P Q : ℕ → Type 0) (text : List ℕ) → ((b : ℕ) → P b → Q b) → BeginsInside P text → BeginsInside Q text
inside_more P Q [] more inside = inside
inside_more P Q (b ∷ bs) more inside = more b inside

spellings_begin : SpellingsBegin
spellings_begin p before spelling rest is = inside_more (IsFirst p) (StartsPiece p) spelling (λ b first. first.0) (first_of p before spelling rest is)

signs_apart : SignsAreApart
signs_apart p before spelling rest is apart = inside_more (IsFirst p) (λ b. (b ≢ 61) × (b ≢ 124)) spelling (λ b first. first.1 apart) (first_of p before spelling rest is)

comments_stay : TrimmedCommentsStay
comments_stay before after spelling kept blanks rest other parts all is ends =
    let whole : spelling ≡ 35 ∷ is.remark = append_cancel_right spelling (35 ∷ is.remark) rest (is.parts ∙ ap (λ t. 35 ∷ t) is.run.parts) in
    let own = kept_front kept blanks is.remark all (sym parts ∙ whole) in
    let passes = front_passes (λ b. b ≢ 10) own.behind blanks (subst (AllByRecursion (λ b. b ≢ 10)) (sym own.front) is.run.passes) in
    record { behind = own.behind ++ other; remark = own.behind; parts = ap (λ t. t ++ other) own.parts; run = record { parts = refl; passes = passes; ends = line_ends other ends } }

pub respelled : RespellingLaws
respelled = record { pieces = pieces_again; comments = comments_stay; spellings = spellings_begin; signs = signs_apart }
