-- A script as a layout sees it: comments, newlines, semicolons that go, and words; and what a layout
-- writes for them.
use Rattle.std.proofs.Common.{◌≡◌, ℕ, zero, suc, Bool, true, false, ◌&&◌, ◌||◌, not, if◌then◌else◌, List, [], ◌∷◌, ◌++◌, Option, Some, None, map}
use Rattle.vrl_token.specs.declared.piece.Lexeme.{Lexeme}
use Rattle.vrl_token.specs.declared.piece.Piece.{Piece}
use Rattle.vrl_token.specs.declared.piece.Piece.TheVariants.{Blank, Comment, Newline, Brace, Bar, Word}
use Rattle.vrl_token.specs.declared.token.Token.{Token}
use Rattle.vrl_token.specs.declared.token.Token.TheVariants as token
use Rattle.vrl_token.specs.Brackets.{bar_token, block_follows, encloses, goes_on, is_close_brace, is_colon, is_text, joins_piece, open_behind, token_of, tokens_from, with_token}
use Rattle.vrl_token.specs.Context.{closes_operand, regexes_before}
use Rattle.vrl_token.specs.Division.{kept}
use Rattle.vrl_token.specs.Pieces.{Begins}
use Rattle.vrl_format.specs.Comments.{Comment as Noted, counted}
use Rattle.vrl_format.proofs.Joining.{may_follow}
use Rattle.vrl_format.specs.Layout.{Gap, nothing, space, break, blocks_at, blocks_behind, gap, indent}
use Rattle.vrl_format.specs.Pieces.{Between, newline, semicolon, Piece as Laid, Sort, comment, braces_behind, opens_bare, sort_of, trimmed}
use Rattle.vrl_format.proofs.Cuts.{Cut, placed}

-- ---- elements

-- a comment with its spelling; a newline, and whether it parts items; a semicolon that is no piece; and
-- any other piece, with its token, its sort and its spelling
pub data Element : Type 0 where
  note : List ℕ → Element
  line : Bool → Element
  stop : Element
  word : Piece → Token → Sort → List ℕ → Element

-- Where `go` gives the elements behind, from the open braces, whether the next semicolon is a piece, and
-- the tokens before.
abbrev pub Behind : Type 0
Behind = List Bool → Bool → List Token → List Element

abbrev pub word_element : List Bool → Bool → List Token → Piece → List ℕ → List Lexeme → Behind → Option Token → List Element
word_element braces bare before p spelling behind go None = go braces bare before
word_element braces bare before p spelling behind go (Some t) =
    word p t (sort_of braces t) spelling
    ∷ go (braces_behind t braces) (opens_bare t (tokens_from (t ∷ before) behind)) (t ∷ before)

abbrev pub line_element : List Bool → Bool → List Token → Behind → Option Token → List Element
line_element braces bare before go None = line false ∷ go braces bare before
line_element braces bare before go (Some t) = line true ∷ go braces bare (t ∷ before)

abbrev pub stop_element : List Bool → List Token → List ℕ → List Lexeme → Behind → Bool → List Element
stop_element braces before spelling behind go true =
    word_element braces true before (Word token.Separator) spelling behind go (Some token.Separator)
stop_element braces before spelling behind go false = stop ∷ go braces false (token.Separator ∷ before)

abbrev pub element_at : List Bool → Bool → List Token → List ℕ → List Lexeme → Behind → Piece → List Element
element_at braces bare before spelling behind go Blank = go braces bare before
element_at braces bare before spelling behind go Comment = note spelling ∷ go braces bare before
element_at braces bare before spelling behind go Newline =
    line_element braces bare before go (token_of before Newline behind)
element_at braces bare before spelling behind go (Word token.Separator) = stop_element braces before spelling behind go bare
element_at braces bare before spelling behind go p =
    word_element braces bare before p spelling behind go (token_of before p behind)

-- the elements of a text that is cut up so
abbrev pub elements : ℕ → List Bool → Bool → List Token → List Cut → List Element
elements total braces bare before [] = []
elements total braces bare before (c ∷ cs) =
    element_at braces bare before c.spelling (kept (placed total cs)) (λ bs b ts. elements total bs b ts cs) c.piece

-- ---- what they say

abbrev pub with_parting : Bool → List Token → List Token
with_parting true before = token.Separator ∷ before
with_parting false before = before

-- the tokens, separators among them
abbrev pub element_tokens : List Element → List Token
element_tokens [] = []
element_tokens (note x ∷ es) = element_tokens es
element_tokens (line q ∷ es) = with_parting q (element_tokens es)
element_tokens (stop ∷ es) = token.Separator ∷ element_tokens es
element_tokens (word p t s x ∷ es) = t ∷ element_tokens es

-- the pieces of the layout, where this stands between the last one and the place
abbrev pub element_pieces : List Between → List Element → List Laid
element_pieces between [] = []
element_pieces between (note x ∷ es) =
    record { between = between; sort = comment; spelling = trimmed x } ∷ element_pieces [] es
element_pieces between (line q ∷ es) = element_pieces (between ++ newline q ∷ []) es
element_pieces between (stop ∷ es) = element_pieces (between ++ semicolon ∷ []) es
element_pieces between (word p t s x ∷ es) = record { between = between; sort = s; spelling = x } ∷ element_pieces [] es

-- the comments, each behind so many tokens
abbrev pub element_comments : ℕ → List Element → List Noted
element_comments n [] = []
element_comments n (note x ∷ es) = record { tokens = n; text = trimmed x } ∷ element_comments n es
element_comments n (line q ∷ es) = element_comments n es
element_comments n (stop ∷ es) = element_comments n es
element_comments n (word p t s x ∷ es) = element_comments (counted t n) es

-- ---- what follows

-- the next word is there and passes a test
abbrev pub first_word : (Piece → Bool) → List Element → Bool
first_word test [] = false
first_word test (note x ∷ es) = first_word test es
first_word test (line q ∷ es) = first_word test es
first_word test (stop ∷ es) = first_word test es
first_word test (word p t s x ∷ es) = test p

abbrev pub second_word : (Piece → Bool) → List Element → Bool
second_word test [] = false
second_word test (note x ∷ es) = second_word test es
second_word test (line q ∷ es) = second_word test es
second_word test (stop ∷ es) = second_word test es
second_word test (word p t s x ∷ es) = first_word test es

-- what stands behind `{` begins an object
abbrev pub object_follows : List Element → Bool
object_follows es = first_word is_close_brace es || (first_word is_text es && second_word is_colon es)

-- the next word that is no semicolon closes a brace
abbrev pub closes_next_word : List Element → Bool
closes_next_word [] = false
closes_next_word (note x ∷ es) = closes_next_word es
closes_next_word (line q ∷ es) = closes_next_word es
closes_next_word (stop ∷ es) = closes_next_word es
closes_next_word (word (Word token.Separator) t s x ∷ es) = closes_next_word es
closes_next_word (word p t s x ∷ es) = is_close_brace p

abbrev pub opens_bare_word : Token → List Element → Bool
opens_bare_word token.OpenBlock es = closes_next_word es
opens_bare_word t es = false

-- the last of the tokens that is no separator goes on
abbrev pub goes_on_last : List Token → Bool
goes_on_last [] = false
goes_on_last (token.Separator ∷ ts) = goes_on_last ts
goes_on_last (t ∷ ts) = goes_on t

-- a newline between these tokens and these elements parts items
abbrev pub parts_here : List Token → List Element → Bool
parts_here before es =
    not (encloses (open_behind before)) && (not (goes_on_last before) && not (first_word joins_piece es))

-- ---- elements that were told of a script

-- a comment ends at a newline, or with the text
abbrev pub EndsNote : List Element → Type 0
EndsNote [] = Unit {0}
EndsNote (line q ∷ es) = Unit {0}
EndsNote es = ⊥

-- the token of a word is told by the tokens before it and the words behind it
abbrev pub IsTold : Bool → List Token → Piece → Token → List Element → Type 0
IsTold bare before Brace t es = t ≡ (if not (block_follows before) && object_follows es then token.OpenObject else token.OpenBlock)
IsTold bare before Bar t es = t ≡ bar_token before
IsTold bare before (Word token.Separator) t es =
    (t ≡ token.Separator) × (bare ≡ true) × (parts_here before es ≡ true)
IsTold bare before (Word u) t es = t ≡ u
IsTold bare before p t es = ⊥

-- from the open braces, whether the next semicolon is a piece, and the tokens before
abbrev pub AreTold : List Bool → Bool → List Token → List Element → Type 0
AreTold braces bare before [] = Unit {0}
AreTold braces bare before (note x ∷ es) = EndsNote es × AreTold braces bare before es
AreTold braces bare before (line q ∷ es) = (q ≡ parts_here before es) × AreTold braces bare (with_parting q before) es
AreTold braces bare before (stop ∷ es) = (parts_here before es ≡ true) × AreTold braces bare (token.Separator ∷ before) es
AreTold braces bare before (word p t s x ∷ es) = IsTold bare before p t es × (s ≡ sort_of braces t)
    × (may_follow before t ≡ true) × AreTold (braces_behind t braces) (opens_bare_word t es) (t ∷ before) es

-- ---- elements that were spelled in a text

-- a suffix may stand directly behind the piece
abbrev pub touches : Piece → Bool
touches (Word t) = closes_operand t
touches p = false

abbrev pub is_suffix : Piece → Bool
is_suffix (Word (token.Suffix path)) = true
is_suffix p = false

-- the piece is a function's name, directly before its `(`
abbrev pub calls : Piece → Bool
calls (Word (token.Function name)) = true
calls (Word (token.BangFunction name)) = true
calls p = false

abbrev pub begins_with_word : List Element → Bool
begins_with_word (word p t s x ∷ es) = true
begins_with_word es = false

abbrev pub with_regex : Piece → ℕ → ℕ
with_regex (Word (token.Regex source)) n = suc n
with_regex p n = n

-- somewhere in a text the piece is spelled so, behind so many regex literals
pub record IsClear (regexes : ℕ) (p : Piece) (x : List ℕ) : Type 0 where
  pub before : List Piece
  pub rest : List ℕ
  pub regexes_are : regexes_before before ≡ regexes
  pub begins : Begins before p (x ++ rest) rest

-- from whether a suffix may stand directly behind the last element, and how many regex literals stand
-- before
abbrev pub AreClear : Bool → ℕ → List Element → Type 0
AreClear touch n [] = Unit {0}
AreClear touch n (note x ∷ es) = IsClear n Comment x × AreClear false n es
AreClear touch n (line q ∷ es) = AreClear false n es
AreClear touch n (stop ∷ es) = AreClear false n es
AreClear touch n (word p t s x ∷ es) = IsClear n p x × (is_suffix p ≡ true → touch ≡ true)
    × (calls p ≡ true → begins_with_word es ≡ true) × AreClear (touches p) (with_regex p n) es

-- ---- what a layout writes

-- a piece with its spelling, and the token that it is to be
pub record Plan : Type 0 where
  pub cut : Cut
  pub token : Option Token

abbrev pub cuts_of : List Plan → List Cut
cuts_of plans = map (λ p. p.cut) plans

abbrev pub parting_token : Bool → Option Token
parting_token true = Some token.Separator
parting_token false = None

abbrev pub line_plan : Bool → Plan
line_plan q = record { cut = record { piece = Newline; spelling = 10 ∷ [] }; token = parting_token q }

abbrev pub blank_plan : List ℕ → Plan
blank_plan blanks = record { cut = record { piece = Blank; spelling = blanks }; token = None }

abbrev pub note_plan : List ℕ → Plan
note_plan x = record { cut = record { piece = Comment; spelling = x }; token = None }

abbrev pub word_plan : Piece → Token → List ℕ → Plan
word_plan p t x = record { cut = record { piece = p; spelling = x }; token = Some t }

abbrev pub indent_plans : ℕ → List Plan → List Plan
indent_plans zero later = later
indent_plans (suc blocks) later = blank_plan (indent (suc blocks)) ∷ later

-- a gap before others, whose newlines part items or don't
abbrev pub gap_plans : Gap → ℕ → Bool → List Plan → List Plan
gap_plans nothing blocks q later = later
gap_plans space blocks q later = blank_plan (32 ∷ []) ∷ later
gap_plans (break false) blocks q later = line_plan q ∷ indent_plans blocks later
gap_plans (break true) blocks q later = line_plan q ∷ line_plan q ∷ indent_plans blocks later

-- before the first piece nothing stands
abbrev pub lead_plans : Option Sort → List Between → Sort → ℕ → Bool → List Plan → List Plan
lead_plans None between s blocks q later = later
lead_plans (Some a) between s blocks q later = gap_plans (gap a between s) (blocks_at s blocks) q later

-- behind the last piece a newline stands
abbrev pub end_plans : Option Sort → List Token → List Plan
end_plans None before = []
end_plans (Some a) before = line_plan (parts_here before []) ∷ []

-- behind the last piece of this sort, where so many blocks are open and these tokens stand before
abbrev pub plans : Option Sort → ℕ → List Between → List Token → List Element → List Plan
plans last blocks between before [] = end_plans last before
plans last blocks between before (note x ∷ es) =
    lead_plans last between comment blocks (parts_here before es)
    (note_plan (trimmed x) ∷ plans (Some comment) (blocks_behind comment blocks) [] before es)
plans last blocks between before (line q ∷ es) = plans last blocks (between ++ newline q ∷ []) (with_parting q before) es
plans last blocks between before (stop ∷ es) = plans last blocks (between ++ semicolon ∷ []) (token.Separator ∷ before) es
plans last blocks between before (word p t s x ∷ es) =
    lead_plans last between s blocks (parts_here before (word p t s x ∷ es))
    (word_plan p t x ∷ plans (Some s) (blocks_behind s blocks) [] (t ∷ before) es)

-- each is the token that the rules tell, between the tokens before it and what stands behind it
abbrev pub ArePlanned : ℕ → List Token → List Plan → Type 0
ArePlanned total before [] = Unit {0}
ArePlanned total before (p ∷ ps) = (token_of before p.cut.piece (kept (placed total (cuts_of ps))) ≡ p.token)
    × ArePlanned total (with_token p.token before) ps
