-- What stands ahead of a place among the pieces, and among the elements that they are.
use Rattle.std.proofs.Common.{◌≡◌, refl, sym, ap, ◌∙◌, subst, ℕ, Bool, true, false, ◌&&◌, ◌||◌, not, if◌then◌else◌, List, [], ◌∷◌, Option, Some, None}
use Rattle.std.proofs.lemmas.Bool.{false≢true, or_parts}
use Rattle.std.specs.List.{list_any}
use Rattle.vrl_diag.specs.declared.diagnostic.Span.{Span}
use Rattle.vrl_token.specs.declared.piece.Lexeme.{Lexeme}
use Rattle.vrl_token.specs.declared.piece.Piece.{Piece}
use Rattle.vrl_token.specs.declared.piece.Piece.TheVariants.{Blank, Comment, Newline, Brace, Bar, Word}
use Rattle.vrl_token.specs.declared.token.Token.{Token}
use Rattle.vrl_token.specs.declared.token.Token.TheVariants as token
use Rattle.vrl_token.specs.Brackets.{behind_first, begins_object, block_follows, brace_token, encloses, first_is, goes_on_behind, is_bars, is_close_brace, is_colon, is_text, joins, joins_piece, newline_parts, next_pieces, open_behind, token_of, tokens_from}
use Rattle.vrl_token.specs.Division.{kept}
use Rattle.vrl_format.proofs.Joining.{AreJoined, begins_key, colon_fits, is_behind, is_wanted, may_follow}
use Rattle.vrl_format.specs.Pieces.{braces_behind, opens_bare, closes_next}
use Rattle.vrl_format.proofs.Cuts.{Cut, placed}
use Rattle.vrl_format.proofs.Elements.{Behind, Element, note, line, stop, word, closes_next_word, element_at, element_tokens, elements, first_word, line_element, object_follows, second_word, stop_element}
use Rattle.vrl_format.proofs.ClosesNext.{at_cuts, closes_same, parting}

-- ---- what may not follow

abbrev pub Joined : List Token → List Element → Type 0
Joined before es = AreJoined before (element_tokens es)

pub separator_is_free : (before : List Token) → may_follow before token.Separator ≡ true
    → (encloses (open_behind before) ≡ false) × (goes_on_behind before ≡ false)
separator_is_free before may =
    parts (encloses (open_behind before)) (goes_on_behind before) (is_wanted before token.Separator) may
  where
    parts : (e g w : Bool) → ((not e && not g) && w) ≡ true → (e ≡ false) × (g ≡ false)
    parts false false w may = (refl, refl)
    parts false true w may = absurd (false≢true may)
    parts true g w may = absurd (false≢true may)

enclosed_apart : (before : List Token) → encloses (open_behind before) ≡ true
    → may_follow before token.Separator ≡ true → ⊥
enclosed_apart before is may = false≢true (sym (separator_is_free before may).0 ∙ is)

-- ---- no line joins behind a separator

-- the elements behind a separator go on with no item
abbrev pub JoinsNone : Behind → Type 0
JoinsNone go = (bs : List Bool) (b : Bool) (ts : List Token)
    → Joined (token.Separator ∷ ts) (go bs b (token.Separator ∷ ts))
    → first_word joins_piece (go bs b (token.Separator ∷ ts)) ≡ false

line_joins_none : (braces : List Bool) (bare : Bool) (before : List Token) (go : Behind) → JoinsNone go → (q : Bool)
    → Joined (token.Separator ∷ before) (line_element braces bare (token.Separator ∷ before) go (parting q))
    → first_word joins_piece (line_element braces bare (token.Separator ∷ before) go (parting q)) ≡ false
line_joins_none braces bare before go none true joined = none braces bare (token.Separator ∷ before) joined.1
line_joins_none braces bare before go none false joined = none braces bare before joined

stop_joins_none : (braces : List Bool) (before : List Token) (x : List ℕ) (ls : List Lexeme) (go : Behind)
    → JoinsNone go → (bare : Bool)
    → Joined (token.Separator ∷ before) (stop_element braces (token.Separator ∷ before) x ls go bare)
    → first_word joins_piece (stop_element braces (token.Separator ∷ before) x ls go bare) ≡ false
stop_joins_none braces before x ls go none true joined = refl
stop_joins_none braces before x ls go none false joined = none braces false (token.Separator ∷ before) joined.1

no_bar : (before : List Token) (some : Bool)
    → may_follow (token.Separator ∷ before) (if some then token.CloseBars else token.Merge) ≡ true → ⊥
no_bar before true may = false≢true may
no_bar before false may = false≢true may

piece_joins_none : (braces : List Bool) (bare : Bool) (before : List Token) (x : List ℕ) (ls : List Lexeme)
    (go : Behind) → JoinsNone go → (p : Piece)
    → Joined (token.Separator ∷ before) (element_at braces bare (token.Separator ∷ before) x ls go p)
    → first_word joins_piece (element_at braces bare (token.Separator ∷ before) x ls go p) ≡ false
piece_joins_none braces bare before x ls go none Blank joined = none braces bare before joined
piece_joins_none braces bare before x ls go none Comment joined = none braces bare before joined
piece_joins_none braces bare before x ls go none Newline joined =
    line_joins_none braces bare before go none (newline_parts (token.Separator ∷ before) ls) joined
piece_joins_none braces bare before x ls go none Brace joined = refl
piece_joins_none braces bare before x ls go none Bar joined =
    absurd (no_bar before (list_any is_bars (open_behind (token.Separator ∷ before))) joined.0)
piece_joins_none braces bare before x ls go none (Word token.Separator) joined =
    stop_joins_none braces before x ls go none bare joined
piece_joins_none braces bare before x ls go none (Word token.Coalesce) joined = absurd (false≢true joined.0)
piece_joins_none braces bare before x ls go none (Word token.Or) joined = absurd (false≢true joined.0)
piece_joins_none braces bare before x ls go none (Word token.And) joined = absurd (false≢true joined.0)
piece_joins_none braces bare before x ls go none (Word token.Else) joined = absurd (false≢true joined.0)
piece_joins_none braces bare before x ls go none (Word t) joined = refl

pub joins_none : (total : ℕ) (cs : List Cut) → JoinsNone (at_cuts total cs)
joins_none total [] braces bare before joined = refl
joins_none total (c ∷ cs) braces bare before joined =
    piece_joins_none braces bare before c.spelling (kept (placed total cs))
    (at_cuts total cs) (joins_none total cs) c.piece joined

-- ---- whether a line joins

abbrev pub JoinsSame : List Lexeme → Behind → Type 0
JoinsSame ls go = (bs : List Bool) (b : Bool) (ts : List Token) → Joined ts (go bs b ts)
    → joins ls ≡ first_word joins_piece (go bs b ts)

line_joins : (braces : List Bool) (bare : Bool) (before : List Token) (ls : List Lexeme) (go : Behind) → JoinsSame ls go
    → (q : Bool) → Joined before (line_element braces bare before go (parting q))
    → joins ls ≡ first_word joins_piece (line_element braces bare before go (parting q))
line_joins braces bare before ls go same true joined = same braces bare (token.Separator ∷ before) joined.1
line_joins braces bare before ls go same false joined = same braces bare before joined

stop_joins : (braces : List Bool) (before : List Token) (x : List ℕ) (ls : List Lexeme) (go : Behind) → JoinsNone go
    → (bare : Bool) → Joined before (stop_element braces before x ls go bare)
    → false ≡ first_word joins_piece (stop_element braces before x ls go bare)
stop_joins braces before x ls go none true joined = refl
stop_joins braces before x ls go none false joined = sym (none braces false before joined.1)

piece_joins : (braces : List Bool) (bare : Bool) (before : List Token) (x : List ℕ) (span : Span) (ps : List Lexeme)
    (go : Behind) → JoinsNone go → JoinsSame (kept ps) go → (p : Piece)
    → Joined before (element_at braces bare before x (kept ps) go p)
    → joins (kept (record { piece = p; span = span } ∷ ps))
    ≡ first_word joins_piece (element_at braces bare before x (kept ps) go p)
piece_joins braces bare before x span ps go none same Blank joined = same braces bare before joined
piece_joins braces bare before x span ps go none same Comment joined = same braces bare before joined
piece_joins braces bare before x span ps go none same Newline joined =
    line_joins braces bare before (kept ps) go same (newline_parts before (kept ps)) joined
piece_joins braces bare before x span ps go none same Brace joined = refl
piece_joins braces bare before x span ps go none same Bar joined = refl
piece_joins braces bare before x span ps go none same (Word token.Separator) joined =
    stop_joins braces before x (kept ps) go none bare joined
piece_joins braces bare before x span ps go none same (Word t) joined = refl

pub joins_same : (total : ℕ) (cs : List Cut) → JoinsSame (kept (placed total cs)) (at_cuts total cs)
joins_same total [] braces bare before joined = refl
joins_same total (c ∷ cs) braces bare before joined = piece_joins braces bare before c.spelling _ (placed total cs)
    (at_cuts total cs) (joins_none total cs) (joins_same total cs) c.piece joined

-- ---- the first word in a bracket that encloses

abbrev Enclosed : List Token → Type 0
Enclosed before = encloses (open_behind before) ≡ true

abbrev FirstSame : (Piece → Bool) → List Lexeme → Behind → Type 0
FirstSame test ls go = (bs : List Bool) (b : Bool) (ts : List Token) → Enclosed ts → Joined ts (go bs b ts)
    → first_word test (go bs b ts) ≡ first_is test (next_pieces ls)

line_first : (test : Piece → Bool) (braces : List Bool) (bare : Bool) (before : List Token) (ls : List Lexeme)
    (go : Behind) → FirstSame test ls go → (q : Bool) → Enclosed before
    → Joined before (line_element braces bare before go (parting q))
    → first_word test (line_element braces bare before go (parting q)) ≡ first_is test (next_pieces ls)
line_first test braces bare before ls go same true around joined = absurd (enclosed_apart before around joined.0)
line_first test braces bare before ls go same false around joined = same braces bare before around joined

-- no semicolon stands in such a bracket
stop_enclosed : (braces : List Bool) (before : List Token) (x : List ℕ) (ls : List Lexeme) (go : Behind) (bare : Bool)
    → Enclosed before → Joined before (stop_element braces before x ls go bare) → ⊥
stop_enclosed braces before x ls go true around joined = enclosed_apart before around joined.0
stop_enclosed braces before x ls go false around joined = enclosed_apart before around joined.0

piece_first : (test : Piece → Bool) (braces : List Bool) (bare : Bool) (before : List Token) (x : List ℕ) (span : Span)
    (ps : List Lexeme) (go : Behind)
    → FirstSame test (kept ps) go → (p : Piece) → Enclosed before
    → Joined before (element_at braces bare before x (kept ps) go p)
    → first_word test (element_at braces bare before x (kept ps) go p)
    ≡ first_is test (next_pieces (kept (record { piece = p; span = span } ∷ ps)))
piece_first test braces bare before x span ps go same Blank around joined = same braces bare before around joined
piece_first test braces bare before x span ps go same Comment around joined = same braces bare before around joined
piece_first test braces bare before x span ps go same Newline around joined =
    line_first test braces bare before (kept ps) go same (newline_parts before (kept ps)) around joined
piece_first test braces bare before x span ps go same Brace around joined = refl
piece_first test braces bare before x span ps go same Bar around joined = refl
piece_first test braces bare before x span ps go same (Word token.Separator) around joined =
    absurd (stop_enclosed braces before x (kept ps) go bare around joined)
piece_first test braces bare before x span ps go same (Word t) around joined = refl

first_same : (test : Piece → Bool) (total : ℕ) (cs : List Cut)
    → FirstSame test (kept (placed total cs)) (at_cuts total cs)
first_same test total [] braces bare before around joined = refl
first_same test total (c ∷ cs) braces bare before around joined =
    piece_first test braces bare before c.spelling _ (placed total cs)
    (at_cuts total cs) (first_same test total cs) c.piece around joined

-- ---- a key in a bracket that encloses

abbrev key_follows : List Element → Bool
key_follows es = first_word is_text es && second_word is_colon es

abbrev begins_key_in : List Lexeme → Bool
begins_key_in ls = first_is is_text (next_pieces ls) && first_is is_colon (next_pieces (behind_first (next_pieces ls)))

abbrev KeySame : List Lexeme → Behind → Type 0
KeySame ls go = (bs : List Bool) (b : Bool) (ts : List Token) → Enclosed ts → Joined ts (go bs b ts)
    → key_follows (go bs b ts) ≡ begins_key_in ls

line_key : (braces : List Bool) (bare : Bool) (before : List Token) (ls : List Lexeme) (go : Behind) → KeySame ls go
    → (q : Bool) → Enclosed before → Joined before (line_element braces bare before go (parting q))
    → key_follows (line_element braces bare before go (parting q)) ≡ begins_key_in ls
line_key braces bare before ls go same true around joined = absurd (enclosed_apart before around joined.0)
line_key braces bare before ls go same false around joined = same braces bare before around joined

piece_key : (braces : List Bool) (bare : Bool) (before : List Token) (x : List ℕ) (span : Span) (ps : List Lexeme)
    (go : Behind) → FirstSame is_colon (kept ps) go → KeySame (kept ps) go → (p : Piece) → Enclosed before
    → Joined before (element_at braces bare before x (kept ps) go p)
    → key_follows (element_at braces bare before x (kept ps) go p)
    ≡ begins_key_in (kept (record { piece = p; span = span } ∷ ps))
piece_key braces bare before x span ps go colon same Blank around joined = same braces bare before around joined
piece_key braces bare before x span ps go colon same Comment around joined = same braces bare before around joined
piece_key braces bare before x span ps go colon same Newline around joined =
    line_key braces bare before (kept ps) go same (newline_parts before (kept ps)) around joined
piece_key braces bare before x span ps go colon same Brace around joined = refl
piece_key braces bare before x span ps go colon same Bar around joined = refl
piece_key braces bare before x span ps go colon same (Word token.Separator) around joined =
    absurd (stop_enclosed braces before x (kept ps) go bare around joined)
piece_key braces bare before x span ps go colon same (Word (token.Text s)) around joined =
    colon braces false (token.Text s ∷ before) around joined.1
piece_key braces bare before x span ps go colon same (Word (token.Template s holes)) around joined =
    colon braces false (token.Template s holes ∷ before) around joined.1
piece_key braces bare before x span ps go colon same (Word t) around joined = refl

key_same : (total : ℕ) (cs : List Cut) → KeySame (kept (placed total cs)) (at_cuts total cs)
key_same total [] braces bare before around joined = refl
key_same total (c ∷ cs) braces bare before around joined = piece_key braces bare before c.spelling _ (placed total cs)
    (at_cuts total cs) (first_same is_colon total cs) (key_same total cs) c.piece around joined

object_same : (total : ℕ) (cs : List Cut) (braces : List Bool) (bare : Bool) (before : List Token) → Enclosed before
    → Joined before (elements total braces bare before cs)
    → object_follows (elements total braces bare before cs) ≡ begins_object (kept (placed total cs))
object_same total cs braces bare before around joined = λ i.
    first_same is_close_brace total cs braces bare before around joined i
    || key_same total cs braces bare before around joined i

-- ---- no key where none may begin

abbrev ColonNone : Behind → Type 0
ColonNone go = (bs : List Bool) (b : Bool) (ts : List Token) → colon_fits ts ≡ false → Joined ts (go bs b ts)
    → first_word is_colon (go bs b ts) ≡ false

line_colon : (braces : List Bool) (bare : Bool) (before : List Token) (go : Behind) → ColonNone go → (q : Bool)
    → colon_fits before ≡ false → Joined before (line_element braces bare before go (parting q))
    → first_word is_colon (line_element braces bare before go (parting q)) ≡ false
line_colon braces bare before go none true free joined = none braces bare (token.Separator ∷ before) refl joined.1
line_colon braces bare before go none false free joined = none braces bare before free joined

stop_colon : (braces : List Bool) (before : List Token) (x : List ℕ) (ls : List Lexeme) (go : Behind) → ColonNone go
    → (bare : Bool) → Joined before (stop_element braces before x ls go bare)
    → first_word is_colon (stop_element braces before x ls go bare) ≡ false
stop_colon braces before x ls go none true joined = refl
stop_colon braces before x ls go none false joined = none braces false (token.Separator ∷ before) refl joined.1

unfit_colon : (before : List Token) → colon_fits before ≡ false → may_follow before token.Colon ≡ true → ⊥
unfit_colon before free may = false≢true (sym (ap (λ f. f && is_wanted before token.Colon) free) ∙ may)

piece_colon : (braces : List Bool) (bare : Bool) (before : List Token) (x : List ℕ) (ls : List Lexeme) (go : Behind)
    → ColonNone go → (p : Piece) → colon_fits before ≡ false → Joined before (element_at braces bare before x ls go p)
    → first_word is_colon (element_at braces bare before x ls go p) ≡ false
piece_colon braces bare before x ls go none Blank free joined = none braces bare before free joined
piece_colon braces bare before x ls go none Comment free joined = none braces bare before free joined
piece_colon braces bare before x ls go none Newline free joined =
    line_colon braces bare before go none (newline_parts before ls) free joined
piece_colon braces bare before x ls go none Brace free joined = refl
piece_colon braces bare before x ls go none Bar free joined = refl
piece_colon braces bare before x ls go none (Word token.Separator) free joined =
    stop_colon braces before x ls go none bare joined
piece_colon braces bare before x ls go none (Word token.Colon) free joined = absurd (unfit_colon before free joined.0)
piece_colon braces bare before x ls go none (Word t) free joined = refl

colon_none : (total : ℕ) (cs : List Cut) → ColonNone (at_cuts total cs)
colon_none total [] braces bare before free joined = refl
colon_none total (c ∷ cs) braces bare before free joined =
    piece_colon braces bare before c.spelling (kept (placed total cs))
    (at_cuts total cs) (colon_none total cs) c.piece free joined

abbrev KeyNone : Behind → Type 0
KeyNone go = (bs : List Bool) (b : Bool) (ts : List Token) → is_behind begins_key ts ≡ false → Joined ts (go bs b ts)
    → key_follows (go bs b ts) ≡ false

line_no_key : (braces : List Bool) (bare : Bool) (before : List Token) (go : Behind) → KeyNone go → (q : Bool)
    → is_behind begins_key before ≡ false → Joined before (line_element braces bare before go (parting q))
    → key_follows (line_element braces bare before go (parting q)) ≡ false
line_no_key braces bare before go none true free joined = none braces bare (token.Separator ∷ before) refl joined.1
line_no_key braces bare before go none false free joined = none braces bare before free joined

stop_no_key : (braces : List Bool) (before : List Token) (x : List ℕ) (ls : List Lexeme) (go : Behind) → KeyNone go
    → (bare : Bool) → Joined before (stop_element braces before x ls go bare)
    → key_follows (stop_element braces before x ls go bare) ≡ false
stop_no_key braces before x ls go none true joined = refl
stop_no_key braces before x ls go none false joined = none braces false (token.Separator ∷ before) refl joined.1

piece_no_key : (braces : List Bool) (bare : Bool) (before : List Token) (x : List ℕ) (ls : List Lexeme) (go : Behind)
    → ColonNone go → KeyNone go → (p : Piece) → is_behind begins_key before ≡ false
    → Joined before (element_at braces bare before x ls go p)
    → key_follows (element_at braces bare before x ls go p) ≡ false
piece_no_key braces bare before x ls go colon none Blank free joined = none braces bare before free joined
piece_no_key braces bare before x ls go colon none Comment free joined = none braces bare before free joined
piece_no_key braces bare before x ls go colon none Newline free joined =
    line_no_key braces bare before go none (newline_parts before ls) free joined
piece_no_key braces bare before x ls go colon none Brace free joined = refl
piece_no_key braces bare before x ls go colon none Bar free joined = refl
piece_no_key braces bare before x ls go colon none (Word token.Separator) free joined =
    stop_no_key braces before x ls go none bare joined
piece_no_key braces bare before x ls go colon none (Word (token.Text s)) free joined =
    colon braces false (token.Text s ∷ before) free joined.1
piece_no_key braces bare before x ls go colon none (Word (token.Template s holes)) free joined =
    colon braces false (token.Template s holes ∷ before) refl joined.1
piece_no_key braces bare before x ls go colon none (Word t) free joined = refl

key_none : (total : ℕ) (cs : List Cut) → KeyNone (at_cuts total cs)
key_none total [] braces bare before free joined = refl
key_none total (c ∷ cs) braces bare before free joined =
    piece_no_key braces bare before c.spelling (kept (placed total cs))
    (at_cuts total cs) (colon_none total cs) (key_none total cs) c.piece free joined

-- ---- the first word where a semicolon is one

abbrev BareSame : (Piece → Bool) → List Lexeme → Behind → Type 0
BareSame test ls go = (bs : List Bool) (ts : List Token)
    → first_word test (go bs true ts) ≡ first_is test (next_pieces ls)

line_bare : (test : Piece → Bool) (braces : List Bool) (before : List Token) (ls : List Lexeme) (go : Behind)
    → BareSame test ls go → (t : Option Token)
    → first_word test (line_element braces true before go t) ≡ first_is test (next_pieces ls)
line_bare test braces before ls go same None = same braces before
line_bare test braces before ls go same (Some t) = same braces (t ∷ before)

piece_bare : (test : Piece → Bool) (braces : List Bool) (before : List Token) (x : List ℕ) (span : Span)
    (ps : List Lexeme) (go : Behind)
    → BareSame test (kept ps) go → (p : Piece)
    → first_word test (element_at braces true before x (kept ps) go p)
    ≡ first_is test (next_pieces (kept (record { piece = p; span = span } ∷ ps)))
piece_bare test braces before x span ps go same Blank = same braces before
piece_bare test braces before x span ps go same Comment = same braces before
piece_bare test braces before x span ps go same Newline =
    line_bare test braces before (kept ps) go same (token_of before Newline (kept ps))
piece_bare test braces before x span ps go same Brace = refl
piece_bare test braces before x span ps go same Bar = refl
piece_bare test braces before x span ps go same (Word token.Separator) = refl
piece_bare test braces before x span ps go same (Word t) = refl

bare_same : (test : Piece → Bool) (total : ℕ) (cs : List Cut)
    → BareSame test (kept (placed total cs)) (at_cuts total cs)
bare_same test total [] braces before = refl
bare_same test total (c ∷ cs) braces before = piece_bare test braces before c.spelling _ (placed total cs)
    (at_cuts total cs) (bare_same test total cs) c.piece

-- ---- what a brace opens

none_closes : (es : List Element) → closes_next_word es ≡ false → first_word is_close_brace es ≡ false
none_closes [] none = refl
none_closes (note x ∷ es) none = none_closes es none
none_closes (line q ∷ es) none = none_closes es none
none_closes (stop ∷ es) none = none_closes es none
none_closes (word (Word token.Separator) t s x ∷ es) none = refl
none_closes (word (Word u) t s x ∷ es) none = none
none_closes (word Blank t s x ∷ es) none = refl
none_closes (word Comment t s x ∷ es) none = refl
none_closes (word Newline t s x ∷ es) none = refl
none_closes (word Brace t s x ∷ es) none = refl
none_closes (word Bar t s x ∷ es) none = refl

-- behind the brace of a block no `}` comes first where the next piece is none
block_closes : (total : ℕ) (cs : List Cut) (braces : List Bool) (bare : Bool) (before : List Token)
    → bare ≡ closes_next_word (elements total braces bare before cs)
    → first_is is_close_brace (next_pieces (kept (placed total cs))) ≡ false
    → first_word is_close_brace (elements total braces bare before cs) ≡ false
block_closes total cs braces true before is none = bare_same is_close_brace total cs braces before ∙ none
block_closes total cs braces false before is none = none_closes (elements total braces false before cs) (sym is)

-- the elements behind a word that is this token
abbrev pub behind_word : ℕ → List Cut → List Bool → List Token → Token → List Element
behind_word total cs braces before t =
    elements total (braces_behind t braces) (opens_bare t (tokens_from (t ∷ before) (kept (placed total cs))))
    (t ∷ before) cs

block_follows_none : (total : ℕ) (cs : List Cut) (braces : List Bool) (before : List Token)
    → Joined (token.OpenBlock ∷ before) (behind_word total cs braces before token.OpenBlock)
    → begins_object (kept (placed total cs)) ≡ false
    → object_follows (behind_word total cs braces before token.OpenBlock) ≡ false
block_follows_none total cs braces before joined none =
    let bare = closes_next (tokens_from (token.OpenBlock ∷ before) (kept (placed total cs))) in
    let closes = block_closes total cs (true ∷ braces) bare (token.OpenBlock ∷ before)
    (closes_same total (true ∷ braces) bare (token.OpenBlock ∷ before) cs) (or_parts _ _ none).0 in
    let key = key_none total cs (true ∷ braces) bare (token.OpenBlock ∷ before) refl joined in
    λ i. closes i || key i

abbrev brace_of : Bool → Token
brace_of object = if object then token.OpenObject else token.OpenBlock

brace_is : (total : ℕ) (cs : List Cut) (braces : List Bool) (before : List Token) (follows object : Bool)
    → begins_object (kept (placed total cs)) ≡ object
    → Joined (brace_of (not follows && object) ∷ before)
    (behind_word total cs braces before (brace_of (not follows && object)))
    → brace_of (not follows && object)
    ≡ brace_of (not follows
    && object_follows (behind_word total cs braces before (brace_of (not follows && object))))
brace_is total cs braces before true object is joined = refl
brace_is total cs braces before false true is joined = ap brace_of
    (sym (object_same total cs (false ∷ braces) false (token.OpenObject ∷ before) refl joined ∙ is))
brace_is total cs braces before false false is joined = ap brace_of
    (sym (block_follows_none total cs braces before joined is))

-- a brace is told by the elements behind it as by the pieces
pub brace_told : (total : ℕ) (cs : List Cut) (braces : List Bool) (before : List Token) (t : Token)
    → t ≡ brace_token before (kept (placed total cs)) → Joined (t ∷ before) (behind_word total cs braces before t)
    → t ≡ (if not (block_follows before) && object_follows (behind_word total cs braces before t)
    then token.OpenObject else token.OpenBlock)
brace_told total cs braces before t is =
    subst (λ u. Joined (u ∷ before) (behind_word total cs braces before u)
    → u ≡ brace_of (not (block_follows before) && object_follows (behind_word total cs braces before u)))
    (sym is)
    (brace_is total cs braces before (block_follows before) (begins_object (kept (placed total cs))) refl)
