-- The pieces of a text, piece by piece of its division.
use Rattle.std.proofs.Common.{◌≡◌, refl, sym, ap, ◌∙◌, subst, ℕ, ◌-◌, ◌==◌, Bool, true, false, List, [], ◌∷◌, ◌++◌, Option, Some, None, length, if◌then◌else◌}
use Rattle.std.specs.List.{list_any}
use Rattle.std.specs.Prelude.{not, ◌&&◌}
use Rattle.std.proofs.lemmas.List.{append_cancel_right}
use Rattle.vrl_diag.specs.declared.diagnostic.Span.{Span}
use Rattle.vrl_token.specs.declared.piece.Lexeme.{Lexeme}
use Rattle.vrl_token.specs.declared.piece.Piece.{Piece}
use Rattle.vrl_token.specs.declared.piece.Piece.TheVariants.{Blank, Comment, Newline, Brace, Bar, Word}
use Rattle.vrl_token.specs.declared.token.Spanned.{Spanned}
use Rattle.vrl_token.specs.declared.token.Token.{Token}
use Rattle.vrl_token.specs.declared.token.Token.TheVariants as token
use Rattle.vrl_token.specs.Brackets.{arrow_before, bar_token, begins_object, block_follows, brace_token, is_bars, newline_parts, open_behind, token_of, tokens_from, with_spanned, with_token}
use Rattle.vrl_token.specs.Division.{kept, span_between}
use Rattle.vrl_token.specs.Pieces.{Begins}
use Rattle.vrl_format.specs.Pieces.{at_start, Before, newline, semicolon, braces_behind, bytes_between, comment, is_semicolon, line_end, opens_bare, Piece as Laid, pieces_at, pieces_from, pieces_of, Remark, remark, remark_pieces, remarks_in, separator_pieces, sort_of, token_pieces, trimmed, with_between}
use Rattle.vrl_format.proofs.Cuts.{AreSpelled, Cut, joined, placed}
use Rattle.vrl_format.proofs.Marks.{is_separator}
use Rattle.vrl_format.proofs.Standing.{Stands, begins_at, noted_at_end, noted_before, over_blank, over_comment, over_newline, past_token, spelled_at, starts}

-- ---- pieces, told by the division

abbrev pub behind_comment : Before → Before
behind_comment s = record { braces = s.braces; bare = s.bare; between = [] }

abbrev pub behind_token : Before → Token → List Spanned → Before
behind_token s t behind = record { braces = braces_behind t s.braces; bare = opens_bare t behind; between = [] }

-- the pieces from one on, where `go` gives those behind
abbrev pub told_cut :
    Before → List Token → List ℕ → List Lexeme → (Before → List Token → List Laid) → Option Token → List Laid
told_cut s before spelling behind go None = go s before
told_cut s before spelling behind go (Some t) =
    record { between = s.between; sort = sort_of s.braces t; spelling = spelling }
    ∷ go (behind_token s t (tokens_from (t ∷ before) behind)) (t ∷ before)

abbrev pub newline_cut : Before → List Token → (Before → List Token → List Laid) → Option Token → List Laid
newline_cut s before go None = go (with_between s (newline false)) before
newline_cut s before go (Some t) = go (with_between s (newline true)) (t ∷ before)

abbrev pub semicolon_cut :
    Before → List Token → List ℕ → List Lexeme → (Before → List Token → List Laid) → Bool → List Laid
semicolon_cut s before spelling behind go true = told_cut s before spelling behind go (Some token.Separator)
semicolon_cut s before spelling behind go false = go (with_between s semicolon) (token.Separator ∷ before)

abbrev pub cut_at : Before → List Token → List ℕ → List Lexeme → (Before → List Token → List Laid) → Piece → List Laid
cut_at s before spelling behind go Blank = go s before
cut_at s before spelling behind go Comment =
    record { between = s.between; sort = comment; spelling = trimmed spelling } ∷ go (behind_comment s) before
cut_at s before spelling behind go Newline = newline_cut s before go (token_of before Newline behind)
cut_at s before spelling behind go (Word token.Separator) = semicolon_cut s before spelling behind go s.bare
cut_at s before spelling behind go p = told_cut s before spelling behind go (token_of before p behind)

abbrev pub cut_pieces : ℕ → Before → List Token → List Cut → List Laid
cut_pieces total s before [] = []
cut_pieces total s before (c ∷ cs) =
    cut_at s before c.spelling (kept (placed total cs)) (λ t ts. cut_pieces total t ts cs) c.piece

-- ---- remarks

pub remark_pieces-append : (s : Before) (rs more : List Remark) (go : Before → List Laid)
    → remark_pieces s (rs ++ more) go ≡ remark_pieces s rs (λ t. remark_pieces t more go)
remark_pieces-append s [] more go = refl
remark_pieces-append s (line_end ∷ rs) more go = remark_pieces-append (with_between s (newline false)) rs more go
remark_pieces-append s (remark text ∷ rs) more go =
    ap (λ ps. record { between = s.between; sort = comment; spelling = trimmed text } ∷ ps)
    (remark_pieces-append (behind_comment s) rs more go)

-- ---- tokens

pub brace_told : (q : Bool) → is_separator (if q then token.OpenObject else token.OpenBlock) ≡ false
brace_told true = refl
brace_told false = refl

pub bar_told : (q r : Bool)
    → is_separator (if q then token.OpenBars else if r then token.CloseBars else token.Merge) ≡ false
bar_told true r = refl
bar_told false true = refl
bar_told false false = refl

told_at : (text : List ℕ) (s : Before) (t : Spanned) (behind : List Spanned) (go : Before → List Laid) (u : Token)
    → is_separator u ≡ false → pieces_at text s t behind go u ≡ token_pieces text s t behind go
told_at text s t behind go token.Separator other = let wrong : true ≡ false = other in cc
told_at text s t behind go u other = refl

-- ---- the text and the cuts

abbrev pub kept_of : List ℕ → List Cut → List Lexeme
kept_of text cs = kept (placed (length text) cs)

abbrev pub tokens_of : List ℕ → List Token → List Cut → List Spanned
tokens_of text ts cs = tokens_from ts (kept_of text cs)

-- the place behind a spelling is the one before these cuts
abbrev pub span_of : List ℕ → List ℕ → List Cut → Span
span_of text spelling cs = span_between (length text) (spelling ++ joined cs) (joined cs)

abbrev spanned : List ℕ → List ℕ → List Cut → Token → Spanned
spanned text spelling cs t = record { token = t; span = span_of text spelling cs }

abbrev from_cuts : List ℕ → List Cut → Before → List Token → List Laid
from_cuts text cs s ts = cut_pieces (length text) s ts cs

abbrev from_tokens : List ℕ → List Cut → List Token → Before → List Laid
from_tokens text cs ts s = pieces_from text (length text - length (joined cs)) s (tokens_of text ts cs)

-- the pieces from a place on are those of the cuts behind it
abbrev AreLinked : List ℕ → List Cut → Type 0
AreLinked text cs = (before : List Piece) (ts : List Token) (place : ℕ) (rs : List Remark) (s : Before)
    → AreSpelled before cs → Stands text place rs (joined cs)
    → pieces_from text place s (tokens_of text ts cs) ≡ remark_pieces s rs (λ t. from_cuts text cs t ts)

-- what is shown of the first cut
abbrev IsLinked : List ℕ → List Cut → List Token → ℕ → List Remark → Before → Piece → List ℕ → Type 0
IsLinked text cs ts place rs s p spelling =
    let first : Lexeme = record { piece = p; span = span_of text spelling cs } in
    pieces_from text place s (tokens_from ts (kept (first ∷ placed (length text) cs)))
    ≡ remark_pieces s rs (λ t. cut_at t ts spelling (kept_of text cs) (from_cuts text cs) p)

over_remarks : {text : List ℕ} {place : ℕ} {rs : List Remark} (rest : List ℕ) (s : Before)
    (go other : Before → List Laid) → Stands text place rs rest → ((next : Before) → go next ≡ other next)
    → remark_pieces s (remarks_in (bytes_between text place (length text - length rest))) go
    ≡ remark_pieces s rs other
over_remarks rest s go other stands same =
    λ i. remark_pieces s (noted_before rest stands i) (λ next. same next i)

-- behind a token
linked_behind : {text : List ℕ} {place : ℕ} {rs : List Remark} (cs : List Cut) → AreLinked text cs
    → (before : List Piece) (ts : List Token) (spelling : List ℕ) (s : Before) → AreSpelled before cs
    → Stands text place rs (spelling ++ joined cs) → from_tokens text cs ts s ≡ from_cuts text cs s ts
linked_behind {text} cs linked before ts spelling s spelled stands =
    linked before ts (length text - length (joined cs)) [] s spelled (past_token spelling (joined cs) stands)

linked_token : {text : List ℕ} {place : ℕ} {rs : List Remark} (cs : List Cut) → AreLinked text cs
    → (before : List Piece) (ts : List Token) (spelling : List ℕ) (u : Token) (s : Before) → AreSpelled before cs
    → Stands text place rs (spelling ++ joined cs)
    → token_pieces text s (spanned text spelling cs u) (tokens_of text (u ∷ ts) cs) (from_tokens text cs (u ∷ ts))
    ≡ told_cut s ts spelling (kept_of text cs) (from_cuts text cs) (Some u)
linked_token {text} cs linked before ts spelling u s spelled stands =
    let next = behind_token s u (tokens_of text (u ∷ ts) cs) in
    let more = linked_behind cs linked before (u ∷ ts) spelling next spelled stands in
    let spelled_so = spelled_at spelling (joined cs) stands in
    λ i. record { between = s.between; sort = sort_of s.braces u; spelling = spelled_so i } ∷ more i

linked_told : {text : List ℕ} (cs : List Cut) → AreLinked text cs → (before : List Piece) (ts : List Token)
    (place : ℕ) (rs : List Remark) (s : Before) (spelling : List ℕ) (u : Token) → is_separator u ≡ false
    → AreSpelled before cs → Stands text place rs (spelling ++ joined cs)
    → pieces_from text place s (spanned text spelling cs u ∷ tokens_of text (u ∷ ts) cs)
    ≡ remark_pieces s rs (λ t. told_cut t ts spelling (kept_of text cs) (from_cuts text cs) (Some u))
linked_told {text} cs linked before ts place rs s spelling u other spelled stands =
    let t = spanned text spelling cs u in
    let behind = tokens_of text (u ∷ ts) cs in
    over_remarks (spelling ++ joined cs) s _ _ stands
    (λ next. told_at text next t behind (from_tokens text cs (u ∷ ts)) u other
    ∙ linked_token cs linked before ts spelling u next spelled stands)

-- ---- separators

-- whether it is a semicolon, and whether that would be a piece
abbrev separator_from : List ℕ → List Cut → List Token → Before → List ℕ → Bool → Bool → List Laid
separator_from text cs ts s spelling stops bare =
    let behind = tokens_of text (token.Separator ∷ ts) cs in
    let go = from_tokens text cs (token.Separator ∷ ts) in
    separator_pieces text s (spanned text spelling cs token.Separator) behind go stops bare

separated : {text : List ℕ} {place : ℕ} {rs : List Remark} (cs : List Cut) (ts : List Token) (s : Before) (b : ℕ)
    → Stands text place rs (b ∷ joined cs)
    → separator_from text cs ts s (b ∷ []) (is_semicolon text (spanned text (b ∷ []) cs token.Separator)) s.bare
    ≡ separator_from text cs ts s (b ∷ []) (b == 59) s.bare
separated {text} cs ts s b stands =
    ap (λ c. separator_from text cs ts s (b ∷ []) (c == 59) s.bare) (begins_at b (joined cs) stands)

linked_newline : {text : List ℕ} (cs : List Cut) → AreLinked text cs → (before : List Piece) (ts : List Token)
    (place : ℕ) (rs : List Remark) (s : Before) (q : Bool) → AreSpelled before cs
    → Stands text place rs (10 ∷ joined cs)
    → let told : Option Token = if q then Some token.Separator else None in
    pieces_from text place s (with_spanned told (span_of text (10 ∷ []) cs) (tokens_of text (with_token told ts) cs))
    ≡ remark_pieces s rs (λ t. newline_cut t ts (from_cuts text cs) told)
linked_newline {text} cs linked before ts place rs s false spelled stands =
    linked before ts place (rs ++ line_end ∷ []) s spelled (over_newline (joined cs) stands)
    ∙ remark_pieces-append s rs (line_end ∷ []) (λ t. from_cuts text cs t ts)
linked_newline {text} cs linked before ts place rs s true spelled stands =
    let us = token.Separator ∷ ts in
    over_remarks (10 ∷ joined cs) s _ _ stands
    (λ next. separated cs ts next 10 stands
    ∙ linked_behind cs linked before us (10 ∷ []) (with_between next (newline true)) spelled stands)

linked_semicolon : {text : List ℕ} {place : ℕ} {rs : List Remark} (cs : List Cut) → AreLinked text cs
    → (before : List Piece) (ts : List Token) (s : Before) (bare : Bool) → AreSpelled before cs
    → Stands text place rs (59 ∷ joined cs)
    → separator_from text cs ts s (59 ∷ []) true bare
    ≡ semicolon_cut s ts (59 ∷ []) (kept_of text cs) (from_cuts text cs) bare
linked_semicolon cs linked before ts s true spelled stands =
    linked_token cs linked before ts (59 ∷ []) token.Separator s spelled stands
linked_semicolon cs linked before ts s false spelled stands =
    linked_behind cs linked before (token.Separator ∷ ts) (59 ∷ []) (with_between s semicolon) spelled stands

-- ---- each piece

linked_piece : {text : List ℕ} (cs : List Cut) → AreLinked text cs → (before : List Piece) (ts : List Token)
    (place : ℕ) (rs : List Remark) (s : Before) (p : Piece) (spelling : List ℕ)
    → Begins before p (spelling ++ joined cs) (joined cs) → AreSpelled (p ∷ before) cs
    → Stands text place rs (spelling ++ joined cs) → IsLinked text cs ts place rs s p spelling
linked_piece cs linked before ts place rs s Blank spelling is spelled stands =
    linked (Blank ∷ before) ts place rs s spelled (over_blank spelling (joined cs) is stands)
linked_piece {text} cs linked before ts place rs s Comment spelling is spelled stands =
    let note = remark spelling ∷ [] in
    linked (Comment ∷ before) ts place (rs ++ note) s spelled (over_comment spelling (joined cs) is stands)
    ∙ remark_pieces-append s rs note (λ t. from_cuts text cs t ts)
linked_piece {text} cs linked before ts place rs s Newline spelling is spelled stands =
    let same = append_cancel_right spelling (10 ∷ []) (joined cs) is in
    let here : Stands text place rs (10 ∷ joined cs) = subst (Stands text place rs) is stands in
    let parting = newline_parts ts (kept_of text cs) in
    subst (IsLinked text cs ts place rs s Newline) (sym same)
    (linked_newline cs linked (Newline ∷ before) ts place rs s parting spelled here)
linked_piece {text} cs linked before ts place rs s Brace spelling is spelled stands =
    let behind = kept_of text cs in
    let told = brace_told (not (block_follows ts) && begins_object behind) in
    linked_told cs linked (Brace ∷ before) ts place rs s spelling (brace_token ts behind) told spelled stands
linked_piece cs linked before ts place rs s Bar spelling is spelled stands =
    let told = bar_told (arrow_before ts) (list_any is_bars (open_behind ts)) in
    linked_told cs linked (Bar ∷ before) ts place rs s spelling (bar_token ts) told spelled stands
linked_piece {text} cs linked before ts place rs s (Word token.Separator) spelling is spelled stands =
    let same = append_cancel_right spelling (59 ∷ []) (joined cs) is in
    let here : Stands text place rs (59 ∷ joined cs) = subst (Stands text place rs) is stands in
    let own = Word token.Separator ∷ before in
    subst (IsLinked text cs ts place rs s (Word token.Separator)) (sym same)
    (over_remarks (59 ∷ joined cs) s _ _ here
    (λ next. separated cs ts next 59 here ∙ linked_semicolon cs linked own ts next next.bare spelled here))
linked_piece cs linked before ts place rs s (Word u) spelling is spelled stands =
    linked_told cs linked (Word u ∷ before) ts place rs s spelling u refl spelled stands

pub linked_from : (text : List ℕ) (cs : List Cut) → AreLinked text cs
linked_from text [] before ts place rs s spelled stands =
    ap (λ r. remark_pieces s r (λ last. [])) (noted_at_end stands)
linked_from text (c ∷ cs) before ts place rs s spelled stands =
    linked_piece cs (linked_from text cs) before ts place rs s c.piece c.spelling spelled.0 spelled.1 stands

-- the pieces of a text that is cut so
pub linked : (cs : List Cut) → AreSpelled [] cs
    → pieces_of (joined cs) (tokens_from [] (kept (placed (length (joined cs)) cs)))
    ≡ cut_pieces (length (joined cs)) at_start [] cs
linked cs spelled = linked_from (joined cs) cs [] [] 0 [] at_start spelled (starts (joined cs))
