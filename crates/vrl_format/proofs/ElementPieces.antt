-- The elements of cuts tell their pieces, their comments and their tokens.
use Rattle.std.proofs.Common.{◌≡◌, refl, ap, ◌∙◌, length, ℕ, Bool, true, false, List, [], ◌∷◌, ◌++◌, Option, Some}
use Rattle.vrl_diag.specs.declared.diagnostic.Span.{Span}
use Rattle.vrl_token.specs.declared.piece.Lexeme.{Lexeme}
use Rattle.vrl_token.specs.declared.piece.Piece.{Piece}
use Rattle.vrl_token.specs.declared.piece.Piece.TheVariants.{Blank, Comment, Newline, Brace, Bar, Word}
use Rattle.vrl_token.specs.declared.token.Token.{Token}
use Rattle.vrl_token.specs.declared.token.Token.TheVariants as token
use Rattle.vrl_token.specs.Brackets.{bar_token, brace_token, newline_parts, tokens_from, with_spanned, with_token}
use Rattle.vrl_token.specs.Division.{kept}
use Rattle.vrl_format.specs.Comments.{Comment as Noted, comments_of, counted}
use Rattle.vrl_format.specs.Formatting.{tokens_in}
use Rattle.vrl_format.specs.Pieces.{Before, Between, newline, semicolon, braces_behind, comment, opens_bare, Piece as Laid, pieces_of, sort_of, trimmed}
use Rattle.vrl_format.proofs.Cuts.{AreSpelled, Cut, joined, placed}
use Rattle.vrl_format.proofs.ClosesNext.{at_cuts, parting}
use Rattle.vrl_format.proofs.CutTexts.{tokens_cut}
use Rattle.vrl_format.proofs.Elements.{Element, element_at, element_comments, element_pieces, element_tokens, elements, line_element, stop_element, word_element}
use Rattle.vrl_format.proofs.Linked.{cut_at, cut_pieces, linked, newline_cut, semicolon_cut, told_cut}
use Rattle.vrl_format.proofs.LinkedComments.{comments_at, counted_cut, cut_comments, linked_comments}

abbrev before_at : List Bool → Bool → List Between → Before
before_at braces bare between = record { braces = braces; bare = bare; between = between }

abbrev kept_at : ℕ → List Cut → List Lexeme
kept_at total cs = kept (placed total cs)

abbrev pieces_behind : ℕ → List Cut → Before → List Token → List Laid
pieces_behind total cs s before = cut_pieces total s before cs

abbrev comments_behind : ℕ → List Cut → ℕ → List Token → List Noted
comments_behind total cs n before = cut_comments total n before cs

-- the next semicolon behind the token is a piece
abbrev bare_behind : ℕ → List Cut → List Token → Token → Bool
bare_behind total cs before t = opens_bare t (tokens_from (t ∷ before) (kept_at total cs))

-- ---- pieces

abbrev HavePieces : ℕ → List Cut → Type 0
HavePieces total cs = (braces : List Bool) (bare : Bool) (between : List Between) (before : List Token)
    → cut_pieces total (before_at braces bare between) before cs
    ≡ element_pieces between (elements total braces bare before cs)

told_pieces : (total : ℕ) (cs : List Cut) → HavePieces total cs → (braces : List Bool) (bare : Bool)
    (between : List Between) (before : List Token) (p : Piece) (spelling : List ℕ) (t : Token)
    → told_cut (before_at braces bare between) before spelling (kept_at total cs) (pieces_behind total cs) (Some t)
    ≡ element_pieces between
    (word_element braces bare before p spelling (kept_at total cs) (at_cuts total cs) (Some t))
told_pieces total cs have braces bare between before p spelling t =
    ap (λ ps. record { between = between; sort = sort_of braces t; spelling = spelling } ∷ ps)
    (have (braces_behind t braces) (bare_behind total cs before t) [] (t ∷ before))

newline_pieces : (total : ℕ) (cs : List Cut) → HavePieces total cs → (braces : List Bool) (bare : Bool)
    (between : List Between) (before : List Token) (q : Bool)
    → newline_cut (before_at braces bare between) before (pieces_behind total cs) (parting q)
    ≡ element_pieces between
    (line_element braces bare before (at_cuts total cs) (parting q))
newline_pieces total cs have braces bare between before true =
    have braces bare (between ++ newline true ∷ []) (token.Separator ∷ before)
newline_pieces total cs have braces bare between before false =
    have braces bare (between ++ newline false ∷ []) before

semicolon_pieces : (total : ℕ) (cs : List Cut) → HavePieces total cs → (braces : List Bool) (bare : Bool)
    (between : List Between) (before : List Token) (spelling : List ℕ)
    → semicolon_cut (before_at braces bare between) before spelling (kept_at total cs) (pieces_behind total cs) bare
    ≡ element_pieces between
    (stop_element braces before spelling (kept_at total cs) (at_cuts total cs) bare)
semicolon_pieces total cs have braces true between before spelling =
    told_pieces total cs have braces true between before (Word token.Separator) spelling token.Separator
semicolon_pieces total cs have braces false between before spelling =
    have braces false (between ++ semicolon ∷ []) (token.Separator ∷ before)

pieces_have : (total : ℕ) (cs : List Cut) → HavePieces total cs → (braces : List Bool) (bare : Bool)
    (between : List Between) (before : List Token) (p : Piece) (spelling : List ℕ)
    → cut_at (before_at braces bare between) before spelling (kept_at total cs) (pieces_behind total cs) p
    ≡ element_pieces between
    (element_at braces bare before spelling (kept_at total cs) (at_cuts total cs) p)
pieces_have total cs have braces bare between before Blank spelling = have braces bare between before
pieces_have total cs have braces bare between before Comment spelling =
    ap (λ ps. record { between = between; sort = comment; spelling = trimmed spelling } ∷ ps)
    (have braces bare [] before)
pieces_have total cs have braces bare between before Newline spelling =
    newline_pieces total cs have braces bare between before (newline_parts before (kept_at total cs))
pieces_have total cs have braces bare between before (Word token.Separator) spelling =
    semicolon_pieces total cs have braces bare between before spelling
pieces_have total cs have braces bare between before Brace spelling =
    told_pieces total cs have braces bare between before Brace spelling (brace_token before (kept_at total cs))
pieces_have total cs have braces bare between before Bar spelling =
    told_pieces total cs have braces bare between before Bar spelling (bar_token before)
pieces_have total cs have braces bare between before (Word t) spelling =
    told_pieces total cs have braces bare between before (Word t) spelling t

pub pieces_of_elements : (total : ℕ) (cs : List Cut) → HavePieces total cs
pieces_of_elements total [] braces bare between before = refl
pieces_of_elements total (c ∷ cs) braces bare between before =
    pieces_have total cs (pieces_of_elements total cs) braces bare between before c.piece c.spelling

-- ---- comments

abbrev HaveComments : ℕ → List Cut → Type 0
HaveComments total cs = (braces : List Bool) (bare : Bool) (n : ℕ) (before : List Token)
    → cut_comments total n before cs ≡ element_comments n (elements total braces bare before cs)

newline_comments : (total : ℕ) (cs : List Cut) → HaveComments total cs → (braces : List Bool) (bare : Bool) (n : ℕ)
    (before : List Token) (q : Bool)
    → counted_cut n before (comments_behind total cs) (parting q)
    ≡ element_comments n (line_element braces bare before (at_cuts total cs) (parting q))
newline_comments total cs have braces bare n before true = have braces bare n (token.Separator ∷ before)
newline_comments total cs have braces bare n before false = have braces bare n before

semicolon_comments : (total : ℕ) (cs : List Cut) → HaveComments total cs → (braces : List Bool) (bare : Bool) (n : ℕ)
    (before : List Token) (spelling : List ℕ)
    → cut_comments total n (token.Separator ∷ before) cs
    ≡ element_comments n (stop_element braces before spelling (kept_at total cs) (at_cuts total cs) bare)
semicolon_comments total cs have braces true n before spelling = have braces false n (token.Separator ∷ before)
semicolon_comments total cs have braces false n before spelling = have braces false n (token.Separator ∷ before)

comments_have : (total : ℕ) (cs : List Cut) → HaveComments total cs → (braces : List Bool) (bare : Bool) (n : ℕ)
    (before : List Token) (p : Piece) (spelling : List ℕ)
    → comments_at n before spelling (kept_at total cs) (comments_behind total cs) p
    ≡ element_comments n (element_at braces bare before spelling (kept_at total cs) (at_cuts total cs) p)
comments_have total cs have braces bare n before Blank spelling = have braces bare n before
comments_have total cs have braces bare n before Comment spelling =
    ap (λ cs. record { tokens = n; text = trimmed spelling } ∷ cs) (have braces bare n before)
comments_have total cs have braces bare n before Newline spelling =
    newline_comments total cs have braces bare n before (newline_parts before (kept_at total cs))
comments_have total cs have braces bare n before (Word token.Separator) spelling =
    semicolon_comments total cs have braces bare n before spelling
comments_have total cs have braces bare n before Brace spelling =
    let t = brace_token before (kept_at total cs) in
    have (braces_behind t braces) (bare_behind total cs before t) (counted t n) (t ∷ before)
comments_have total cs have braces bare n before Bar spelling =
    let t = bar_token before in
    have (braces_behind t braces) (bare_behind total cs before t) (counted t n) (t ∷ before)
comments_have total cs have braces bare n before (Word t) spelling =
    have (braces_behind t braces) (bare_behind total cs before t) (counted t n) (t ∷ before)

pub comments_of_elements : (total : ℕ) (cs : List Cut) → HaveComments total cs
comments_of_elements total [] braces bare n before = refl
comments_of_elements total (c ∷ cs) braces bare n before =
    comments_have total cs (comments_of_elements total cs) braces bare n before c.piece c.spelling

-- ---- tokens

abbrev HaveTokens : ℕ → List Cut → Type 0
HaveTokens total cs = (braces : List Bool) (bare : Bool) (before : List Token)
    → tokens_in (tokens_from before (kept_at total cs)) ≡ element_tokens (elements total braces bare before cs)

newline_tokens : (total : ℕ) (cs : List Cut) → HaveTokens total cs → (braces : List Bool) (bare : Bool)
    (before : List Token) (span : Span) (q : Bool)
    → let told : Option Token = parting q in
    tokens_in (with_spanned told span (tokens_from (with_token told before) (kept_at total cs)))
    ≡ element_tokens (line_element braces bare before (at_cuts total cs) told)
newline_tokens total cs have braces bare before span true =
    ap (λ ts. token.Separator ∷ ts) (have braces bare (token.Separator ∷ before))
newline_tokens total cs have braces bare before span false = have braces bare before

semicolon_tokens : (total : ℕ) (cs : List Cut) → HaveTokens total cs → (braces : List Bool) (bare : Bool)
    (before : List Token) (spelling : List ℕ)
    → token.Separator ∷ tokens_in (tokens_from (token.Separator ∷ before) (kept_at total cs))
    ≡ element_tokens (stop_element braces before spelling (kept_at total cs) (at_cuts total cs) bare)
semicolon_tokens total cs have braces true before spelling =
    ap (λ ts. token.Separator ∷ ts) (have braces false (token.Separator ∷ before))
semicolon_tokens total cs have braces false before spelling =
    ap (λ ts. token.Separator ∷ ts) (have braces false (token.Separator ∷ before))

told_tokens : (total : ℕ) (cs : List Cut) → HaveTokens total cs → (braces : List Bool) (before : List Token) (t : Token)
    → t ∷ tokens_in (tokens_from (t ∷ before) (kept_at total cs))
    ≡ t ∷ element_tokens (elements total (braces_behind t braces) (bare_behind total cs before t) (t ∷ before) cs)
told_tokens total cs have braces before t =
    ap (λ ts. t ∷ ts) (have (braces_behind t braces) (bare_behind total cs before t) (t ∷ before))

tokens_have : (total : ℕ) (cs : List Cut) → HaveTokens total cs → (braces : List Bool) (bare : Bool)
    (before : List Token) (p : Piece) (spelling : List ℕ) (span : Span)
    → let first : Lexeme = record { piece = p; span = span } in
    tokens_in (tokens_from before (kept (first ∷ placed total cs)))
    ≡ element_tokens (element_at braces bare before spelling (kept_at total cs) (at_cuts total cs) p)
tokens_have total cs have braces bare before Blank spelling span = have braces bare before
tokens_have total cs have braces bare before Comment spelling span = have braces bare before
tokens_have total cs have braces bare before Newline spelling span =
    newline_tokens total cs have braces bare before span (newline_parts before (kept_at total cs))
tokens_have total cs have braces bare before (Word token.Separator) spelling span =
    semicolon_tokens total cs have braces bare before spelling
tokens_have total cs have braces bare before Brace spelling span =
    told_tokens total cs have braces before (brace_token before (kept_at total cs))
tokens_have total cs have braces bare before Bar spelling span =
    told_tokens total cs have braces before (bar_token before)
tokens_have total cs have braces bare before (Word t) spelling span = told_tokens total cs have braces before t

pub tokens_of_elements : (total : ℕ) (cs : List Cut) → HaveTokens total cs
tokens_of_elements total [] braces bare before = refl
tokens_of_elements total (c ∷ cs) braces bare before =
    tokens_have total cs (tokens_of_elements total cs) braces bare before c.piece c.spelling _

-- ---- the text

abbrev pub elements_of : List Cut → List Element
elements_of cs = elements (length (joined cs)) [] false [] cs

pub text_pieces : (cs : List Cut) → AreSpelled [] cs
    → pieces_of (joined cs) (tokens_cut cs) ≡ element_pieces [] (elements_of cs)
text_pieces cs spelled = linked cs spelled ∙ pieces_of_elements (length (joined cs)) cs [] false [] []

pub text_comments : (cs : List Cut) → AreSpelled [] cs
    → comments_of (joined cs) (tokens_cut cs) ≡ element_comments 0 (elements_of cs)
text_comments cs spelled = linked_comments cs spelled ∙ comments_of_elements (length (joined cs)) cs [] false 0 []

pub text_tokens : (cs : List Cut) → tokens_in (tokens_cut cs) ≡ element_tokens (elements_of cs)
text_tokens cs = tokens_of_elements (length (joined cs)) cs [] false []
