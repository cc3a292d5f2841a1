-- A layout that is written from front to end is the layout of the pieces.
use Rattle.std.proofs.Common.{◌≡◌, ℕ, Bool, true, false, ◌||◌, List, [], ◌∷◌, ◌++◌, drop, Option, Some, None, refl, sym, ap, ◌∙◌, append_assoc, append-nil}
use Rattle.std.specs.List.{list_any}
use Rattle.vrl_token.specs.declared.token.Spanned.{Spanned}
use Rattle.vrl_token.specs.declared.token.Token.{Token}
use Rattle.vrl_token.specs.declared.token.Token.TheVariants as token
use Rattle.vrl_format.specs.Layout.{blocks_at, blocks_behind, gap, gap_text, has_empty_line, is_newline, layout, layout_behind, parts}
use Rattle.vrl_format.specs.Pieces.{Before, Between, newline, semicolon, Piece, Remark, line_end, remark, Sort, comment, braces_behind, bytes_between, is_semicolon, opens_bare, pieces_at, pieces_from, pieces_of, remark_pieces, remarks_in, separator_pieces, sort_of, spelling_at, trimmed}
use Rattle.vrl_format.specs.Writing.{Walking, Writing, at_first, ended, lead, noted, put, put_separator, see, taken, walked, with_seen}
use Rattle.vrl_format.specs.declared.gap.Seen.{Seen}
use Rattle.vrl_format.proofs.Tests.{any_more, or_all, or_nothing}

-- ---- what is seen of what stands between two pieces

abbrev ends_at_newline : List Between → Bool
ends_at_newline [] = false
ends_at_newline (b ∷ []) = is_newline b
ends_at_newline (b ∷ c ∷ cs) = ends_at_newline (c ∷ cs)

abbrev summary : List Between → Seen
summary bs = record { separator = list_any parts bs; newline = list_any is_newline bs; empty_line = has_empty_line bs; at_newline = ends_at_newline bs }

empty_behind_newline : (bs : List Between) (q : Bool) → has_empty_line (bs ++ newline q ∷ []) ≡ (has_empty_line bs || ends_at_newline bs)
empty_behind_newline [] q = refl
empty_behind_newline (newline p ∷ []) q = refl
empty_behind_newline (semicolon ∷ []) q = refl
empty_behind_newline (newline p ∷ newline r ∷ cs) q = refl
empty_behind_newline (newline p ∷ semicolon ∷ cs) q = empty_behind_newline (semicolon ∷ cs) q
empty_behind_newline (semicolon ∷ newline r ∷ cs) q = empty_behind_newline (newline r ∷ cs) q
empty_behind_newline (semicolon ∷ semicolon ∷ cs) q = empty_behind_newline (semicolon ∷ cs) q

empty_behind_semicolon : (bs : List Between) → has_empty_line (bs ++ semicolon ∷ []) ≡ has_empty_line bs
empty_behind_semicolon [] = refl
empty_behind_semicolon (newline p ∷ []) = refl
empty_behind_semicolon (semicolon ∷ []) = refl
empty_behind_semicolon (newline p ∷ newline r ∷ cs) = refl
empty_behind_semicolon (newline p ∷ semicolon ∷ cs) = empty_behind_semicolon (semicolon ∷ cs)
empty_behind_semicolon (semicolon ∷ newline r ∷ cs) = empty_behind_semicolon (newline r ∷ cs)
empty_behind_semicolon (semicolon ∷ semicolon ∷ cs) = empty_behind_semicolon (semicolon ∷ cs)

end_behind : (bs : List Between) (b : Between) → ends_at_newline (bs ++ b ∷ []) ≡ is_newline b
end_behind [] b = refl
end_behind (a ∷ []) b = refl
end_behind (a ∷ c ∷ cs) b = end_behind (c ∷ cs) b

same_seen : (a b c d e f g h : Bool) → a ≡ e → b ≡ f → c ≡ g → d ≡ h → let one : Seen = record { separator = a; newline = b; empty_line = c; at_newline = d } in let two : Seen = record { separator = e; newline = f; empty_line = g; at_newline = h } in one ≡ two
same_seen a b c d e f g h first second third fourth = λ i. record { separator = first i; newline = second i; empty_line = third i; at_newline = fourth i }

seen_more : (bs : List Between) (b : Between) → summary (bs ++ b ∷ []) ≡ see (summary bs) b
seen_more bs (newline parting) =
    same_seen _ _ _ _ _ _ _ _ (any_more parts bs (newline parting)) (any_more is_newline bs (newline parting) ∙ or_all (list_any is_newline bs)) (empty_behind_newline bs parting) (end_behind bs (newline parting))
seen_more bs semicolon =
    same_seen _ _ _ _ _ _ _ _ (any_more parts bs semicolon ∙ or_all (list_any parts bs)) (any_more is_newline bs semicolon ∙ or_nothing (list_any is_newline bs)) (empty_behind_semicolon bs) (end_behind bs semicolon)

-- ---- what the pieces left make of what is written

abbrev writing_at : List ℕ → Option Sort → ℕ → List Between → Writing
writing_at x last n bs = record { text = x; last = last; blocks = n; seen = summary bs }

writing_more : (x : List ℕ) (last : Option Sort) (n : ℕ) (bs : List Between) (b : Between) → writing_at x last n (bs ++ b ∷ []) ≡ with_seen (writing_at x last n bs) b
writing_more x last n bs b = let made : Seen → Writing = λ s. record { text = x; last = last; blocks = n; seen = s } in ap made (seen_more bs b)

abbrev layout_first : ℕ → List Piece → List ℕ
layout_first n [] = []
layout_first n (p ∷ ps) = p.spelling ++ layout_behind p.sort (blocks_behind p.sort n) ps

abbrev laid : List ℕ → Option Sort → ℕ → List Piece → List ℕ
laid x None n ps = x ++ layout_first n ps
laid x (Some a) n ps = x ++ layout_behind a n ps

regrouped : (x a b c : List ℕ) → x ++ (a ++ (b ++ c)) ≡ ((x ++ a) ++ b) ++ c
regrouped x a b c = sym (append_assoc x a (b ++ c)) ∙ sym (append_assoc (x ++ a) b c)

laid_piece : (x : List ℕ) (last : Option Sort) (n : ℕ) (bs : List Between) (s : Sort) (spelling : List ℕ) (ps : List Piece) →
    laid x last n (record { between = bs; sort = s; spelling = spelling } ∷ ps) ≡ laid ((x ++ lead last (summary bs) n s) ++ spelling) (Some s) (blocks_behind s n) ps
laid_piece x None n bs s spelling ps = regrouped x [] spelling (layout_behind s (blocks_behind s n) ps)
laid_piece x (Some a) n bs s spelling ps = regrouped x (gap_text (gap a bs s) (blocks_at s n)) spelling (layout_behind s (blocks_behind s n) ps)

-- over comments and newlines
laid_remarks : (rs : List Remark) (x : List ℕ) (last : Option Sort) (n : ℕ) (bs : List Between) (braces : List Bool) (bare : Bool) (go : Before → List Piece) (end : Writing → List ℕ)
    → ((y : List ℕ) (m : Option Sort) (k : ℕ) (cs : List Between) → laid y m k (go (record { braces = braces; bare = bare; between = cs })) ≡ end (writing_at y m k cs))
    → laid x last n (remark_pieces (record { braces = braces; bare = bare; between = bs }) rs go) ≡ end (noted (writing_at x last n bs) rs)
laid_remarks [] x last n bs braces bare go end behind = behind x last n bs
laid_remarks (line_end ∷ rs) x last n bs braces bare go end behind =
    laid_remarks rs x last n (bs ++ newline false ∷ []) braces bare go end behind ∙ ap (λ w. end (noted w rs)) (writing_more x last n bs (newline false))
laid_remarks (remark text ∷ rs) x last n bs braces bare go end behind =
    laid_piece x last n bs comment (trimmed text) (remark_pieces (record { braces = braces; bare = bare; between = [] }) rs go)
    ∙ laid_remarks rs ((x ++ lead last (summary bs) n comment) ++ trimmed text) (Some comment) (blocks_behind comment n) [] braces bare go end behind

-- the pieces of these tokens make what is written on
abbrev AreLaid : List ℕ → List Spanned → Type 0
AreLaid text ts = (place : ℕ) (x : List ℕ) (last : Option Sort) (n : ℕ) (bs : List Between) (braces : List Bool) (bare : Bool)
    → laid x last n (pieces_from text place (record { braces = braces; bare = bare; between = bs }) ts) ≡ ended (walked text place (record { writing = writing_at x last n bs; braces = braces; bare = bare }) ts)

laid_put : (text : List ℕ) (t : Spanned) (ts : List Spanned) → AreLaid text ts → (x : List ℕ) (last : Option Sort) (n : ℕ) (bs : List Between) (braces : List Bool) (bare : Bool)
    → laid x last n (record { between = bs; sort = sort_of braces t.token; spelling = spelling_at text t.span } ∷ pieces_from text t.span.end (record { braces = braces_behind t.token braces; bare = opens_bare t.token ts; between = [] }) ts)
    ≡ ended (walked text t.span.end (record { writing = put (writing_at x last n bs) (sort_of braces t.token) (spelling_at text t.span); braces = braces_behind t.token braces; bare = opens_bare t.token ts }) ts)
laid_put text t ts rest x last n bs braces bare =
    laid_piece x last n bs (sort_of braces t.token) (spelling_at text t.span) (pieces_from text t.span.end (record { braces = braces_behind t.token braces; bare = opens_bare t.token ts; between = [] }) ts)
    ∙ rest t.span.end _ (Some (sort_of braces t.token)) (blocks_behind (sort_of braces t.token) n) [] (braces_behind t.token braces) (opens_bare t.token ts)

laid_seen : (text : List ℕ) (t : Spanned) (ts : List Spanned) → AreLaid text ts → (x : List ℕ) (last : Option Sort) (n : ℕ) (bs : List Between) (braces : List Bool) (bare : Bool) (b : Between)
    → laid x last n (pieces_from text t.span.end (record { braces = braces; bare = bare; between = bs ++ b ∷ [] }) ts) ≡ ended (walked text t.span.end (record { writing = with_seen (writing_at x last n bs) b; braces = braces; bare = bare }) ts)
laid_seen text t ts rest x last n bs braces bare b =
    let made : Writing → Walking = λ w. record { writing = w; braces = braces; bare = bare } in
    rest t.span.end x last n (bs ++ b ∷ []) braces bare ∙ ap (λ w. ended (walked text t.span.end (made w) ts)) (writing_more x last n bs b)

laid_separator : (text : List ℕ) (t : Spanned) (ts : List Spanned) → AreLaid text ts → (x : List ℕ) (last : Option Sort) (n : ℕ) (bs : List Between) (braces : List Bool) (bare : Bool) (semi flag : Bool)
    → laid x last n (separator_pieces text (record { braces = braces; bare = bare; between = bs }) t ts (λ behind. pieces_from text t.span.end behind ts) semi flag)
    ≡ ended (walked text t.span.end (put_separator text (record { writing = writing_at x last n bs; braces = braces; bare = bare }) t ts semi flag) ts)
laid_separator text t ts rest x last n bs braces bare false flag = laid_seen text t ts rest x last n bs braces bare (newline true)
laid_separator text t ts rest x last n bs braces bare true true = laid_put text t ts rest x last n bs braces bare
laid_separator text t ts rest x last n bs braces bare true false = laid_seen text t ts rest x last n bs braces bare semicolon

laid_token : (text : List ℕ) (t : Spanned) (ts : List Spanned) → AreLaid text ts → (x : List ℕ) (last : Option Sort) (n : ℕ) (bs : List Between) (braces : List Bool) (bare : Bool) (u : Token)
    → laid x last n (pieces_at text (record { braces = braces; bare = bare; between = bs }) t ts (λ behind. pieces_from text t.span.end behind ts) u)
    ≡ ended (walked text t.span.end (taken text (record { writing = writing_at x last n bs; braces = braces; bare = bare }) t ts u) ts)
laid_token text t ts rest x last n bs braces bare token.Separator = laid_separator text t ts rest x last n bs braces bare (is_semicolon text t) bare
laid_token text t ts rest x last n bs braces bare u = laid_put text t ts rest x last n bs braces bare

laid_end : (y : List ℕ) (m : Option Sort) (k : ℕ) (cs : List Between) → laid y m k [] ≡ ended (writing_at y m k cs)
laid_end y None k cs = append-nil y
laid_end y (Some a) k cs = refl

laid_tokens : (text : List ℕ) (ts : List Spanned) → AreLaid text ts
laid_tokens text [] place x last n bs braces bare = laid_remarks (remarks_in (drop place text)) x last n bs braces bare (λ s. []) ended laid_end
laid_tokens text (t ∷ ts) place x last n bs braces bare =
    let made : Writing → Walking = λ w. record { writing = w; braces = braces; bare = bare } in
    laid_remarks (remarks_in (bytes_between text place t.span.start)) x last n bs braces bare (λ s. pieces_at text s t ts (λ behind. pieces_from text t.span.end behind ts) t.token)
    (λ w. ended (walked text t.span.end (taken text (made w) t ts t.token) ts))
    (λ y m k cs. laid_token text t ts (laid_tokens text ts) y m k cs braces bare t.token)

first_laid : (ps : List Piece) → layout ps ≡ layout_first 0 ps
first_laid [] = refl
first_laid (p ∷ ps) = refl

pub is_layout : (text : List ℕ) (ts : List Spanned) → ended (walked text 0 at_first ts) ≡ layout (pieces_of text ts)
is_layout text ts = sym (first_laid (pieces_of text ts) ∙ laid_tokens text ts 0 [] None 0 [] [] false)
