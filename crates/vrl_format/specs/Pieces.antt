-- What a text is made of, as a layout sees it: pieces, and what stands between them.
use Rattle.std.specs.Prelude.{ℕ, ◌-◌, ◌==◌, ◌||◌, Bool, true, false, if◌then◌else◌, List, [], ◌∷◌, ◌++◌, get_or, take, drop}
use Rattle.vrl_diag.specs.declared.diagnostic.Span.{Span}
use Rattle.vrl_token.specs.declared.token.Spanned.{Spanned}
use Rattle.vrl_token.specs.declared.token.Token.{Token}
use Rattle.vrl_token.specs.declared.token.Token.TheVariants as token

-- the bytes of a text from one place up to another
abbrev pub bytes_between : List ℕ → ℕ → ℕ → List ℕ
bytes_between text start stop = take (stop - start) (drop start text)

abbrev pub spelling_at : List ℕ → Span → List ℕ
spelling_at text s = bytes_between text s.start s.«end»

-- ---- sorts of pieces

-- What a layout asks of a piece: which edge of a block it is, whether it is a comment, whether
-- nothing stands behind it or before it, or none of these.
pub data Sort : Type 0 where
  block_start block_end comment opener closer plain : Sort

-- the braces that are open behind a token, the innermost first, each with whether it is a block's
abbrev pub braces_behind : Token → List Bool → List Bool
braces_behind token.OpenBlock around = true ∷ around
braces_behind token.OpenObject around = false ∷ around
braces_behind token.CloseBrace around = drop 1 around
braces_behind t around = around

-- the sort of a brace that closes the innermost of these
abbrev pub brace_sort : List Bool → Sort
brace_sort (true ∷ around) = block_end
brace_sort around = closer

-- the sort of a token, where these braces are open before it
abbrev pub sort_of : List Bool → Token → Sort
sort_of around token.OpenBlock = block_start
sort_of around token.CloseBrace = brace_sort around
sort_of around (token.Function name) = opener
sort_of around (token.BangFunction name) = opener
sort_of around token.OpenParenthesis = opener
sort_of around token.OpenBracket = opener
sort_of around token.Not = opener
sort_of around token.OpenObject = opener
sort_of around token.OpenBars = opener
sort_of around token.CloseParenthesis = closer
sort_of around token.CloseBracket = closer
sort_of around token.Comma = closer
sort_of around token.Colon = closer
sort_of around (token.Suffix path) = closer
sort_of around token.CloseBars = closer
sort_of around t = plain

-- ---- what stands between pieces

-- a newline, and whether it parts items; or a semicolon that is no piece
pub data Between : Type 0 where
  newline : Bool → Between
  semicolon : Between

-- a piece: what stands before it, blanks left out, and its spelling
pub record Piece : Type 0 where
  pub between : List Between
  pub sort : Sort
  pub spelling : List ℕ

-- ---- comments and newlines between two tokens

-- a newline, or a comment
pub data Remark : Type 0 where
  line_end : Remark
  remark : List ℕ → Remark

-- outside of a comment, or behind these bytes of one
pub data Reading : Type 0 where
  outside : Reading
  inside : List ℕ → Reading

-- the comments and newlines in bytes that have no token; a comment goes on to the end of its line
abbrev pub remarks_from : Reading → List ℕ → List Remark
remarks_from outside [] = []
remarks_from outside (b ∷ bs) = if b == 10 then line_end ∷ remarks_from outside bs
    else if b == 35 then remarks_from (inside (b ∷ [])) bs else remarks_from outside bs
remarks_from (inside read) [] = remark read ∷ []
remarks_from (inside read) (b ∷ bs) = if b == 10 then remark read ∷ line_end ∷ remarks_from outside bs
    else remarks_from (inside (read ++ b ∷ [])) bs

abbrev pub remarks_in : List ℕ → List Remark
remarks_in bytes = remarks_from outside bytes

-- space, tab or carriage return
abbrev pub is_blank : ℕ → Bool
is_blank b = (b == 32) || ((b == 9) || (b == 13))

-- a byte before bytes without blanks at their end
abbrev pub before_trimmed : ℕ → List ℕ → List ℕ
before_trimmed b [] = if is_blank b then [] else b ∷ []
before_trimmed b (c ∷ cs) = b ∷ c ∷ cs

-- the bytes without the blanks at their end
abbrev pub trimmed : List ℕ → List ℕ
trimmed [] = []
trimmed (b ∷ bs) = before_trimmed b (trimmed bs)

-- ---- the pieces of a text

-- the next token that is no separator closes a brace
abbrev pub closes_next : List Spanned → Bool
closes_next [] = false
closes_next (t ∷ ts) = closes t.token (closes_next ts)
  where
    closes : Token → Bool → Bool
    closes token.Separator later = later
    closes token.CloseBrace later = true
    closes u later = false

-- the token opens a block that has no token but newlines and semicolons
abbrev pub opens_bare : Token → List Spanned → Bool
opens_bare token.OpenBlock behind = closes_next behind
opens_bare t behind = false

-- What stands before a place: the braces that are open there; whether the next semicolon is a piece,
-- as the first one of a block that has no token but newlines and semicolons; and what stands between
-- the last piece and the place.
pub record Before : Type 0 where
  pub braces : List Bool
  pub bare : Bool
  pub between : List Between

abbrev pub with_between : Before → Between → Before
with_between s b = record { braces = s.braces; bare = s.bare; between = s.between ++ b ∷ [] }

-- The pieces from a place on, where `go` gives those behind.
abbrev pub remark_pieces : Before → List Remark → (Before → List Piece) → List Piece
remark_pieces s [] go = go s
remark_pieces s (line_end ∷ rs) go = remark_pieces (with_between s (newline false)) rs go
remark_pieces s (remark text ∷ rs) go = record { between = s.between; sort = comment; spelling = trimmed text }
    ∷ remark_pieces (record { braces = s.braces; bare = s.bare; between = [] }) rs go

abbrev pub token_pieces : List ℕ → Before → Spanned → List Spanned → (Before → List Piece) → List Piece
token_pieces text s t behind go =
    record { between = s.between; sort = sort_of s.braces t.token; spelling = spelling_at text t.span }
    ∷ go (record { braces = braces_behind t.token s.braces; bare = opens_bare t.token behind; between = [] })

-- a separator is spelled `;`, else it is a newline
abbrev pub is_semicolon : List ℕ → Spanned → Bool
is_semicolon text t = get_or text t.span.start 0 == 59

-- a separator is a piece, or stands between two; the flags say whether it is a semicolon, and whether
-- that would be a piece
abbrev pub separator_pieces : List ℕ → Before → Spanned → List Spanned → (Before → List Piece) → Bool → Bool → List Piece
separator_pieces text s t behind go false bare = go (with_between s (newline true))
separator_pieces text s t behind go true true = token_pieces text s t behind go
separator_pieces text s t behind go true false = go (with_between s semicolon)

abbrev pub pieces_at : List ℕ → Before → Spanned → List Spanned → (Before → List Piece) → Token → List Piece
pieces_at text s t behind go token.Separator = separator_pieces text s t behind go (is_semicolon text t) s.bare
pieces_at text s t behind go u = token_pieces text s t behind go

-- the pieces behind a place of a text, with these tokens behind it
abbrev pub pieces_from : List ℕ → ℕ → Before → List Spanned → List Piece
pieces_from text place s [] = remark_pieces s (remarks_in (drop place text)) (λ last. [])
pieces_from text place s (t ∷ ts) = remark_pieces s (remarks_in (bytes_between text place t.span.start))
    (λ next. pieces_at text next t ts (λ behind. pieces_from text t.span.«end» behind ts) t.token)

abbrev pub at_start : Before
at_start = record { braces = []; bare = false; between = [] }

-- the pieces of a text with these tokens
abbrev pub pieces_of : List ℕ → List Spanned → List Piece
pieces_of text tokens = pieces_from text 0 at_start tokens
