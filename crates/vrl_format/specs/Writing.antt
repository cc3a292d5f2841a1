-- How a layout is written from the front of a text to its end: what the writer knows behind a part
-- of the text, and what each further part makes of it.
use Rattle.std.specs.Prelude.{◌≡◌, ℕ, ◌==◌, Bool, true, false, ◌&&◌, ◌||◌, not, if◌then◌else◌, List, [], ◌∷◌, ◌++◌, reverse, drop, Option, Some, None, option_map, string_bytes}
use Rattle.vrl_token.specs.declared.token.Spanned.{Spanned}
use Rattle.vrl_token.specs.declared.token.Token.{Token}
use Rattle.vrl_token.specs.declared.token.Token.TheVariants as token
use Rattle.vrl_format.specs.Layout.{Gap, nothing, space, break, blocks_at, blocks_behind, gap_text, is_at_edge, is_closer, is_comment, is_end, is_opener, is_start}
use Rattle.vrl_format.specs.Pieces.{Between, newline, semicolon, Remark, line_end, remark, Sort, block_start, block_end, comment, opener, closer, plain, braces_behind, bytes_between, is_semicolon, opens_bare, remarks_in, sort_of, spelling_at, trimmed}
use Rattle.vrl_format.specs.declared.gap.Gap.{Gap as CodeGap}
use Rattle.vrl_format.specs.declared.gap.Gap.TheVariants as written
use Rattle.vrl_format.specs.declared.gap.Seen.{Seen}
use Rattle.vrl_format.specs.declared.layout.Layout.{Layout}
use Rattle.vrl_format.specs.declared.sort.Sort.{Sort as CodeSort}
use Rattle.vrl_format.specs.declared.sort.Sort.TheVariants as code
use Rattle.vrl_format.specs.declared.walk.Walk.{Walk}

-- ---- what the code's types stand for

abbrev pub sort_in : CodeSort → Sort
sort_in code.BlockStart = block_start
sort_in code.BlockEnd = block_end
sort_in code.Comment = comment
sort_in code.Opener = opener
sort_in code.Closer = closer
sort_in code.Plain = plain

abbrev pub gap_in : CodeGap → Gap
gap_in written.Nothing = nothing
gap_in written.Space = space
gap_in written.Line = break false
gap_in written.EmptyLine = break true

-- ---- what stands between two pieces

-- nothing
abbrev pub none_seen : Seen
none_seen = record { separator = false; newline = false; empty_line = false; at_newline = false }

-- the same, and one thing more
abbrev pub see : Seen → Between → Seen
see s (newline parting) = record {
  separator = s.separator || parting;
  newline = true;
  empty_line = s.empty_line || s.at_newline;
  at_newline = true;
}
see s semicolon = record {
  separator = true;
  newline = s.newline;
  empty_line = s.empty_line;
  at_newline = false;
}

-- a newline stands between the two pieces
abbrev pub breaks : Sort → Seen → Sort → Bool
breaks a seen b = is_at_edge a b || (is_comment a || (seen.separator || (is_comment b && seen.newline)))

-- what stands between two pieces, where that is seen
abbrev pub gap_seen : Sort → Seen → Sort → Gap
gap_seen a seen b =
    if is_start a && is_end b then nothing
    else if breaks a seen b then break (not (is_at_edge a b) && seen.empty_line)
    else if is_comment b then space
    else if is_opener a || is_closer b then nothing
    else space

-- ---- the writer

-- what is written, the sort of the last piece, the blocks that are open behind it, and what was seen
-- since
pub record Writing : Type 0 where
  pub text : List ℕ
  pub last : Option Sort
  pub blocks : ℕ
  pub seen : Seen

abbrev pub writing_in : Layout → Writing
writing_in l = record {
  text = string_bytes l.text;
  last = option_map sort_in l.last;
  blocks = l.blocks;
  seen = l.seen;
}

-- before the first piece
abbrev pub unwritten : Writing
unwritten = record { text = []; last = None; blocks = 0; seen = none_seen }

abbrev pub with_seen : Writing → Between → Writing
with_seen w b = record { text = w.text; last = w.last; blocks = w.blocks; seen = see w.seen b }

-- what is written before a piece of this sort
abbrev pub lead : Option Sort → Seen → ℕ → Sort → List ℕ
lead None seen blocks b = []
lead (Some a) seen blocks b = gap_text (gap_seen a seen b) (blocks_at b blocks)

-- one piece more
abbrev pub put : Writing → Sort → List ℕ → Writing
put w b spelling = record {
  text = (w.text ++ lead w.last w.seen w.blocks b) ++ spelling;
  last = Some b;
  blocks = blocks_behind b w.blocks;
  seen = none_seen;
}

-- the comments and newlines between two tokens
abbrev pub noted : Writing → List Remark → Writing
noted w [] = w
noted w (line_end ∷ rs) = noted (with_seen w (newline false)) rs
noted w (remark text ∷ rs) = noted (put w comment (trimmed text)) rs

-- the bytes have no such byte
abbrev pub LacksByte : ℕ → List ℕ → Type 0
LacksByte b [] = Unit {0}
LacksByte b (x ∷ xs) = ((x == b) ≡ false) × LacksByte b xs

-- the text as it ends
abbrev pub ended : Writing → List ℕ
ended w = ends w.last w.text
  where
    ends : Option Sort → List ℕ → List ℕ
    ends None text = text
    ends (Some a) text = text ++ 10 ∷ []

-- ---- the walk over the tokens

-- the writer, the braces that are open, and whether the next semicolon is a piece
pub record Walking : Type 0 where
  pub writing : Writing
  pub braces : List Bool
  pub bare : Bool

abbrev pub walking_in : Walk → Walking
walking_in w = record { writing = writing_in w.layout; braces = reverse w.braces.items; bare = w.bare }

abbrev pub at_first : Walking
at_first = record { writing = unwritten; braces = []; bare = false }

-- a token that is a piece
abbrev pub put_token : List ℕ → Walking → Spanned → List Spanned → Walking
put_token text k t behind = record {
  writing = put k.writing (sort_of k.braces t.token) (spelling_at text t.span);
  braces = braces_behind t.token k.braces;
  bare = opens_bare t.token behind;
}

abbrev pub between_seen : Walking → Between → Walking
between_seen k b = record { writing = with_seen k.writing b; braces = k.braces; bare = k.bare }

abbrev pub put_separator : List ℕ → Walking → Spanned → List Spanned → Bool → Bool → Walking
put_separator text k t behind false bare = between_seen k (newline true)
put_separator text k t behind true true = put_token text k t behind
put_separator text k t behind true false = between_seen k semicolon

-- one token more
abbrev pub taken : List ℕ → Walking → Spanned → List Spanned → Token → Walking
taken text k t behind token.Separator = put_separator text k t behind (is_semicolon text t) k.bare
taken text k t behind u = put_token text k t behind

-- the bytes before a token
abbrev pub with_noted : Walking → List ℕ → Walking
with_noted k bytes =
    record { writing = noted k.writing (remarks_in bytes); braces = k.braces; bare = k.bare }

-- a token, with the bytes before it
abbrev pub stepped : List ℕ → ℕ → Walking → Spanned → List Spanned → Walking
stepped text place k t behind =
    taken text (with_noted k (bytes_between text place t.span.start)) t behind t.token

-- what is written at the end, from a place of a text on, with these tokens behind it
abbrev pub walked : List ℕ → ℕ → Walking → List Spanned → Writing
walked text place k [] = noted k.writing (remarks_in (drop place text))
walked text place k (t ∷ ts) = walked text t.span.«end» (stepped text place k t ts) ts
