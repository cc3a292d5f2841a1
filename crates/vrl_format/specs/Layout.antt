-- The layout of a script: one item a line, two spaces a block, and what stands between two pieces.
use Rattle.std.specs.Prelude.{◌≡◌, ℕ, suc, pred, ◌*◌, Bool, true, false, ◌&&◌, ◌||◌, not, if◌then◌else◌, List, [], ◌∷◌, ◌++◌, replicate}
use Rattle.std.specs.List.{list_any}
use Rattle.vrl_token.specs.declared.token.Spanned.{Spanned}
use Rattle.vrl_token.specs.Reading.{IsTokenized}
use Rattle.vrl_format.specs.Pieces.{Between, newline, semicolon, Piece, Sort, block_start, block_end, comment, opener, closer, pieces_of}

-- ---- what stands between two pieces

-- a separator stands there: a newline that parts items, or a semicolon
abbrev pub parts : Between → Bool
parts (newline parting) = parting
parts semicolon = true

abbrev pub is_newline : Between → Bool
is_newline (newline parting) = true
is_newline semicolon = false

-- a line of blanks alone stands there: two newlines with no semicolon between them
abbrev pub has_empty_line : List Between → Bool
has_empty_line (newline p ∷ newline q ∷ bs) = true
has_empty_line (b ∷ bs) = has_empty_line bs
has_empty_line [] = false

-- nothing, a space, or a newline, behind which an empty line may stand
pub data Gap : Type 0 where
  nothing space : Gap
  break : Bool → Gap

abbrev pub is_start : Sort → Bool
is_start block_start = true
is_start a = false

abbrev pub is_end : Sort → Bool
is_end block_end = true
is_end a = false

abbrev pub is_comment : Sort → Bool
is_comment comment = true
is_comment a = false

abbrev pub is_opener : Sort → Bool
is_opener opener = true
is_opener a = false

abbrev pub is_closer : Sort → Bool
is_closer closer = true
is_closer a = false

-- the gap is directly behind a block's `{`, or directly before its `}`
abbrev pub is_at_edge : Sort → Sort → Bool
is_at_edge a b = is_start a || is_end b

-- a newline stands between the two pieces
abbrev pub has_break : Sort → List Between → Sort → Bool
has_break a between b = is_at_edge a b
    || (is_comment a || (list_any parts between || (is_comment b && list_any is_newline between)))

-- what stands between two neighbouring pieces: the first that applies
abbrev pub gap : Sort → List Between → Sort → Gap
gap a between b =
    if is_start a && is_end b then nothing
    else if has_break a between b then break (not (is_at_edge a b) && has_empty_line between)
    else if is_comment b then space
    else if is_opener a || is_closer b then nothing
    else space

-- ---- the text

-- the blocks that are open on the line of a piece: its own is not, where the piece closes it
abbrev pub blocks_at : Sort → ℕ → ℕ
blocks_at block_end blocks = pred blocks
blocks_at a blocks = blocks

-- the blocks that are open behind it
abbrev pub blocks_behind : Sort → ℕ → ℕ
blocks_behind block_start blocks = suc blocks
blocks_behind block_end blocks = pred blocks
blocks_behind a blocks = blocks

abbrev pub indent : ℕ → List ℕ
indent blocks = replicate (2 * blocks) 32

abbrev pub gap_text : Gap → ℕ → List ℕ
gap_text nothing blocks = []
gap_text space blocks = 32 ∷ []
gap_text (break false) blocks = 10 ∷ indent blocks
gap_text (break true) blocks = 10 ∷ 10 ∷ indent blocks

-- what stands behind a piece, where so many blocks are open
abbrev pub layout_behind : Sort → ℕ → List Piece → List ℕ
layout_behind a blocks [] = 10 ∷ []
layout_behind a blocks (p ∷ ps) = gap_text (gap a p.between p.sort) (blocks_at p.sort blocks)
    ++ (p.spelling ++ layout_behind p.sort (blocks_behind p.sort blocks) ps)

abbrev pub layout : List Piece → List ℕ
layout [] = []
layout (p ∷ ps) = p.spelling ++ layout_behind p.sort (blocks_behind p.sort 0) ps

-- the text has tokens, and this is its layout
pub record IsLayout (text laid : List ℕ) : Type 0 where
  pub tokens : List Spanned
  pub tokenized : IsTokenized text tokens
  pub is : laid ≡ layout (pieces_of text tokens)
