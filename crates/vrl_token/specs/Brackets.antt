-- Brackets and newlines: what `{`, `|` and a newline are among the tokens. The tokens before a
-- place are listed from the nearest on; a newline that doesn't part items is none of them.
use Rattle.std.specs.Prelude.{ℕ, suc, Bool, true, false, ◌&&◌, ◌||◌, not, if◌then◌else◌, List, [], ◌∷◌, Option, Some, None}
use Rattle.std.specs.List.{list_any}
use Rattle.vrl_diag.specs.declared.diagnostic.Span.{Span}
use Rattle.vrl_token.specs.declared.piece.Piece.{Piece}
use Rattle.vrl_token.specs.declared.piece.Piece.TheVariants.{Blank, Comment, Newline, Brace, Bar, Word}
use Rattle.vrl_token.specs.declared.piece.Lexeme.{Lexeme}
use Rattle.vrl_token.specs.declared.token.Spanned.{Spanned}
use Rattle.vrl_token.specs.declared.token.Token.{Token}
use Rattle.vrl_token.specs.declared.token.Token.TheVariants as token
use Rattle.vrl_token.specs.declared.bracket.Bracket.{Bracket}
use Rattle.vrl_token.specs.declared.bracket.Bracket.TheVariants as bracket
use Rattle.vrl_token.specs.Context.{ends_operand}

-- ---- open brackets

-- the brackets without the innermost one; one that closes none is passed over
abbrev pub closed : List Bracket → List Bracket
closed [] = []
closed (b ∷ bs) = bs

-- a block behind closing bars is the body of a closure
abbrev pub block_behind : List Token → Bracket
block_behind (token.CloseBars ∷ ts) = bracket.Body
block_behind _ = bracket.Block

-- the bracket that a token opens, from the tokens before it
abbrev pub opened : Token → List Token → Option Bracket
opened token.OpenParenthesis before = Some bracket.Parenthesis
opened token.OpenBracket before = Some bracket.Square
opened token.OpenObject before = Some bracket.Object
opened token.OpenBars before = Some bracket.Bars
opened token.OpenBlock before = Some (block_behind before)
opened _ before = None

-- the token closes the innermost open bracket
abbrev pub closes : Token → Bool
closes token.CloseParenthesis = true
closes token.CloseBracket = true
closes token.CloseBrace = true
closes token.CloseBars = true
closes _ = false

-- the open brackets behind a token that opens this one, or else may close one
abbrev pub with_bracket : Option Bracket → Bool → List Bracket → List Bracket
with_bracket (Some b) ends around = b ∷ around
with_bracket None true around = closed around
with_bracket None false around = around

-- the open brackets behind a token, from those before it
abbrev pub brackets_behind : Token → List Token → List Bracket → List Bracket
brackets_behind t before around = with_bracket (opened t before) (closes t) around

-- the brackets that are open behind these tokens, the innermost first
abbrev pub open_behind : List Token → List Bracket
open_behind [] = []
open_behind (t ∷ ts) = brackets_behind t ts (open_behind ts)

-- how many of the brackets are bodies of closures
abbrev pub bodies_in : List Bracket → ℕ
bodies_in [] = 0
bodies_in (bracket.Body ∷ bs) = suc (bodies_in bs)
bodies_in (_ ∷ bs) = bodies_in bs

-- ---- what follows

-- from the next piece on that is no newline
abbrev pub next_pieces : List Lexeme → List Lexeme
next_pieces [] = []
next_pieces (p ∷ ps) = next_from p.piece (p ∷ ps) (next_pieces ps)
  where
    next_from : Piece → List Lexeme → List Lexeme → List Lexeme
    next_from Newline here later = later
    next_from _ here later = here

abbrev pub behind_first : List Lexeme → List Lexeme
behind_first [] = []
behind_first (p ∷ ps) = ps

-- a line that begins with the piece goes on with the item of the line before: `??`, `||`, `&&`, `|`
-- and `else`
abbrev pub joins_piece : Piece → Bool
joins_piece Bar = true
joins_piece (Word token.Coalesce) = true
joins_piece (Word token.Or) = true
joins_piece (Word token.And) = true
joins_piece (Word token.Else) = true
joins_piece _ = false

abbrev pub is_close_brace : Piece → Bool
is_close_brace (Word token.CloseBrace) = true
is_close_brace _ = false

abbrev pub is_text : Piece → Bool
is_text (Word (token.Text s)) = true
is_text (Word (token.Template s holes)) = true
is_text _ = false

abbrev pub is_colon : Piece → Bool
is_colon (Word token.Colon) = true
is_colon _ = false

-- the first of the pieces is there and passes a test
abbrev pub first_is : (Piece → Bool) → List Lexeme → Bool
first_is test [] = false
first_is test (p ∷ ps) = test p.piece

-- the next piece that is no newline joins its line to the one before
abbrev pub joins : List Lexeme → Bool
joins ps = first_is joins_piece (next_pieces ps)

-- what stands behind `{` begins an object: `}`, or a text and `:`, where newlines are passed over
abbrev pub begins_object : List Lexeme → Bool
begins_object ps = first_is is_close_brace (next_pieces ps)
    || (first_is is_text (next_pieces ps) && first_is is_colon (next_pieces (behind_first (next_pieces ps))))

-- ---- what stands before

-- a token that ends an operand, `else`, or bars that close stand before
abbrev pub block_follows : List Token → Bool
block_follows [] = false
block_follows (token.Else ∷ ts) = true
block_follows (token.CloseBars ∷ ts) = true
block_follows (t ∷ ts) = ends_operand t

-- the item goes on behind the token: a binary operator, `=`, `|=`, `,` or `->`
abbrev pub goes_on : Token → Bool
goes_on token.Coalesce = true
goes_on token.Or = true
goes_on token.And = true
goes_on token.Equal = true
goes_on token.Unequal = true
goes_on token.Less = true
goes_on token.AtMost = true
goes_on token.More = true
goes_on token.AtLeast = true
goes_on token.Merge = true
goes_on token.Plus = true
goes_on token.Minus = true
goes_on token.Times = true
goes_on token.Assign = true
goes_on token.MergeAssign = true
goes_on token.Comma = true
goes_on token.Arrow = true
goes_on _ = false

-- Newlines before the place are passed over: one that parts items stands behind no such token.
abbrev pub goes_on_behind : List Token → Bool
goes_on_behind [] = false
goes_on_behind (t ∷ ts) = goes_on t

abbrev pub arrow_before : List Token → Bool
arrow_before (token.Arrow ∷ ts) = true
arrow_before _ = false

-- the innermost open bracket is `(`, `[`, an object or closure bars
abbrev pub encloses : List Bracket → Bool
encloses (bracket.Parenthesis ∷ bs) = true
encloses (bracket.Square ∷ bs) = true
encloses (bracket.Object ∷ bs) = true
encloses (bracket.Bars ∷ bs) = true
encloses _ = false

abbrev pub is_bars : Bracket → Bool
is_bars bracket.Bars = true
is_bars _ = false

-- ---- the rules

-- `{` opens a block behind an operand, `else` and closing bars, and else where no object begins.
abbrev pub brace_token : List Token → List Lexeme → Token
brace_token before behind =
    if not (block_follows before) && begins_object behind then token.OpenObject else token.OpenBlock

-- `|` opens bars behind `->`, closes bars where some are open, and else is the operator.
abbrev pub bar_token : List Token → Token
bar_token before = if arrow_before before then token.OpenBars
    else if list_any is_bars (open_behind before) then token.CloseBars else token.Merge

-- A newline parts items unless it stands in a bracket that encloses it, behind a token where the
-- item goes on, or before a piece that joins lines.
abbrev pub newline_parts : List Token → List Lexeme → Bool
newline_parts before behind = not (encloses (open_behind before)) && (not (goes_on_behind before) && not (joins behind))

-- the token that a piece is between the tokens before it and the pieces behind it; some pieces are
-- none
abbrev pub token_of : List Token → Piece → List Lexeme → Option Token
token_of before Blank behind = None
token_of before Comment behind = None
token_of before Newline behind = if newline_parts before behind then Some token.Separator else None
token_of before Brace behind = Some (brace_token before behind)
token_of before Bar behind = Some (bar_token before)
token_of before (Word t) behind = Some t

abbrev pub with_token : Option Token → List Token → List Token
with_token None ts = ts
with_token (Some t) ts = t ∷ ts

abbrev pub with_spanned : Option Token → Span → List Spanned → List Spanned
with_spanned None span ts = ts
with_spanned (Some t) span ts = record { token = t; span = span } ∷ ts

-- the tokens that pieces are behind these tokens
abbrev pub tokens_from : List Token → List Lexeme → List Spanned
tokens_from before [] = []
tokens_from before (p ∷ ps) =
    with_spanned (token_of before p.piece ps) p.span (tokens_from (with_token (token_of before p.piece ps) before) ps)
