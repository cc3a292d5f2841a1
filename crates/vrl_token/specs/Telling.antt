-- Words of the code for telling what brackets, bars and newlines are; the rules are those of
-- `Brackets`.
use Rattle.std.specs.Prelude.{◌≡◌, Bool, true, false, if◌then◌else◌, List, [], ◌∷◌, reverse, ℕ, suc}
use Rattle.vrl_token.specs.declared.ahead.Ahead.{Ahead}
use Rattle.vrl_token.specs.declared.ahead.Ready.{Ready}
use Rattle.vrl_token.specs.declared.before.Before.{Before}
use Rattle.vrl_token.specs.declared.before.Last.{Last}
use Rattle.vrl_token.specs.declared.before.Last.TheVariants as last
use Rattle.vrl_token.specs.declared.piece.Lexeme.{Lexeme}
use Rattle.vrl_token.specs.declared.token.Token.{Token}
use Rattle.vrl_token.specs.declared.token.Token.TheVariants as token
use Rattle.vrl_token.specs.Context.{ends_operand}
use Rattle.vrl_token.specs.Brackets.{begins_object, bodies_in, first_is, goes_on, is_colon, joins, next_pieces, open_behind}
use Rattle.vrl_token.specs.declared.bracket.Bracket.{Bracket}
use Rattle.vrl_token.specs.declared.bracket.Bracket.TheVariants as bracket

-- what stands behind a place
pub record IsAhead (behind : List Lexeme) (ahead : Ahead) : Type 0 where
  pub joins_is : ahead.joins ≡ joins behind
  pub object_is : ahead.object ≡ begins_object behind
  pub colon_is : ahead.colon ≡ first_is is_colon (next_pieces behind)

-- these are the pieces, each with what stands behind it
abbrev pub AreReady : List Ready → List Lexeme → Type 0
AreReady [] [] = Unit {0}
AreReady [] (p ∷ ps) = ⊥
AreReady (r ∷ rs) [] = ⊥
AreReady (r ∷ rs) (p ∷ ps) = (r.lexeme ≡ p) × IsAhead ps r.ahead × AreReady rs ps

-- what a token says as the last one
abbrev pub last_of : Token → Last
last_of token.Else = last.Else
last_of token.CloseBars = last.CloseBars
last_of token.Arrow = last.Arrow
last_of t = if ends_operand t then last.Operand else if goes_on t then last.Operator else last.Other

abbrev pub last_before : List Token → Last
last_before [] = last.Other
last_before (t ∷ ts) = last_of t

-- how many of the brackets are closure bars
abbrev pub bars_in : List Bracket → ℕ
bars_in [] = 0
bars_in (bracket.Bars ∷ bs) = suc (bars_in bs)
bars_in (_ ∷ bs) = bars_in bs

-- these brackets are open, the innermost first
pub record IsOpen (brackets : List Bracket) (before : Before) : Type 0 where
  pub brackets_are : reverse before.«open».items ≡ brackets
  pub bars_are : before.bars ≡ bars_in brackets
  pub bodies_are : before.bodies ≡ bodies_in brackets

-- what the tokens before a place say about it
pub record IsBefore (tokens : List Token) (before : Before) : Type 0 where
  pub is_open : IsOpen (open_behind tokens) before
  pub last_is : before.last ≡ last_before tokens

-- a `{` behind such a token opens a block whatever follows
abbrev pub wants_block : Last → Bool
wants_block last.Operand = true
wants_block last.Else = true
wants_block last.CloseBars = true
wants_block _ = false

-- the item goes on behind such a token
abbrev pub last_goes_on : Last → Bool
last_goes_on last.Arrow = true
last_goes_on last.Operator = true
last_goes_on _ = false

-- the bracket of a block that begins behind such a token
abbrev pub block_of : Last → Bracket
block_of last.CloseBars = bracket.Body
block_of _ = bracket.Block

abbrev pub is_arrow : Last → Bool
is_arrow last.Arrow = true
is_arrow _ = false

abbrev pub is_body : Bracket → Bool
is_body bracket.Body = true
is_body _ = false
