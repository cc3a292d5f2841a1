-- The tokens that say nothing but which ones they are, and that are no operators between two sides.
use Rattle.std.specs.Prelude.{Option, Some, None}
use Rattle.vrl_token.specs.declared.token.Token.{Token}
use Rattle.vrl_token.specs.declared.token.Token.TheVariants as token
use Rattle.vrl_word.specs.declared.sign.Sign.{Sign}
use Rattle.vrl_word.specs.declared.sign.Sign.TheVariants as sign

-- the token that a sign is
abbrev pub token_of : Sign → Token
token_of sign.If = token.If
token_of sign.Else = token.Else
token_of sign.Abort = token.Abort
token_of sign.Return = token.Return
token_of sign.Assign = token.Assign
token_of sign.MergeAssign = token.MergeAssign
token_of sign.Not = token.Not
token_of sign.OpenParenthesis = token.OpenParenthesis
token_of sign.CloseParenthesis = token.CloseParenthesis
token_of sign.OpenBracket = token.OpenBracket
token_of sign.CloseBracket = token.CloseBracket
token_of sign.OpenBlock = token.OpenBlock
token_of sign.OpenObject = token.OpenObject
token_of sign.CloseBrace = token.CloseBrace
token_of sign.OpenBars = token.OpenBars
token_of sign.CloseBars = token.CloseBars
token_of sign.Comma = token.Comma
token_of sign.Colon = token.Colon
token_of sign.Arrow = token.Arrow
token_of sign.Separator = token.Separator

-- the sign that a token is
abbrev pub sign_of : Token → Option Sign
sign_of token.If = Some sign.If
sign_of token.Else = Some sign.Else
sign_of token.Abort = Some sign.Abort
sign_of token.Return = Some sign.Return
sign_of token.Assign = Some sign.Assign
sign_of token.MergeAssign = Some sign.MergeAssign
sign_of token.Not = Some sign.Not
sign_of token.OpenParenthesis = Some sign.OpenParenthesis
sign_of token.CloseParenthesis = Some sign.CloseParenthesis
sign_of token.OpenBracket = Some sign.OpenBracket
sign_of token.CloseBracket = Some sign.CloseBracket
sign_of token.OpenBlock = Some sign.OpenBlock
sign_of token.OpenObject = Some sign.OpenObject
sign_of token.CloseBrace = Some sign.CloseBrace
sign_of token.OpenBars = Some sign.OpenBars
sign_of token.CloseBars = Some sign.CloseBars
sign_of token.Comma = Some sign.Comma
sign_of token.Colon = Some sign.Colon
sign_of token.Arrow = Some sign.Arrow
sign_of token.Separator = Some sign.Separator
sign_of t = None
