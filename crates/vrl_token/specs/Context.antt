-- What the pieces before a place say about what may stand there. They are listed from the nearest
-- on.
use Rattle.std.specs.Prelude.{ℕ, suc, Bool, true, false, List, [], ◌∷◌}
use Rattle.vrl_token.specs.declared.piece.Piece.{Piece}
use Rattle.vrl_token.specs.declared.piece.Piece.TheVariants.{Blank, Comment, Newline, Brace, Bar, Word}
use Rattle.vrl_token.specs.declared.token.Token.{Token}
use Rattle.vrl_token.specs.declared.token.Token.TheVariants as token

-- An operand can end with the token: with a literal, a name, a path, or what closes a bracket.
abbrev pub ends_operand : Token → Bool
ends_operand (token.Number n) = true
ends_operand (token.Text s) = true
ends_operand (token.Template s holes) = true
ends_operand (token.RawText s) = true
ends_operand (token.Regex s) = true
ends_operand (token.Timestamp m) = true
ends_operand (token.Name s) = true
ends_operand token.True = true
ends_operand token.False = true
ends_operand token.Null = true
ends_operand (token.EventPath p) = true
ends_operand (token.MetadataPath p) = true
ends_operand (token.NamePath s p) = true
ends_operand (token.Suffix p) = true
ends_operand token.CloseParenthesis = true
ends_operand token.CloseBracket = true
ends_operand token.CloseBrace = true
ends_operand _ = false

-- the last token before the place ends an operand, where a newline counts as a token
abbrev pub operand_before : List Piece → Bool
operand_before [] = false
operand_before (Blank ∷ ps) = operand_before ps
operand_before (Comment ∷ ps) = operand_before ps
operand_before (Newline ∷ ps) = false
operand_before (Brace ∷ ps) = false
operand_before (Bar ∷ ps) = false
operand_before (Word t ∷ ps) = ends_operand t

abbrev pub closes_operand : Token → Bool
closes_operand token.CloseParenthesis = true
closes_operand token.CloseBracket = true
closes_operand _ = false

-- `)` or `]` stands directly before the place
abbrev pub closes_before : List Piece → Bool
closes_before (Word t ∷ ps) = closes_operand t
closes_before _ = false

-- how many regex literals stand before the place
abbrev pub regexes_before : List Piece → ℕ
regexes_before [] = 0
regexes_before (Word (token.Regex s) ∷ ps) = suc (regexes_before ps)
regexes_before (_ ∷ ps) = regexes_before ps
