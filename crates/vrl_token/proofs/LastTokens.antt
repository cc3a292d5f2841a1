-- What the last token says.
use Rattle.std.proofs.Common.{◌≡◌, List, [], ◌∷◌, refl}
use Rattle.vrl_token.specs.declared.token.Token.{Token}
use Rattle.vrl_token.specs.declared.token.Token.TheVariants as token
use Rattle.vrl_token.specs.Brackets.{arrow_before, block_behind, block_follows, goes_on_behind}
use Rattle.vrl_token.specs.Telling.{block_of, is_arrow, last_before, last_goes_on, wants_block}

-- what is kept of the last token says what the rules ask of it
pub record Agrees (tokens : List Token) : Type 0 where
  pub wants : wants_block (last_before tokens) ≡ block_follows tokens
  pub goes : last_goes_on (last_before tokens) ≡ goes_on_behind tokens
  pub arrow : is_arrow (last_before tokens) ≡ arrow_before tokens
  pub block : block_of (last_before tokens) ≡ block_behind tokens

agrees_at : (t : Token) (ts : List Token) → Agrees (t ∷ ts)
agrees_at (token.Text s) ts = record { wants = refl; goes = refl; arrow = refl; block = refl }
agrees_at (token.Template s hs) ts = record { wants = refl; goes = refl; arrow = refl; block = refl }
agrees_at (token.RawText s) ts = record { wants = refl; goes = refl; arrow = refl; block = refl }
agrees_at (token.Regex s) ts = record { wants = refl; goes = refl; arrow = refl; block = refl }
agrees_at (token.Timestamp m) ts = record { wants = refl; goes = refl; arrow = refl; block = refl }
agrees_at (token.Number n) ts = record { wants = refl; goes = refl; arrow = refl; block = refl }
agrees_at token.True ts = record { wants = refl; goes = refl; arrow = refl; block = refl }
agrees_at token.False ts = record { wants = refl; goes = refl; arrow = refl; block = refl }
agrees_at token.Null ts = record { wants = refl; goes = refl; arrow = refl; block = refl }
agrees_at token.If ts = record { wants = refl; goes = refl; arrow = refl; block = refl }
agrees_at token.Else ts = record { wants = refl; goes = refl; arrow = refl; block = refl }
agrees_at token.Abort ts = record { wants = refl; goes = refl; arrow = refl; block = refl }
agrees_at token.Return ts = record { wants = refl; goes = refl; arrow = refl; block = refl }
agrees_at (token.Name s) ts = record { wants = refl; goes = refl; arrow = refl; block = refl }
agrees_at (token.Function s) ts = record { wants = refl; goes = refl; arrow = refl; block = refl }
agrees_at (token.BangFunction s) ts = record { wants = refl; goes = refl; arrow = refl; block = refl }
agrees_at (token.EventPath p) ts = record { wants = refl; goes = refl; arrow = refl; block = refl }
agrees_at (token.MetadataPath p) ts = record { wants = refl; goes = refl; arrow = refl; block = refl }
agrees_at (token.NamePath s p) ts = record { wants = refl; goes = refl; arrow = refl; block = refl }
agrees_at (token.Suffix p) ts = record { wants = refl; goes = refl; arrow = refl; block = refl }
agrees_at token.Assign ts = record { wants = refl; goes = refl; arrow = refl; block = refl }
agrees_at token.MergeAssign ts = record { wants = refl; goes = refl; arrow = refl; block = refl }
agrees_at token.Coalesce ts = record { wants = refl; goes = refl; arrow = refl; block = refl }
agrees_at token.Or ts = record { wants = refl; goes = refl; arrow = refl; block = refl }
agrees_at token.And ts = record { wants = refl; goes = refl; arrow = refl; block = refl }
agrees_at token.Equal ts = record { wants = refl; goes = refl; arrow = refl; block = refl }
agrees_at token.Unequal ts = record { wants = refl; goes = refl; arrow = refl; block = refl }
agrees_at token.Less ts = record { wants = refl; goes = refl; arrow = refl; block = refl }
agrees_at token.AtMost ts = record { wants = refl; goes = refl; arrow = refl; block = refl }
agrees_at token.More ts = record { wants = refl; goes = refl; arrow = refl; block = refl }
agrees_at token.AtLeast ts = record { wants = refl; goes = refl; arrow = refl; block = refl }
agrees_at token.Merge ts = record { wants = refl; goes = refl; arrow = refl; block = refl }
agrees_at token.Plus ts = record { wants = refl; goes = refl; arrow = refl; block = refl }
agrees_at token.Minus ts = record { wants = refl; goes = refl; arrow = refl; block = refl }
agrees_at token.Times ts = record { wants = refl; goes = refl; arrow = refl; block = refl }
agrees_at token.Not ts = record { wants = refl; goes = refl; arrow = refl; block = refl }
agrees_at token.OpenParenthesis ts = record { wants = refl; goes = refl; arrow = refl; block = refl }
agrees_at token.CloseParenthesis ts = record { wants = refl; goes = refl; arrow = refl; block = refl }
agrees_at token.OpenBracket ts = record { wants = refl; goes = refl; arrow = refl; block = refl }
agrees_at token.CloseBracket ts = record { wants = refl; goes = refl; arrow = refl; block = refl }
agrees_at token.OpenBlock ts = record { wants = refl; goes = refl; arrow = refl; block = refl }
agrees_at token.OpenObject ts = record { wants = refl; goes = refl; arrow = refl; block = refl }
agrees_at token.CloseBrace ts = record { wants = refl; goes = refl; arrow = refl; block = refl }
agrees_at token.OpenBars ts = record { wants = refl; goes = refl; arrow = refl; block = refl }
agrees_at token.CloseBars ts = record { wants = refl; goes = refl; arrow = refl; block = refl }
agrees_at token.Comma ts = record { wants = refl; goes = refl; arrow = refl; block = refl }
agrees_at token.Colon ts = record { wants = refl; goes = refl; arrow = refl; block = refl }
agrees_at token.Arrow ts = record { wants = refl; goes = refl; arrow = refl; block = refl }
agrees_at token.Separator ts = record { wants = refl; goes = refl; arrow = refl; block = refl }

pub agrees : (tokens : List Token) → Agrees tokens
agrees [] = record { wants = refl; goes = refl; arrow = refl; block = refl }
agrees (t ∷ ts) = agrees_at t ts
