-- Tokens in order, and where their text ends.
use Rattle.std.specs.Prelude.{ℕ, List}
use Rattle.vrl_token.specs.declared.token.Spanned.{Spanned}

pub record TokenList : Type 0 where
  pub tokens : List Spanned
  -- how many bytes the text has
  pub «end» : ℕ
