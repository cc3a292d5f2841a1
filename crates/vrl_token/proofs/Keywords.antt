-- The spellings of keywords.
use Rattle.std.proofs.Common.{◌≡◌, ℕ, List, sym, arith}
use Rattle.std.specs.List.{Contains}
use Rattle.vrl_token.specs.declared.token.Token.{Token}
use Rattle.vrl_token.specs.declared.token.Token.TheVariants as token
use Rattle.vrl_token.specs.Cuts.{IsKeyword}
use Rattle.vrl_token.specs.Lexical.{keywords}

pub keyword_contained : (name : List ℕ) (t : Token) → IsKeyword name t → Contains keywords name
keyword_contained name token.If is = (0, omega arith, sym is)
keyword_contained name token.Else is = (1, omega arith, sym is)
keyword_contained name token.Abort is = (2, omega arith, sym is)
keyword_contained name token.Return is = (3, omega arith, sym is)
keyword_contained name token.True is = (4, omega arith, sym is)
keyword_contained name token.False is = (5, omega arith, sym is)
keyword_contained name token.Null is = (6, omega arith, sym is)
keyword_contained name _ is = absurd is
