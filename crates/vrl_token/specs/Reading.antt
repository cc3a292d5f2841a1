-- The tokens of a text, and what is wrong with it.
use Rattle.std.specs.Prelude.{◌≡◌, ℕ, ◌<◌, ◌⊎◌, List, [], ◌∷◌, length, map, reverse}
use Rattle.std.specs.Str.{IsUtf8}
use Rattle.vrl_diag.specs.declared.diagnostic.Diagnostic.{Diagnostic}
use Rattle.vrl_token.specs.declared.piece.Lexeme.{Lexeme}
use Rattle.vrl_token.specs.declared.token.Spanned.{Spanned}
use Rattle.vrl_token.specs.declared.token.Token.{Token}
use Rattle.vrl_token.specs.Division.{IsDivision, IsFirstFault, kept}
use Rattle.vrl_token.specs.Brackets.{tokens_from}
use Rattle.vrl_token.specs.Faults.{spelling_codes}
use Rattle.vrl_token.specs.Nesting.{IsTooDeep}
use Rattle.vrl_token.specs.Placing.{script_limit}

-- the tokens without their spans, from the last one on
abbrev pub backwards : List Spanned → List Token
backwards tokens = reverse (map (λ t. t.token) tokens)

-- the text has a division without a fault, and these are its tokens
pub record HasTokens (text : List ℕ) (tokens : List Spanned) : Type 0 where
  pub pieces : List Lexeme
  pub division : IsDivision text pieces
  pub tells : tokens ≡ tokens_from [] (kept pieces)

-- the text has these tokens, and they aren't nested too deeply
pub record IsTokenized (text : List ℕ) (tokens : List Spanned) : Type 0 where
  pub has : HasTokens text tokens
  pub limits : ¬ IsTooDeep (backwards tokens)

-- that tokens are nested too deeply, told about no part of the text
abbrev pub deep_nesting : Diagnostic
deep_nesting = record { code = 1008; span = record { start = 0; «end» = 0 } }

-- the text has tokens, and they are nested too deeply
pub record IsNestedTooDeeply (text : List ℕ) (fault : Diagnostic) : Type 0 where
  pub tokens : List Spanned
  pub has : HasTokens text tokens
  pub deep : IsTooDeep (backwards tokens)
  pub fault_is : fault ≡ deep_nesting

-- what is wrong with a text: its first fault, or where it has none that it is nested too deeply
abbrev pub IsTextFault : List ℕ → Diagnostic → Type 0
IsTextFault text fault = IsFirstFault text fault ⊎ IsNestedTooDeeply text fault

-- the codes that a fault of a text can have
abbrev pub lexical_codes : List ℕ
lexical_codes = 1008 ∷ spelling_codes

-- the bytes are no script's text: too many, or no UTF-8
abbrev pub IsNoScript : List ℕ → Type 0
IsNoScript bytes = (script_limit < length bytes) ⊎ ¬ IsUtf8 bytes
