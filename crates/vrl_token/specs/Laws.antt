-- Laws of the tokens of a text: there is one list of them, or one fault.
use Rattle.std.specs.Prelude.{◌≡◌, ℕ, List}
use Rattle.vrl_diag.specs.declared.diagnostic.Diagnostic.{Diagnostic}
use Rattle.vrl_token.specs.declared.token.Spanned.{Spanned}
use Rattle.vrl_token.specs.Reading.{IsTokenized, IsTextFault}

-- a text has one list of tokens, has not tokens and a fault, and has one fault
pub record TokensAreDetermined : Type 0 where
  pub one_list : (text : List ℕ) (a b : List Spanned) → IsTokenized text a → IsTokenized text b → a ≡ b
  pub not_both : (text : List ℕ) (tokens : List Spanned) (fault : Diagnostic) → IsTokenized text tokens
      → ¬ IsTextFault text fault
  pub one_fault : (text : List ℕ) (a b : Diagnostic) → IsTextFault text a → IsTextFault text b → a ≡ b
