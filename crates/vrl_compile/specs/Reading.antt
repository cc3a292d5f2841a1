-- A text has one reading and one list of diagnostics.
use Rattle.std.specs.Prelude.{◌≡◌, ℕ, List}
use Rattle.vrl_diag.specs.declared.diagnostic.Diagnostic.{Diagnostic}
use Rattle.vrl_kind.specs.KindTree.{KindTree}
use Rattle.vrl_syntax.specs.Tree.{Script}
use Rattle.vrl_token.specs.declared.token.Spanned.{Spanned}
use Rattle.vrl_compile.specs.Answer.{AreDiagnostics, IsScript}

-- two readings of a text are the same
pub record AreOneReading (tokens others : List Spanned) (script other : Script) : Type 0 where
  pub tokens_are : tokens ≡ others
  pub script_is : script ≡ other

-- so are any two readings of any text
abbrev pub ScriptsHaveOneReading : Type 0
ScriptsHaveOneReading = (text : List ℕ) (tokens others : List Spanned) (script other : Script)
    → IsScript text tokens script → IsScript text others other → AreOneReading tokens others script other

-- so the diagnostics of a text under a kind are one list
abbrev pub DiagnosticsAreDetermined : Type 0
DiagnosticsAreDetermined = (declared : KindTree) (text : List ℕ) (a b : List Diagnostic)
    → AreDiagnostics declared text a → AreDiagnostics declared text b → a ≡ b
