-- No diagnostic of a text stands twice.
use Rattle.std.specs.Prelude.{ℕ, ◌≤◌, List}
use Rattle.std.specs.List.Sorted.{IsStrictlySortedBy}
use Rattle.vrl_diag.specs.declared.diagnostic.Diagnostic.{Diagnostic}
use Rattle.vrl_diag.specs.declared.diagnostic.Span.{Span}
use Rattle.vrl_kind.specs.KindTree.{KindTree}
use Rattle.vrl_syntax.specs.Tree.{Script}
use Rattle.vrl_token.specs.declared.token.Spanned.{Spanned}
use Rattle.vrl_judge.specs.Ordered.{diagnostic_cmp}
use Rattle.vrl_judge.specs.Rules.{Judgement}
use Rattle.vrl_check.specs.Apart.{times}
use Rattle.vrl_check.specs.Judgement.{JudgesScript}
use Rattle.vrl_check.specs.OpenRules.{OpenRules}
use Rattle.vrl_compile.specs.Answer.{AreDiagnostics, IsScript}
use Rattle.vrl_compile.specs.declared.script.Compiled.{Compiled}
use Rattle.vrl_compile.specs.declared.script.Compiled.TheVariants.{Accepted, Refused}

-- in a judgement of the script that is read in a text no code stands twice at one place, whatever
-- kind its events have and whatever the open rules are
abbrev pub CodesStandOnce : Type 0
CodesStandOnce = (text : List ℕ) (tokens : List Spanned) (script : Script) → IsScript text tokens script
    → (rules : OpenRules) (declared : KindTree) (j : Judgement) → JudgesScript rules declared script.items j
    → (code : ℕ) (span : Span) → times code span j.codes ≤ 1

-- each is told before those behind it, by start, end and code; so none stands twice
abbrev pub StandOnce : List Diagnostic → Type 0
StandOnce diagnostics = IsStrictlySortedBy diagnostic_cmp diagnostics

-- so stand the diagnostics of a text under a kind
abbrev pub DiagnosticsStandOnce : Type 0
DiagnosticsStandOnce = (text : List ℕ) (declared : KindTree) (diagnostics : List Diagnostic)
    → AreDiagnostics declared text diagnostics → StandOnce diagnostics

-- and those of an answer
abbrev pub TellsOnce : Compiled → Type 0
TellsOnce (Accepted answer) = StandOnce answer.judged.diagnostics
TellsOnce (Refused diagnostics) = StandOnce diagnostics
