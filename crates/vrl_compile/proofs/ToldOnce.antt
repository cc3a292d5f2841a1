-- No diagnostic of a text stands twice: each step tells one, or tells each at a place of its own, and no code of a judgement stands twice at one place.
use Rattle.std.proofs.Common.{◌≡◌, ℕ, List, [], ◌∷◌, Result, Ok, Err, IfOk, length, sym, ◌∙◌, subst}
use Rattle.vrl_diag.specs.declared.diagnostic.Diagnostic.{Diagnostic}
use Rattle.vrl_kind.specs.KindTree.{KindTree}
use Rattle.vrl_syntax.specs.Tree.{Script}
use Rattle.vrl_token.proofs.HolePlaces.{holes_stand}
use Rattle.vrl_token.proofs.Placed.{tokens_in_order}
use Rattle.vrl_token.specs.declared.token.Spanned.{Spanned}
use Rattle.vrl_value.specs.declared.memory.Memory.{Memory as WantOfMemory}
use Rattle.vrl_check.specs.Apart.{NoCodeStandsTwice}
use Rattle.vrl_check.specs.OpenRules.{language_rules}
use Rattle.vrl_compile.specs.Answer.{AreOfScript, IsAnswer, IsScript, beyond, judged, malformed, of_script, unread, wrong}
use Rattle.vrl_compile.specs.Once.{CodesStandOnce, DiagnosticsStandOnce, StandOnce, TellsOnce}
use Rattle.vrl_compile.specs.declared.script.Compiled.{Compiled}
use Rattle.vrl_compile.specs.declared.script.Compiled.TheVariants.{Accepted, Refused}
use Rattle.vrl_compile.proofs.ApartParts.{parts_apart}
use Rattle.vrl_compile.proofs.StrictOrder.{literals_strictly, one_alone, ordered_strictly}

pub codes_once : NoCodeStandsTwice → CodesStandOnce
codes_once law text tokens script is rules declared j judges = law rules declared script.items j (parts_apart (length text) tokens script (tokens_in_order text tokens is.tokenized.has) (holes_stand text tokens is.tokenized.has) is.reads) judges

-- a list of one diagnostic
pub alone_once : (diagnostics : List Diagnostic) (d : Diagnostic) → diagnostics ≡ d ∷ [] → StandOnce diagnostics
alone_once diagnostics d is = subst StandOnce (sym is) (one_alone d)

of_script_once : NoCodeStandsTwice → (text : List ℕ) (tokens : List Spanned) (script : Script) → IsScript text tokens script → (declared : KindTree) (diagnostics : List Diagnostic) → AreOfScript declared tokens script diagnostics → StandOnce diagnostics
of_script_once law text tokens script is declared diagnostics (beyond d others some first) = alone_once diagnostics d first
of_script_once law text tokens script is declared diagnostics (malformed limits d others some first) = subst StandOnce (some ∙ sym first) (literals_strictly (length text) tokens (tokens_in_order text tokens is.tokenized.has))
of_script_once law text tokens script is declared diagnostics (judged can j judges ordered) =
    ordered_strictly j.codes diagnostics ordered (codes_once law text tokens script is (language_rules script.patterns) declared j judges)

pub diagnostics_once : NoCodeStandsTwice → DiagnosticsStandOnce
diagnostics_once law text declared diagnostics (wrong d is first) = alone_once diagnostics d first
diagnostics_once law text declared diagnostics (unread span none first) = alone_once diagnostics (record { code = 203; span = span }) first
diagnostics_once law text declared diagnostics (of_script tokens script is of) = of_script_once law text tokens script is declared diagnostics of

-- ---- answers

pub answer_once : DiagnosticsStandOnce → (text : List ℕ) (declared : KindTree) (result : Result Compiled WantOfMemory) → IfOk result (IsAnswer declared text) → IfOk result TellsOnce
answer_once once text declared (Ok (Accepted answer)) is =
    once text declared answer.judged.diagnostics (of_script is.accepted.tokens is.script is.accepted.is_script (judged is.accepted.can_be_judged is.judgement is.accepted.judges is.judged.diagnostics))
answer_once once text declared (Ok (Refused diagnostics)) is = once text declared diagnostics is.are
answer_once once text declared (Err refused) is = tt
