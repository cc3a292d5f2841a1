-- No diagnostic is told twice, whatever is asked.
use Rattle.std.proofs.Common.{ℕ, List, Option, Some, None, sym, subst}
use Rattle.vrl_diag.specs.declared.diagnostic.Diagnostic.{Diagnostic}
use Rattle.vrl_kind.specs.KindTree.{KindTree}
use Rattle.vrl_syntax.specs.Tree.{Script}
use Rattle.vrl_judge.specs.Rules.{Judgement}
use Rattle.vrl_compile.specs.Answer.{judged, of_script}
use Rattle.vrl_compile.specs.Once.{DiagnosticsStandOnce, StandOnce}
use Rattle.vrl_compile.proofs.StrictOrder.{no_diagnostic}
use Rattle.vrl_compile.proofs.ToldOnce.{alone_once}
use Rattle.vrl_run.specs.Request.{Request, bad_kind, bad_script, bad_words, map_lines, map_made, tell_kinds}
use Rattle.remap_words.specs.Words.{Invocation}
use Rattle.remap_call.specs.Request.{AreToldOnce, Asks, AsksByScript, IsAccepted, IsRefused, diagnostics_in, has_error, no_text}

refused_once : DiagnosticsStandOnce → (name file : Option (List ℕ)) (text : List ℕ) (diagnostics : List Diagnostic) → IsRefused name file text diagnostics → StandOnce diagnostics
refused_once once name file text diagnostics (no_text none is) = alone_once diagnostics (record { code = 1009; span = record { start = 0; end = 0 } }) is
refused_once once name file text diagnostics (has_error is_text declared of_kind is) = once text declared diagnostics is.are

accepted_once : DiagnosticsStandOnce → (declared : KindTree) (text : List ℕ) (script : Script) (judgement : Judgement) (warnings : List Diagnostic) → IsAccepted declared text script judgement warnings → StandOnce warnings
accepted_once once declared text script judgement warnings is =
    once text declared warnings (of_script is.accepted.tokens script is.accepted.is_script (judged is.accepted.can_be_judged judgement is.accepted.judges is.ordered))

by_script : DiagnosticsStandOnce → (i : Invocation) (file : Option (List ℕ)) (text : List ℕ) (request : Request) → AsksByScript i file text request → StandOnce (diagnostics_in request)
by_script once i file text bad_words asks = absurd asks
by_script once i file text (bad_kind fault) asks = no_diagnostic
by_script once i file text (bad_script told diagnostics) asks = refused_once once i.kind file text diagnostics asks.1
by_script once i file text (map_lines run) asks = accepted_once once run.declared text asks.1.script asks.1.judgement run.warnings asks.1.accepted
by_script once i file text (map_made run count seed) asks = accepted_once once run.declared text asks.1.script asks.1.judgement run.warnings asks.1.accepted
by_script once i file text (tell_kinds told warnings K known envelope) asks = accepted_once once asks.3.declared text asks.3.script asks.3.judgement warnings asks.3.accepted

pub told_once : DiagnosticsStandOnce → (invocation : Option Invocation) (script file : Option (List ℕ)) → AreToldOnce (Asks invocation (record { script = script; kind_file = file }))
told_once once None script file request is = subst (λ r. StandOnce (diagnostics_in r)) (sym is) no_diagnostic
told_once once (Some i) None file request asks = absurd asks
told_once once (Some i) (Some text) file request asks = by_script once i file text request asks
