use Rattle.std.proofs.Common.{◌≡◌, Bool, not, ◌||◌, ◌&&◌, ◌++◌, is_some, ap, ap₂, ◌∙◌, subst}
use Rattle.std.proofs.lemmas.Result.{IfOk-weaker}
use Rattle.vrl_diag.specs.declared.diagnostic.Span.{Span}
use Rattle.vrl_kind.specs.KindTree.{KindTree}
use Rattle.vrl_syntax.specs.declared.root.Target.{Target}
use Rattle.vrl_judge.specs.Rules.{Judgement, at, is_alive, is_misfit, is_nowhere, is_whole, of_error_assignment, when, writes_misfit}
use Rattle.vrl_judge.specs.Judging.{HasEnds, IsReported}
use Rattle.vrl_judge.specs.declared.checker.Checker.{Checker}
use Rattle.vrl_judge.specs.declared.ends.Ends.{Ends}
use Rattle.vrl_judge.specs.declared.prefix.Prefix.{Prefix}
use Rattle.vrl_judge.specs.declared.prefix.Prefix.TheVariants as prefix
use Rattle.vrl_judge.proofs.Parts.{fails_as, reported_more}
use Rattle.vrl_judge.proofs.checker.Checker.error_codes.Goals as goal

-- what the walk tests of the event, or of the metadata
tested : Target → Target → KindTree → Checker → Ends → Prefix → Bool
tested ok err K before old p = (is_some before.state.known || is_some old.fail) && ((not old.poisoned && is_misfit p ok K) || is_whole p err)

is_tested : (ok err : Target) (j : Judgement) (K : KindTree) (before : Checker) (old : Ends) (p : Prefix) → before.state.known ≡ j.ok → HasEnds before.state.scopes old j → tested ok err K before old p ≡ writes_misfit ok err j K p
unfolding tested
is_tested ok err j K before old p known has =
    ap₂ (λ a f. (a || f) && ((not old.poisoned && is_misfit p ok K) || is_whole p err)) (ap is_some known) (fails_as before.state.scopes old j has)
    ∙ ap {A = Bool} (λ q. (is_alive j.ok || is_alive j.fail) && ((not q && is_misfit p ok K) || is_whole p err)) has.poisoned

told : (span : Span) (ok err : Target) (j : Judgement) (K : KindTree) (before middle next after : Checker) (old first second new : Ends) (needless nowhere no_event no_metadata : Bool)
    → before.state.known ≡ j.ok → HasEnds before.state.scopes old j
    → needless ≡ not (old.poisoned || is_some old.fail)
    → nowhere ≡ (is_nowhere ok && is_nowhere err)
    → no_event ≡ tested ok err K before old prefix.Event
    → no_metadata ≡ tested ok err K before old prefix.Metadata
    → IsReported (when needless (at 104 span)) before middle old first
    → IsReported (when nowhere (at 640 span)) middle next first second
    → IsReported (when no_event (at 1006 span) ++ when no_metadata (at 1017 span)) next after second new
    → IsReported (of_error_assignment span ok err j K) before after old new
told span ok err j K before middle next after old first second new needless nowhere no_event no_metadata known has is_needless are_nowhere event metadata one two three =
    let first_is : needless ≡ not (j.poisoned || is_alive j.fail) = is_needless ∙ ap₂ (λ p f. not (p || f)) has.poisoned (fails_as before.state.scopes old j has) in
    let event_is = event ∙ is_tested ok err j K before old prefix.Event known has in
    let metadata_is = metadata ∙ is_tested ok err j K before old prefix.Metadata known has in
    reported_more _ _ before middle after old first new (subst (λ b. IsReported (when b (at 104 span)) before middle old first) first_is one)
    (reported_more _ _ middle next after first second new (subst (λ b. IsReported (when b (at 640 span)) middle next first second) are_nowhere two)
    (subst (λ b. IsReported (when (writes_misfit ok err j K prefix.Event) (at 1006 span) ++ when b (at 1017 span)) next after second new) metadata_is
    (subst (λ b. IsReported (when b (at 1006 span) ++ when no_metadata (at 1017 span)) next after second new) event_is three)))

pub returns : goal.returns
unfolding tested
returns c = IfOk-weaker c.report_misfits.result _ _
    (λ _ third j known has. told c.args.span c.args.ok.now c.args.err.now j c.args.kind.now c.args.self.now c.report.new.self c.report-2.new.self c.report_misfits.new.self c.args.ends.now c.report.new.ends c.report-2.new.ends c.report_misfits.new.ends
    c.is_needless-needless.result c.are_nowhere.result c.writes_misfit-no_event.result c.writes_misfit-no_metadata.result known has c.is_needless-needless.ensures c.are_nowhere.ensures c.writes_misfit-no_event.ensures c.writes_misfit-no_metadata.ensures
    c.in_ok-report.ensures c.in_ok-report-2.ensures third)
    c.report_misfits.ensures
