-- Assignments behind their expressions.
use Rattle.std.proofs.Common.{◌≡◌, ℕ, Bool, false, not, ◌||◌, ◌&&◌, List, [], ◌++◌, Option, None, is_some, slice_set, refl, sym, ap, ap₂, ◌∙◌, subst}
use Rattle.std.specs.List.{list_any}
use Rattle.vrl_value.specs.Tree.{Tree}
use Rattle.vrl_value.specs.declared.value.Tag.{Tag}
use Rattle.vrl_diag.specs.declared.diagnostic.Diagnostic.{Diagnostic}
use Rattle.vrl_diag.specs.declared.diagnostic.Span.{Span}
use Rattle.vrl_syntax.specs.declared.root.Target.{Target}
use Rattle.vrl_kind.specs.Canonical.{allows_absent}
use Rattle.vrl_kind.specs.KindTree.{KindTree, kind as kind_tree}
use Rattle.vrl_kind.specs.Kinds.{found_at}
use Rattle.vrl_state.specs.States.{IsCutOf, IsEither, IsPresent, RootMap}
use Rattle.vrl_judge.specs.Assigning.{AreAssigned}
use Rattle.vrl_syntax.specs.ErrorAssignments.{empty_value}
use Rattle.vrl_diag.specs.Refusal.{is_error}
use Rattle.vrl_judge.specs.Rules.{Judgement, at, empty_tag, is_misfit, is_nowhere, of_assignment, of_error_assignment, when, with_codes, IsTargetWritten}
use Rattle.vrl_judge.specs.Judging.{known_on, AreBothWritten, AreEnds, HasEnds, HasJudged, IsAssignedAs, IsMoved, IsReported, IsWay}
use Rattle.vrl_judge.specs.Seen.{seen}
use Rattle.vrl_judge.specs.declared.checker.Checker.{Checker}
use Rattle.vrl_judge.specs.declared.ends.Ends.{Ends}
use Rattle.vrl_judge.specs.declared.finding.Finding.{Finding}
use Rattle.vrl_judge.proofs.Parts.{gathered_moved, reported_judged, reported_more}
use Rattle.vrl_judge.proofs.RootKinds.{value_root}
use Rattle.vrl_judge.proofs.Joining.{branch_alive}
use Rattle.vrl_judge.proofs.Told.{as_seen, seen_ends}
use Rattle.vrl_judge.specs.declared.prefix.Prefix.TheVariants as prefix

-- what is never absent at its root
pub not_absent : (K : KindTree) → IsPresent K → allows_absent K ≡ false
not_absent (kind_tree s l o) is = is

-- ---- one target

pub moved_judged : (before now after : Checker) (part : Finding) (j : Judgement) → HasJudged before now part j → IsMoved now after → HasJudged before after part (record j { ok = after.state.known })
moved_judged before now after part j has moved = record {
  kind = has.kind;
  root = has.root;
  ends = record { are = has.ends.are; fail = has.ends.fail; ret = has.ends.ret; returned = has.ends.returned; poisoned = has.ends.poisoned };
  gathered = gathered_moved before now after j has.gathered moved;
}

pub written_at : (target : Target) (K L : KindTree) (a a' b : Option RootMap) → K ≡ L → a ≡ a' → IsTargetWritten target K a b → IsTargetWritten target L a' b
written_at target K L a a' b same before is = subst (λ M. IsTargetWritten target M a' b) same (subst (λ s. IsTargetWritten target K s b) before is)

-- the codes of an assignment, by what the walk tests
pub codes_of : Span → Target → Bool → Bool → Bool → List Diagnostic
codes_of span target fallible no_event no_metadata =
    when fallible (at 103 span) ++ (when (is_nowhere target) (at 640 span) ++ (when no_event (at 1006 span) ++ when no_metadata (at 1017 span)))

pub codes_are : (span : Span) (target : Target) (before now : Checker) (part : Finding) (j : Judgement) (fallible no_event no_metadata : Bool) → HasJudged before now part j → fallible ≡ is_some part.ends.fail
    → no_event ≡ ((is_some now.state.known && not part.ends.poisoned) && is_misfit prefix.Event target part.kind)
    → no_metadata ≡ ((is_some now.state.known && not part.ends.poisoned) && is_misfit prefix.Metadata target part.kind)
    → codes_of span target fallible no_event no_metadata ≡ of_assignment span target j
unfolding codes_of
codes_are span target before now part j fallible no_event no_metadata has is event metadata =
    ap (λ b. codes_of span target b no_event no_metadata) (is ∙ branch_alive before.state.scopes part.ends.fail has.ends.are.fail)
    ∙ ap₂ (λ b c. codes_of span target (is_some (known_on part.ends.fail)) b c) event metadata
    ∙ ap (λ k. of_assignment span target k) (sym (as_seen before now part j has))

pub assigned_told : (span : Span) (target : Target) (now told after : Checker) (part : Finding) (ends : Ends) (fallible no_event no_metadata : Bool) → fallible ≡ is_some part.ends.fail
    → no_event ≡ ((is_some now.state.known && not part.ends.poisoned) && is_misfit prefix.Event target part.kind)
    → no_metadata ≡ ((is_some now.state.known && not part.ends.poisoned) && is_misfit prefix.Metadata target part.kind)
    → IsReported (when fallible (at 103 span) ++ (when (is_nowhere target) (at 640 span) ++ (when no_event (at 1006 span) ++ when no_metadata (at 1017 span)))) now told part.ends ends
    → IsTargetWritten target part.kind told.state.known after.state.known → IsMoved told after
    → IsAssignedAs span target part now after (record { kind = part.kind; ends = ends })
unfolding codes_of
assigned_told span target now told after part ends fallible no_event no_metadata is event metadata reported written moved = λ before j has.
    let ds = of_assignment span target j in
    let told_so = subst (λ es. IsReported es now told part.ends ends) (codes_are span target before now part j fallible no_event no_metadata has is event metadata) reported in
    let judged = reported_judged ds before now told part (record { kind = part.kind; ends = ends }) j told_so refl has in (
      after.state.known,
      written_at target part.kind j.kind told.state.known j.ok after.state.known has.kind (ap (λ s. s.known) reported.state ∙ has.gathered.ok) written,
      moved_judged before told after (record { kind = part.kind; ends = ends }) (with_codes ds j) judged moved,
    )

-- behind its codes
pub assigned_judged : (span : Span) (target : Target) (now b c told after : Checker) (part : Finding) (first second ends : Ends) (fallible nowhere no_event no_metadata : Bool) → fallible ≡ is_some part.ends.fail → nowhere ≡ is_nowhere target
    → no_event ≡ ((is_some now.state.known && not part.ends.poisoned) && is_misfit prefix.Event target part.kind)
    → no_metadata ≡ ((is_some now.state.known && not part.ends.poisoned) && is_misfit prefix.Metadata target part.kind)
    → IsReported (when fallible (at 103 span)) now b part.ends first → IsReported (when nowhere (at 640 span)) b c first second → IsReported (when no_event (at 1006 span) ++ when no_metadata (at 1017 span)) c told second ends
    → IsTargetWritten target part.kind told.state.known after.state.known → IsMoved told after
    → IsAssignedAs span target part now after (record { kind = part.kind; ends = ends })
assigned_judged span target now b c told after part first second ends fallible nowhere no_event no_metadata is none event metadata one two three written moved =
    let misfits = when no_event (at 1006 span) ++ when no_metadata (at 1017 span) in
    assigned_told span target now told after part ends fallible no_event no_metadata is event metadata
    (reported_more (when fallible (at 103 span)) (when (is_nowhere target) (at 640 span) ++ misfits) now b told part.ends first ends one
    (reported_more (when (is_nowhere target) (at 640 span)) misfits b c told first second ends (subst (λ n. IsReported (when n (at 640 span)) b c first second) none two) three))
    written moved

-- ---- behind the expression of an error assignment

-- the walk's steps: the tag is put, the codes are told, both targets are written
pub are_assigned : (span : Span) (ok err : Target) (place : ℕ) (part : Finding) (a b c d : Checker) (ends : Ends) (t : Tag) (E K : KindTree) → t ≡ empty_tag part.kind → AreEnds a.state.scopes part.ends
    → b.state ≡ a.state → b.diagnostics ≡ a.diagnostics → b.patterns ≡ a.patterns → b.loops ≡ a.loops → b.inside ≡ a.inside → b.empties.items ≡ slice_set a.empties.items place t
    → IsCutOf (found_at (empty_value (empty_tag part.kind))) E → IsEither part.kind E K
    → ((j : Judgement) → b.state.known ≡ j.ok → HasEnds b.state.scopes part.ends j → IsReported (of_error_assignment span ok err j K) b c part.ends ends)
    → AreBothWritten ok err part.kind E c.state.known (known_on ends.fail) d.state.known → IsMoved c d
    → AreAssigned span ok err place part a d (record { kind = K; ends = record ends { fail = None } })
are_assigned span ok err place part a b c d ends t E K tag_is are state diagnostics patterns loops inside put empty kind codes written moved =
    let ds = of_error_assignment span ok err (seen part a [] [] []) K in
    let reported : IsReported ds b c part.ends ends = codes (seen part a [] [] []) (ap (λ s. s.known) state) (seen_ends b.state.scopes part a [] [] [] (subst (λ s. AreEnds s.scopes part.ends) (sym state) are)) in
    let without : Ends → Ends = λ y. record y { fail = None } in
    let ends_are : without ends ≡ without (record part.ends { poisoned = part.ends.poisoned || list_any is_error ds }) = ap without reported.ends in
    record {
      E = E;
      empty = empty;
      kind = kind;
      written = subst (λ f. AreBothWritten ok err part.kind E a.state.known f d.state.known) (ap (λ y. known_on y.fail) reported.ends)
          (subst (λ s. AreBothWritten ok err part.kind E s.known (known_on ends.fail) d.state.known) (reported.state ∙ state) written);
      scopes = moved.scopes ∙ ap (λ s. s.scopes) (reported.state ∙ state);
      diagnostics = ap (λ v. v.items) moved.diagnostics ∙ reported.diagnostics ∙ ap (λ v. v.items ++ ds) diagnostics;
      empties = ap (λ v. v.items) (moved.empties ∙ reported.empties) ∙ put ∙ ap (slice_set a.empties.items place) tag_is;
      loops = moved.loops ∙ reported.loops ∙ loops;
      patterns = moved.patterns ∙ reported.patterns ∙ patterns;
      inside = moved.inside ∙ reported.inside ∙ inside;
      ends = ends_are;
    }

-- the empty value is present
pub empty_present : (v : Tree) (E : KindTree) → IsCutOf (found_at v) E → allows_absent E ≡ false
empty_present v E cut = not_absent E (value_root v E cut).present

-- the way of the error behind the codes
pub fail_behind : (span : Span) (ok err : Target) (part : Finding) (a b c : Checker) (ends : Ends) (K : KindTree) → AreEnds a.state.scopes part.ends → b.state ≡ a.state
    → ((j : Judgement) → b.state.known ≡ j.ok → HasEnds b.state.scopes part.ends j → IsReported (of_error_assignment span ok err j K) b c part.ends ends) → IsWay c.state.scopes ends.fail
fail_behind span ok err part a b c ends K are state codes =
    let reported : IsReported (of_error_assignment span ok err (seen part a [] [] []) K) b c part.ends ends =
    codes (seen part a [] [] []) (ap (λ s. s.known) state) (seen_ends b.state.scopes part a [] [] [] (subst (λ s. AreEnds s.scopes part.ends) (sym state) are))
    in
    subst (λ s. IsWay s.scopes ends.fail) (sym (reported.state ∙ state)) (subst (IsWay a.state.scopes) (sym (ap (λ y. y.fail) reported.ends)) are.fail)
