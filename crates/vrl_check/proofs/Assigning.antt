-- Assignments behind their expressions.
use Rattle.std.proofs.Common.{◌≡◌, ◌<◌, ◌+◌, ℕ, true, false, List, [], ◌∷◌, ◌++◌, length, slice_set, Some, None, refl, sym, ap, ap₂, ◌∙◌, subst, append_assoc, arith}
use Rattle.std.proofs.Math.Seq.{set-append_seam}
use Rattle.std.proofs.lemmas.List.{length-append}
use Rattle.vrl_value.specs.declared.value.Tag.{Tag}
use Rattle.vrl_path.specs.declared.path.Step.{Step}
use Rattle.vrl_diag.specs.declared.diagnostic.Span.{Span}
use Rattle.vrl_syntax.specs.Tree.{Expr, expr, assign, binary, both, merge, read}
use Rattle.vrl_syntax.specs.declared.root.Root.{Root}
use Rattle.vrl_syntax.specs.declared.root.Target.{Target}
use Rattle.vrl_syntax.specs.declared.root.Target.TheVariants.{Nowhere, Place}
use Rattle.vrl_kind.specs.Canonical.{allows_absent}
use Rattle.vrl_state.specs.States.{IsRootKind}
use Rattle.vrl_judge.specs.Returns.{return_kind, return_state}
use Rattle.vrl_judge.specs.Assigning.{AreAssigned}
use Rattle.vrl_syntax.specs.ErrorAssignments.{empty_value}
use Rattle.vrl_kind.specs.Tags.{same_tag}
use Rattle.vrl_judge.specs.Rules.{Judgement, at, empty_tag, of_assignment, of_error_assignment, settle, with_codes}
use Rattle.vrl_check.specs.Judgement.{Judges, a_merge_assignment, a_merge_into_nothing, an_assignment, an_error_assignment, reached}
use Rattle.vrl_judge.specs.Judging.{branches_known, known_on, loops_known, HasJudged, IsAssignedAs, IsReported, IsReturnIn, IsSettledAs, IsWay}
use Rattle.vrl_check.specs.Walking.{IsAnywhereAs, IsGivenAs, IsJudgedAs}
use Rattle.vrl_judge.specs.Seen.{seen}
use Rattle.vrl_judge.specs.declared.checker.Checker.{Checker}
use Rattle.vrl_judge.specs.declared.ends.Ends.{Ends}
use Rattle.vrl_judge.specs.declared.finding.Finding.{Finding}
use Rattle.vrl_judge.proofs.Parts.{reported_judged}
use Rattle.vrl_state.proofs.Limits.{either_root}
use Rattle.vrl_judge.proofs.RootKinds.{value_root}
use Rattle.vrl_check.proofs.Told.{judges_at, told_expr, IsToldExpr}
use Rattle.vrl_judge.proofs.Assigning.{not_absent}
use Rattle.vrl_value.specs.declared.value.Tag.TheVariants as tag
use Rattle.vrl_syntax.specs.declared.root.Op.TheVariants as op
use Rattle.vrl_check.specs.OpenRules.{language_rules}

-- ---- one target

pub assignment_judged : (span : Span) (target : Target) (e : Expr) (a b c : Checker) (part finding : Finding) → IsJudgedAs e a b part → IsAssignedAs span target part b c finding → IsGivenAs span (assign target e) a c finding
assignment_judged span target e a b c part finding first assigned = λ known alive.
    let is = assigned a first.0 first.2 in
    (with_codes (of_assignment span target first.0) (record first.0 { ok = is.0 }), an_assignment (subst (λ s. Judges (language_rules a.patterns.now) a.inside s e first.0) alive first.1) is.1, is.2)

-- ---- merges

pub nowhere_judged : (span : Span) (target : Target) (e : Expr) (a b c : Checker) (part : Finding) (ends : Ends) → target ≡ Nowhere → IsJudgedAs e a b part → IsReported (at 640 span) b c part.ends ends
    → IsGivenAs span (merge target e) a c (record { kind = part.kind; ends = ends })
nowhere_judged span target e a b c part ends is first reported = subst (λ t. IsGivenAs span (merge t e) a c (record { kind = part.kind; ends = ends })) (sym is) (λ known alive. (
  with_codes (at 640 span) first.0,
  a_merge_into_nothing (subst (λ s. Judges (language_rules a.patterns.now) a.inside s e first.0) alive first.1),
  reported_judged (at 640 span) a b c part (record { kind = part.kind; ends = ends }) first.0 reported refl first.2,
))

merge_at : (span place : Span) (root : Root) (path : List Step) (e : Expr) (a b c : Checker) (whole merged finding : Finding) → IsAnywhereAs (binary op.Merge (expr place (read root path)) e) a b whole
    → IsSettledAs whole b merged → IsAssignedAs span (Place place root path) merged b c finding → IsGivenAs span (merge (Place place root path) e) a c finding
merge_at span place root path e a b c whole merged finding first settles assigned = λ known alive.
    let given = first span known alive in
    let is = assigned a (settle given.0) (settles a given.0 given.2) in
    (with_codes (of_assignment span (Place place root path) (settle given.0)) (record (settle given.0) { ok = is.0 }), a_merge_assignment (reached given.1) is.1, is.2)

pub merge_judged : (span place : Span) (root : Root) (path : List Step) (target : Target) (e : Expr) (a b c : Checker) (whole merged finding : Finding) → target ≡ Place place root path
    → IsAnywhereAs (binary op.Merge (expr place (read root path)) e) a b whole → IsSettledAs whole b merged → IsAssignedAs span target merged b c finding → IsGivenAs span (merge target e) a c finding
merge_judged span place root path target e a b c whole merged finding is first settles assigned =
    subst (λ t. IsGivenAs span (merge t e) a c finding) (sym is) (merge_at span place root path e a b c whole merged finding first settles (subst (λ t. IsAssignedAs span t merged b c finding) is assigned))

-- what was judged is present, and so is what is settled
pub judged_present : (before now : Checker) (part : Finding) (j : Judgement) → HasJudged before now part j → allows_absent part.kind ≡ false
judged_present before now part j has = not_absent part.kind (subst IsRootKind (sym has.kind) has.root).present

pub settled_present : (before now : Checker) (whole merged : Finding) → ((j : Judgement) × HasJudged before now whole j) → IsSettledAs whole now merged → allows_absent merged.kind ≡ false
settled_present before now whole merged is settles = judged_present before now merged (settle is.0) (settles before is.0 is.1)

-- ---- two targets

-- the place that was kept has the tag
put_behind : (t : Tag) (place : ℕ) (front first before after ts : List Tag) → place ≡ length front → first ≡ front ++ (tag.Null ∷ []) → before ≡ first ++ ts
    → after ≡ slice_set before place t → after ≡ front ++ (t ∷ ts)
put_behind t place front first before after ts at_place kept behind put =
    put ∙ ap₂ {A = List Tag} {B = ℕ} (λ xs n. slice_set xs n t) (behind ∙ ap (λ xs. xs ++ ts) kept ∙ append_assoc front (tag.Null ∷ []) ts) at_place ∙ set-append_seam front tag.Null ts t

-- it stands behind all that was told since
pub place_stands : (place : ℕ) (front first before ts : List Tag) → place ≡ length front → first ≡ front ++ (tag.Null ∷ []) → before ≡ first ++ ts → place < length before
place_stands place front first before ts at_place kept behind =
    let one : length before ≡ length first + length ts = ap length behind ∙ length-append first ts in
    let two : length first ≡ length front + 1 = ap length kept ∙ length-append front (tag.Null ∷ []) in
    omega arith

-- a tag is itself
same_tag-itself : (t : Tag) → same_tag t t ≡ true
same_tag-itself tag.Text = refl
same_tag-itself tag.Int = refl
same_tag-itself tag.Bool = refl
same_tag-itself tag.Null = refl
same_tag-itself tag.Time = refl
same_tag-itself tag.Pattern = refl
same_tag-itself tag.List = refl
same_tag-itself tag.Object = refl
same_tag-itself tag.Absent = refl

error_told : (span : Span) (t u : Target) (e : Expr) (a kept b c : Checker) (place : ℕ) (part finding : Finding) → kept.state ≡ a.state → kept.diagnostics ≡ a.diagnostics → kept.loops ≡ a.loops → kept.patterns ≡ a.patterns → kept.inside ≡ a.inside → kept.empties.items ≡ a.empties.items ++ (tag.Null ∷ [])
    → place ≡ length a.empties.items → IsToldExpr e kept b part → AreAssigned span t u place part b c finding → IsGivenAs span (both t u e) a c finding
error_told span t u e a kept b c place part finding state diagnostics loops patterns inside empties at_place x last = λ known alive.
    let j = seen part b x.codes x.tags x.loops in
    let ds = of_error_assignment span t u j finding.kind in
    let w = last.written in (
      with_codes ds (record j { kind = finding.kind; ok = c.state.known; fail = None; empties = empty_tag part.kind ∷ x.tags }),
      an_error_assignment (empty_tag part.kind) w.behind_value.between w.given w.behind_error.written.between w.behind_error.failed
          (judges_at a kept (Some known) e j patterns inside (ap (λ s. s.known) state ∙ alive) x.judges) (same_tag-itself (empty_tag part.kind)) last.empty last.kind w.null w.text
          w.behind_value.first w.behind_value.second w.behind_error.written.first w.behind_error.written.second w.behind_error.joined,
      record {
        kind = refl;
        root = either_root part.kind last.E finding.kind x.ended.root (value_root (empty_value (empty_tag part.kind)) last.E last.empty) last.kind;
        ends = record {
          are = record {
            fail = subst (IsWay a.state.scopes) (sym (ap (λ y. y.fail) last.ends)) refl;
            ret = subst (IsReturnIn a.state.scopes) (sym (ap (λ y. y.ret) last.ends)) (subst (λ s. IsReturnIn s.scopes part.ends.ret) state x.ended.are.ret);
          };
          fail = ap (λ y. known_on y.fail) last.ends;
          ret = ap (λ y. return_state y.ret) last.ends;
          returned = ap (λ y. return_kind y.ret) last.ends;
          poisoned = ap (λ y. y.poisoned) last.ends;
        };
        gathered = record {
          ok = refl;
          scopes = last.scopes ∙ x.ended.gathers.scopes ∙ ap (λ s. s.scopes) state;
          diagnostics = last.diagnostics ∙ ap (λ y. y ++ ds) (x.ended.gathers.diagnostics ∙ ap (λ v. v.items ++ x.codes) diagnostics) ∙ append_assoc a.diagnostics.items x.codes ds;
          empties = put_behind (empty_tag part.kind) place a.empties.items kept.empties.items b.empties.items c.empties.items x.tags at_place empties x.ended.gathers.empties last.empties;
          loops = ap (λ v. branches_known v.items) last.loops ∙ x.ended.gathers.loops ∙ ap (λ v. branches_known v.items ++ loops_known x.loops) loops;
          patterns = last.patterns ∙ x.ended.gathers.patterns ∙ patterns;
          inside = last.inside ∙ x.ended.gathers.inside ∙ inside;
        };
      },
    )

pub error_judged : (span : Span) (t u : Target) (e : Expr) (a kept b c : Checker) (place : ℕ) (part finding : Finding) → kept.state ≡ a.state → kept.diagnostics ≡ a.diagnostics → kept.loops ≡ a.loops → kept.patterns ≡ a.patterns → kept.inside ≡ a.inside → kept.empties.items ≡ a.empties.items ++ (tag.Null ∷ [])
    → place ≡ length a.empties.items → IsJudgedAs e kept b part → AreAssigned span t u place part b c finding → IsGivenAs span (both t u e) a c finding
error_judged span t u e a kept b c place part finding state diagnostics loops patterns inside empties at_place first last =
    error_told span t u e a kept b c place part finding state diagnostics loops patterns inside empties at_place (told_expr e kept b part first) last
