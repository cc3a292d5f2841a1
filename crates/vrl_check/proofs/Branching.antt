-- The branching forms behind their parts.
use Rattle.std.proofs.Common.{◌≡◌, Bool, not, ◌||◌, List, [], ◌++◌, Option, None, is_some, refl, sym, ap, ◌∙◌, subst, append-nil}
use Rattle.std.specs.List.{list_any}
use Rattle.vrl_value.specs.declared.value.Tag.{Tag}
use Rattle.vrl_diag.specs.declared.diagnostic.Diagnostic.{Diagnostic}
use Rattle.vrl_diag.specs.declared.diagnostic.Span.{Span}
use Rattle.vrl_syntax.specs.Tree.{Expr, binary, return_of, abort_with, no_message, message, span_of}
use Rattle.vrl_kind.specs.Canonical.{never_kind}
use Rattle.vrl_kind.specs.Kinds.{root_tags}
use Rattle.vrl_place.specs.Sets.{is_alone}
use Rattle.vrl_state.specs.States.{IsCutOf, IsEither, IsJoined, RootMap, State}
use Rattle.vrl_judge.specs.Returns.{return_kind, return_state}
use Rattle.vrl_judge.specs.Branching.{AreBothSides, IsAborted, IsConjoined, IsLeftSide, IsOrFail, IsReturned, StandsIn}
use Rattle.vrl_diag.specs.Refusal.{is_error}
use Rattle.vrl_judge.specs.Rules.{Judgement, Loop, at, if_state, is_alive, may_be_no_truth, may_be_truth, nothing, of_message, or_else_at, when, with_codes, IsBehind, IsThen}
use Rattle.vrl_check.specs.Judgement.{Judges, a_conjunction, a_disjunction, a_coalescing, a_return, an_abort, an_abort_with}
use Rattle.vrl_judge.specs.Judging.{known_on, no_ends, AreEnds, AreJoinedEnds, IsMoved, IsReported}
use Rattle.vrl_check.specs.Walking.{IsAnywhereAs, IsGivenAs, IsJudgedAs}
use Rattle.vrl_judge.specs.Seen.{seen}
use Rattle.vrl_judge.specs.declared.branches.LeftSide.{LeftSide}
use Rattle.vrl_judge.specs.declared.checker.Checker.{Checker}
use Rattle.vrl_judge.specs.declared.ends.Ends.{Ends}
use Rattle.vrl_judge.specs.declared.finding.Finding.{Finding}
use Rattle.vrl_judge.proofs.Parts.{are_ends_of, behind_with, is_behind, no_loops, reported_judged, returns_but_fail}
use Rattle.vrl_state.proofs.Limits.{either_root}
use Rattle.vrl_judge.proofs.RootKinds.{never_root, or_else_root, scalar_root}
use Rattle.vrl_judge.proofs.Told.{gathers_codes, gathers_two, has_gathered, IsTold}
use Rattle.vrl_check.proofs.Told.{judges_at, told_expr, IsToldExpr}
use Rattle.vrl_judge.proofs.Joining.{branch_alive, no_ends_are}
use Rattle.vrl_value.specs.declared.value.Tag.TheVariants as tag
use Rattle.vrl_syntax.specs.declared.root.Op.TheVariants as op
use Rattle.vrl_check.specs.OpenRules.{language_rules}

-- ---- two sides

-- where the right one's scopes are those of the whole
scopes_of_two : (a b c d : Checker) (part other : Finding) (ds es : List Diagnostic) (ts us : List Tag) (ls ms : List (Option Loop)) → IsTold a b part ds ts ls → IsMoved b c → IsTold c d other es us ms → d.state.scopes ≡ a.state.scopes
scopes_of_two a b c d part other ds es ts us ls ms first moved second = second.gathers.scopes ∙ moved.scopes ∙ first.gathers.scopes

-- where the left side stands behind the right one, for a call behind it
pub stands_here : (r : Expr) (start beside : Option RootMap) (b c d : Checker) (side : LeftSide) (other : Finding) → IsLeftSide start beside b c side → IsJudgedAs r c d other → StandsIn d.state.scopes side
stands_here r start beside b c d side other step second = subst (λ scopes. StandsIn scopes side) (sym (second.2.gathered.scopes ∙ step.moved.scopes)) step.stands

conjunction_told : (l r : Expr) (a b c d e : Checker) (part other finding : Finding) (side : LeftSide) → IsToldExpr l a b part
    → IsLeftSide (if_state (root_tags part.kind tag.Bool) b.state.known) (if_state (may_be_truth part.kind) b.state.known) b c side
    → IsOrFail part.ends (if_state (may_be_no_truth part.kind) b.state.known) side.part.ends
    → IsToldExpr r c d other → IsConjoined side other d e finding
    → IsAnywhereAs (binary op.And l r) a e finding
conjunction_told l r a b c d e part other finding side x step or_fail y last = λ span known alive.
    let j = seen part b x.codes x.tags x.loops in
    let k = seen other d y.codes y.tags y.loops in
    let behind : IsBehind j k (behind_with last.both j k) = is_behind side.part.ends other.ends last.both j k (returns_but_fail part.ends side.part.ends j or_fail.others (refl, refl, refl)) (refl, refl, refl) last.ends in (
      record (behind_with last.both j k) { kind = finding.kind; ok = e.state.known; fail = known_on finding.ends.fail },
      a_conjunction (known_on side.part.ends.fail) (known_on last.both.fail)
          (subst (λ s. Judges (language_rules a.patterns.now) a.inside s l j) alive x.judges) (judges_at a c _ r k (step.moved.patterns ∙ x.ended.gathers.patterns) (step.moved.inside ∙ x.ended.gathers.inside) step.known y.judges) behind last.kind
          (subst (λ s. IsJoined s (if_state (may_be_truth other.kind) d.state.known) e.state.known) step.beside last.known)
          or_fail.fail last.ends.fail last.or_fail.fail,
      record {
        kind = refl;
        root = scalar_root tag.Bool finding.kind last.kind refl;
        ends = record {
          are = subst (λ s. AreEnds s finding.ends) (scopes_of_two a b c d part other x.codes y.codes x.tags y.tags x.loops y.loops x.ended step.moved y.ended) last.are;
          fail = refl;
          ret = ap (λ x. return_state x.ret) last.or_fail.others;
          returned = ap (λ x. return_kind x.ret) last.or_fail.others;
          poisoned = ap (λ x. x.poisoned) last.or_fail.others;
        };
        gathered = has_gathered a e _ (gathers_two a b c d e x.codes y.codes x.tags y.tags x.loops y.loops x.ended.gathers step.moved y.ended.gathers last.moved) refl;
      },
    )

pub conjunction_judged : (l r : Expr) (a b c d e : Checker) (part other finding : Finding) (side : LeftSide) → IsJudgedAs l a b part
    → IsLeftSide (if_state (root_tags part.kind tag.Bool) b.state.known) (if_state (may_be_truth part.kind) b.state.known) b c side
    → IsOrFail part.ends (if_state (may_be_no_truth part.kind) b.state.known) side.part.ends
    → IsJudgedAs r c d other → IsConjoined side other d e finding
    → IsAnywhereAs (binary op.And l r) a e finding
conjunction_judged l r a b c d e part other finding side first step or_fail second last =
    conjunction_told l r a b c d e part other finding side (told_expr l a b part first) step or_fail (told_expr r c d other second) last

disjunction_told : (l r : Expr) (a b c d e : Checker) (part other finding : Finding) (side : LeftSide) → IsToldExpr l a b part
    → IsLeftSide (if_state (may_be_truth part.kind) b.state.known) (if_state (not (is_alone (root_tags part.kind) tag.Null)) b.state.known) b c side
    → IsToldExpr r c d other → IsCutOf (or_else_at part.kind other.kind) finding.kind → AreJoinedEnds part.ends other.ends finding.ends → AreBothSides side other.ends d e finding.ends
    → IsAnywhereAs (binary op.Or l r) a e finding
disjunction_told l r a b c d e part other finding side x step y kind joined last = λ span known alive.
    let j = seen part b x.codes x.tags x.loops in
    let k = seen other d y.codes y.tags y.loops in
    let both : IsThen j k (behind_with finding.ends j k) = record { behind = is_behind part.ends other.ends finding.ends j k (refl, refl, refl) (refl, refl, refl) joined; fail = joined.fail } in (
      record (behind_with finding.ends j k) { kind = finding.kind; ok = e.state.known },
      a_disjunction (subst (λ s. Judges (language_rules a.patterns.now) a.inside s l j) alive x.judges) (judges_at a c _ r k (step.moved.patterns ∙ x.ended.gathers.patterns) (step.moved.inside ∙ x.ended.gathers.inside) step.known y.judges) both kind
          (subst (λ s. IsJoined s d.state.known e.state.known) step.beside last.known),
      record {
        kind = refl;
        root = or_else_root part.kind other.kind finding.kind x.ended.root y.ended.root kind;
        ends = record {
          are = subst (λ s. AreEnds s finding.ends) (scopes_of_two a b c d part other x.codes y.codes x.tags y.tags x.loops y.loops x.ended step.moved y.ended) last.are;
          fail = refl;
          ret = refl;
          returned = refl;
          poisoned = refl;
        };
        gathered = has_gathered a e _ (gathers_two a b c d e x.codes y.codes x.tags y.tags x.loops y.loops x.ended.gathers step.moved y.ended.gathers last.moved) refl;
      },
    )

pub disjunction_judged : (l r : Expr) (a b c d e : Checker) (part other finding : Finding) (side : LeftSide) → IsJudgedAs l a b part
    → IsLeftSide (if_state (may_be_truth part.kind) b.state.known) (if_state (not (is_alone (root_tags part.kind) tag.Null)) b.state.known) b c side → side.part ≡ part
    → IsJudgedAs r c d other → IsCutOf (or_else_at side.part.kind other.kind) finding.kind → AreBothSides side other.ends d e finding.ends
    → IsAnywhereAs (binary op.Or l r) a e finding
disjunction_judged l r a b c d e part other finding side first step same second kind last =
    disjunction_told l r a b c d e part other finding side (told_expr l a b part first) step (told_expr r c d other second)
    (subst (λ p. IsCutOf (or_else_at p.kind other.kind) finding.kind) same kind)
    (subst (λ p. AreJoinedEnds p.ends other.ends finding.ends) same last.ends)
    last

coalescing_told : (span : Span) (l r : Expr) (a b c d e f : Checker) (part other middle : Finding) (side : LeftSide) (ends : Ends) → IsToldExpr l a b part
    → IsLeftSide (known_on part.ends.fail) b.state.known b c side
    → IsToldExpr r c d other → IsEither part.kind other.kind middle.kind → AreJoinedEnds (record part.ends { fail = None }) other.ends middle.ends → AreBothSides side other.ends d e middle.ends
    → IsReported (when (not (part.ends.poisoned || is_alive (known_on part.ends.fail))) (at 651 span)) e f middle.ends ends
    → IsGivenAs span (binary op.Coalesce l r) a f (record { kind = middle.kind; ends = ends })
coalescing_told span l r a b c d e f part other middle side ends x step y kind joined last reported = λ known alive.
    let j = seen part b x.codes x.tags x.loops in
    let k = seen other d y.codes y.tags y.loops in
    let ds = when (not (part.ends.poisoned || is_alive (known_on part.ends.fail))) (at 651 span) in
    let whole : Judgement = record (behind_with middle.ends j k) { kind = middle.kind; ok = e.state.known; fail = known_on other.ends.fail } in (
      with_codes ds whole,
      a_coalescing (subst (λ s. Judges (language_rules a.patterns.now) a.inside s l j) alive x.judges) (judges_at a c _ r k (step.moved.patterns ∙ x.ended.gathers.patterns) (step.moved.inside ∙ x.ended.gathers.inside) step.known y.judges)
          (is_behind (record part.ends { fail = None }) other.ends middle.ends j k (refl, refl, refl) (refl, refl, refl) joined) kind
          (subst (λ s. IsJoined s d.state.known e.state.known) step.beside last.known),
      reported_judged ds a e f middle (record { kind = middle.kind; ends = ends }) whole reported refl (record {
        kind = refl;
        root = either_root part.kind other.kind middle.kind x.ended.root y.ended.root kind;
        ends = record {
          are = subst (λ s. AreEnds s middle.ends) (scopes_of_two a b c d part other x.codes y.codes x.tags y.tags x.loops y.loops x.ended step.moved y.ended) last.are;
          fail = joined.fail;
          ret = refl;
          returned = refl;
          poisoned = refl;
        };
        gathered = has_gathered a e whole (gathers_two a b c d e x.codes y.codes x.tags y.tags x.loops y.loops x.ended.gathers step.moved y.ended.gathers last.moved) refl;
      }),
    )

pub coalescing_judged : (span : Span) (l r : Expr) (a b c d e f : Checker) (part other middle : Finding) (side : LeftSide) (ends : Ends) (needless : Bool) → IsJudgedAs l a b part
    → needless ≡ not (part.ends.poisoned || is_some part.ends.fail)
    → IsLeftSide (known_on part.ends.fail) b.state.known b c side → side.part ≡ record part { ends = record part.ends { fail = None } }
    → IsJudgedAs r c d other → IsEither side.part.kind other.kind middle.kind → AreBothSides side other.ends d e middle.ends
    → IsReported (when needless (at 651 span)) e f middle.ends ends
    → IsGivenAs span (binary op.Coalesce l r) a f (record { kind = middle.kind; ends = ends })
coalescing_judged span l r a b c d e f part other middle side ends needless first is step same second kind last reported =
    coalescing_told span l r a b c d e f part other middle side ends (told_expr l a b part first) step (told_expr r c d other second)
    (subst (λ p. IsEither p.kind other.kind middle.kind) same kind)
    (subst (λ p. AreJoinedEnds p.ends other.ends middle.ends) same last.ends)
    last
    (subst (λ n. IsReported (when n (at 651 span)) e f middle.ends ends)
    (is ∙ ap (λ alive. not (part.ends.poisoned || alive)) (branch_alive a.state.scopes part.ends.fail (told_expr l a b part first).ended.are.fail)) reported)

-- ---- ends of the script

-- a return, which in a closure is 1004 and goes on
return_told : (span : Span) (v : Expr) (a b c : Checker) (part finding : Finding) → IsToldExpr v a b part → IsReturned span part b c finding → IsGivenAs span (return_of v) a c finding
return_told span v a b c part finding x last = λ known alive.
    let j = seen part b x.codes x.tags x.loops in
    let ds = when a.inside (at 1004 span) in
    let same : when b.inside (at 1004 span) ≡ ds = ap (λ i. when i (at 1004 span)) x.ended.gathers.inside in (
      with_codes ds (record j { kind = never_kind; ok = if_state a.inside j.ok; ret = return_state finding.ends.ret; returned = return_kind finding.ends.ret }),
      a_return (subst (λ s. Judges (language_rules a.patterns.now) a.inside s v j) alive x.judges) last.ret last.returned,
      record {
        kind = last.kind;
        root = never_root;
        ends = record {
          are = subst (λ s. AreEnds s finding.ends) x.ended.gathers.scopes last.are;
          fail = ap (λ y. known_on y.fail) last.ends;
          ret = refl;
          returned = refl;
          poisoned = ap (λ y. y.poisoned) last.ends ∙ ap (λ es. part.ends.poisoned || list_any is_error es) same;
        };
        gathered = has_gathered a c _
            (gathers_codes a b c x.codes ds x.tags x.loops x.ended.gathers last.scopes (last.diagnostics ∙ ap (λ es. b.diagnostics.items ++ es) same) last.empties last.loops last.patterns last.inside)
            (last.known ∙ ap (λ i. if_state i b.state.known) x.ended.gathers.inside);
      },
    )

pub return_judged : (span : Span) (v : Expr) (a b c : Checker) (part finding : Finding) → IsJudgedAs v a b part → IsReturned span part b c finding → IsGivenAs span (return_of v) a c finding
return_judged span v a b c part finding first last = return_told span v a b c part finding (told_expr v a b part first) last

-- without a message
pub abort_alone : (a : Checker) (s : State) (finding : Finding) → s ≡ record a.state { known = None } → finding.kind ≡ never_kind → finding.ends ≡ no_ends → IsAnywhereAs (abort_with no_message) a (record a { state = s }) finding
abort_alone a s finding dead kind ends = λ span known alive. (
  nothing [],
  an_abort,
  record {
    kind = kind;
    root = never_root;
    ends = record {
      are = subst (AreEnds a.state.scopes) (sym ends) (no_ends_are a.state.scopes);
      fail = ap (λ y. known_on y.fail) ends;
      ret = ap (λ y. return_state y.ret) ends;
      returned = ap (λ y. return_kind y.ret) ends;
      poisoned = ap (λ y. y.poisoned) ends;
    };
    gathered = record { ok = ap (λ t. t.known) dead; scopes = ap (λ t. t.scopes) dead; diagnostics = sym (append-nil a.diagnostics.items); empties = sym (append-nil a.empties.items); loops = no_loops a; patterns = refl; inside = refl };
  },
)

abort_told : (m : Expr) (a b c : Checker) (part finding : Finding) → IsToldExpr m a b part → IsAborted (of_message (span_of m) (seen part b [] [] [])) part b c finding → IsAnywhereAs (abort_with (message m)) a c finding
abort_told m a b c part finding x last = λ span known alive.
    let j = seen part b x.codes x.tags x.loops in
    let ds = of_message (span_of m) j in (
      with_codes ds (record j { kind = never_kind; ok = None }),
      an_abort_with (subst (λ s. Judges (language_rules a.patterns.now) a.inside s m j) alive x.judges),
      record {
        kind = last.kind;
        root = never_root;
        ends = record {
          are = are_ends_of a.state.scopes part.ends finding.ends (sym (ap (λ y. y.fail) last.ends)) (sym (ap (λ y. y.ret) last.ends)) x.ended.are;
          fail = ap (λ x. known_on x.fail) last.ends;
          ret = ap (λ x. return_state x.ret) last.ends;
          returned = ap (λ x. return_kind x.ret) last.ends;
          poisoned = ap (λ x. x.poisoned) last.ends;
        };
        gathered = has_gathered a c _ (gathers_codes a b c x.codes ds x.tags x.loops x.ended.gathers last.scopes last.diagnostics last.empties last.loops last.patterns last.inside) last.known;
      },
    )

pub abort_judged : (m : Expr) (span : Span) (a b c : Checker) (part finding : Finding) → span ≡ span_of m → IsJudgedAs m a b part → IsAborted (of_message span (seen part b [] [] [])) part b c finding → IsAnywhereAs (abort_with (message m)) a c finding
abort_judged m span a b c part finding same first last =
    abort_told m a b c part finding (told_expr m a b part first) (subst (λ s. IsAborted (of_message s (seen part b [] [] [])) part b c finding) same last)
