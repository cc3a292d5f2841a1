-- The steps between the parts of a branching form.
use Rattle.std.proofs.Common.{◌≡◌, Bool, true, false, ◌||◌, List, [], ◌++◌, Option, Some, None, IfSome, is_some, if◌then◌else◌, refl, sym, ap, ◌∙◌, subst}
use Rattle.std.specs.List.{list_any}
use Rattle.vrl_value.specs.Look.{Step}
use Rattle.vrl_diag.specs.Refusal.{is_error}
use Rattle.vrl_diag.specs.declared.diagnostic.Diagnostic.{Diagnostic}
use Rattle.vrl_diag.specs.declared.diagnostic.Span.{Span}
use Rattle.vrl_kind.specs.Canonical.{never_kind}
use Rattle.vrl_kind.specs.KindTree.{KindTree}
use Rattle.vrl_kind.specs.Kinds.{tags_at, without_at}
use Rattle.vrl_state.specs.States.{IsCutOf, IsEither, IsJoined, IsRootKind, RootMap, Scope, State}
use Rattle.vrl_judge.specs.Returns.{return_kind, return_state, returning}
use Rattle.vrl_judge.specs.Branching.{AreBothSides, AreWays, IsAborted, IsBlockBeside, IsConjoined, IsLastBeside, IsLeftSide, IsOrFail, IsPredicateBeside, IsReturned, StandsIn}
use Rattle.vrl_judge.specs.Rules.{at, if_state, is_alive, is_fallible, is_message_wrong, is_other, may_be_no_truth, may_be_truth, of_message, of_predicate, or_else_at, settled_kind, when, IsScalar}
use Rattle.vrl_judge.specs.Judging.{known_on, no_ends, way, AreEnds, AreJoinedEnds, AreJoinedReturns, HaveCommonScopes, IsMoved, IsReported, IsReturnIn, IsWay}
use Rattle.vrl_judge.specs.Seen.{seen}
use Rattle.vrl_judge.specs.declared.branches.LeftSide.{LeftSide}
use Rattle.vrl_judge.specs.declared.branches.Ways.{Ways}
use Rattle.vrl_judge.specs.declared.checker.Checker.{Checker}
use Rattle.vrl_judge.specs.declared.ends.Ends.{Ends}
use Rattle.vrl_judge.specs.declared.ends.Returned.{Returned}
use Rattle.vrl_judge.specs.declared.finding.Finding.{Finding}
use Rattle.vrl_judge.proofs.Parts.{are_ends_of, known_if}
use Rattle.vrl_judge.proofs.Joining.{branch_alive, common, join_turned, kept_return, kept_way, kind_of_return, known_way, no_return, state_of_return}
use Rattle.vrl_value.specs.declared.value.Tag.TheVariants as tag

-- ---- one more way to end

-- a way of errors stands in the scopes of the ends
pub fail_common : (scopes : List Scope) (ends : Ends) (known : Option RootMap) (point : Option State) → AreEnds scopes ends → point ≡ way scopes known → HaveCommonScopes ends (record no_ends { fail = point })
fail_common scopes ends known point are is = common scopes ends (record no_ends { fail = point }) are (record { fail = kept_way scopes known point is; ret = no_return scopes })

-- a return stands in them too
pub return_common : (scopes : List Scope) (ends : Ends) (K : KindTree) (known : Option RootMap) (point : Option Returned) → AreEnds scopes ends → IsRootKind K → point ≡ returning scopes K known → HaveCommonScopes ends (record no_ends { ret = point })
return_common scopes ends K known point are root is =
    common scopes ends (record no_ends { ret = point }) are (record { fail = refl; ret = subst (IsReturnIn scopes) (sym is) (kept_return scopes K known root) })

-- ends with one more way, on which this is known if it is wanted
pub or_failed : (scopes : List Scope) (known : Option RootMap) (old new : Ends) (point : Option State) (wanted test : Bool) → point ≡ way scopes (if_state wanted known) → wanted ≡ test
    → IsJoined (known_on old.fail) (known_on point) (known_on new.fail) → new ≡ record old { fail = new.fail } → IsOrFail old (if_state test known) new
or_failed scopes known old new point wanted test is same joined others = record {
  fail = subst (λ k. IsJoined (known_on old.fail) k (known_on new.fail)) (ap known_on is ∙ known_way scopes (if_state wanted known) ∙ ap (λ b. if_state b known) same) joined;
  others = others;
}

-- ---- the left side

pub kept_scopes : (wanted : Bool) (s : State) → IfSome (if_state wanted (Some s)) (λ m. m.scopes ≡ s.scopes)
kept_scopes true s = refl
kept_scopes false s = tt

pub left_side : (start : Option RootMap) (a c d : Checker) (side : LeftSide) (wanted test : Bool) → wanted ≡ test → AreEnds a.state.scopes side.part.ends → side.beside ≡ if_state wanted (Some a.state) → c ≡ a → d.state.known ≡ start → IsMoved c d
    → IsLeftSide start (if_state test a.state.known) a d side
left_side start a c d side wanted test same are beside still known moved = record {
  moved = subst (λ x. IsMoved x d) still moved;
  known = known;
  beside = ap known_on beside ∙ known_if wanted (Some a.state) ∙ ap (λ b. if_state b a.state.known) same;
  stands = record { ends = are; beside = subst (λ m. IfSome m (λ s. s.scopes ≡ a.state.scopes)) (sym beside) (kept_scopes wanted a.state) };
}

-- where the right side is judged if this holds
pub goes_on : (a c d : Checker) (holds test : Bool) → d.state.known ≡ if_state holds c.state.known → c ≡ a → holds ≡ test → d.state.known ≡ if_state test a.state.known
goes_on a c d holds test known still same = known ∙ ap (λ x. if_state holds x.state.known) still ∙ ap (λ b. if_state b a.state.known) same

-- ---- both sides

pub side_in : (scopes scopes' : List Scope) (side : LeftSide) → scopes' ≡ scopes → StandsIn scopes side → StandsIn scopes' side
side_in scopes scopes' side same stands = subst (λ s. StandsIn s side) (sym same) stands

pub ends_here : (scopes scopes' : List Scope) (ends : Ends) → scopes' ≡ scopes → AreEnds scopes ends → AreEnds scopes' ends
ends_here scopes scopes' ends same are = subst (λ s. AreEnds s ends) (sym same) are

pub moved_twice : (a b c : Checker) → IsMoved a b → IsMoved b c → IsMoved a c
moved_twice a b c first second = record {
  scopes = second.scopes ∙ first.scopes;
  diagnostics = second.diagnostics ∙ first.diagnostics;
  empties = second.empties ∙ first.empties;
  loops = second.loops ∙ first.loops;
  patterns = second.patterns ∙ first.patterns;
  inside = second.inside ∙ first.inside;
}

pub are_conjoined : (left : LeftSide) (right : Finding) (a b c d : Checker) (refused : Option State) (both ends : Ends) (K : KindTree) (wanted holds : Bool) → b ≡ a → refused ≡ way a.state.scopes (if_state wanted a.state.known) → wanted ≡ may_be_no_truth right.kind
    → c.state.known ≡ if_state holds b.state.known → holds ≡ may_be_truth right.kind → IsMoved b c → AreBothSides left right.ends c d both
    → IsJoined (known_on both.fail) (known_on refused) (known_on ends.fail) → ends ≡ record both { fail = ends.fail } → ((scopes : List Scope) → AreEnds scopes both → IsWay scopes refused → AreEnds scopes ends) → IsScalar tag.Bool K
    → IsConjoined left right a d (record { kind = K; ends = ends })
are_conjoined left right a b c d refused both ends K wanted holds still way_is wanted_is known holds_is moved sides joined others are scalar =
    let from : IsMoved a c = subst (λ x. IsMoved x c) still moved in
    record {
      moved = moved_twice a c d from sides.moved;
      kind = scalar;
      known = subst (λ k. IsJoined (known_on left.beside) k d.state.known) (goes_on a b c holds (may_be_truth right.kind) known still holds_is) sides.known;
      both = both;
      ends = sides.ends;
      or_fail = or_failed a.state.scopes a.state.known both ends refused wanted (may_be_no_truth right.kind) way_is wanted_is joined others;
      are = are a.state.scopes (subst (λ s. AreEnds s both) from.scopes sides.are) (kept_way a.state.scopes (if_state wanted a.state.known) refused way_is);
    }

-- the left kind but for null, or the right one
pub or_else_cut : (L R rest K : KindTree) → ((p : List Step) → tags_at rest p ≡ without_at L tag.Null p) → IsEither rest R K → IsCutOf (or_else_at L R) K
or_else_cut L R rest K less is = record {
  whole = is.whole;
  canonical = is.canonical;
  tags = λ p t. is.tags p t ∙ ap (λ T. T t || tags_at R p t) (less p);
  cut = is.cut;
}

-- ---- codes of a part

pub alive_fail : (scopes : List Scope) (part : Finding) (now : Checker) (fallible : Bool) → AreEnds scopes part.ends → is_some part.ends.fail ≡ fallible → is_fallible (seen part now [] [] []) ≡ fallible
alive_fail scopes part now fallible are is = sym (branch_alive scopes part.ends.fail are.fail) ∙ is

pub sure_predicate : (scopes : List Scope) (span : Span) (part : Finding) (now : Checker) (other : Bool) → AreEnds scopes part.ends → is_some part.ends.fail ≡ false → other ≡ is_other tag.Bool (seen part now [] [] []) → when other (at 102 span) ≡ of_predicate span (seen part now [] [] [])
sure_predicate scopes span part now other are is same =
    ap (λ b. when b (at 102 span)) same ∙ sym (ap (λ b. if b then at 1005 span else when (is_other tag.Bool (seen part now [] [] [])) (at 102 span)) (alive_fail scopes part now false are is))

-- ends with codes stand where those without do
pub reported_are : (scopes : List Scope) (ds : List Diagnostic) (a b : Checker) (old new : Ends) → IsReported ds a b old new → AreEnds scopes old → AreEnds scopes new
reported_are scopes ds a b old new reported are = are_ends_of scopes old new (sym (ap (λ e. e.fail) reported.ends)) (sym (ap (λ e. e.ret) reported.ends)) are

-- ---- ways

pub predicate_beside : (span : Span) (part : Finding) (ways : Ways) (a b : Checker) (predicate ends : Ends) → AreWays a.state.scopes ways → AreEnds a.state.scopes part.ends → IsReported (of_predicate span (seen part a [] [] [])) a b part.ends predicate
    → AreJoinedEnds ways.ends predicate ends → ((scopes : List Scope) → AreEnds scopes ways.ends → AreEnds scopes predicate → AreEnds scopes ends)
    → IsPredicateBeside span part ways a b (record ways { ends = ends })
predicate_beside span part ways a b predicate ends here are reported joined stand = record {
  predicate = predicate;
  reported = reported;
  kind = refl;
  ok = refl;
  ends = joined;
  are = record { ok = here.ok; ends = stand a.state.scopes here.ends (reported_are a.state.scopes (of_predicate span (seen part a [] [] [])) a b part.ends predicate reported are) };
}

pub block_beside : (mark : State) (block : Finding) (ways all : Ways) (a b : Checker) (left : Option State) → AreWays a.state.scopes ways → AreEnds a.state.scopes block.ends → b ≡ record a { state = mark } → left ≡ way a.state.scopes a.state.known
    → IsEither ways.kind block.kind all.kind → IsJoined (known_on ways.ok) (known_on left) (known_on all.ok) → ((scopes : List Scope) → IsWay scopes ways.ok → IsWay scopes left → IsWay scopes all.ok)
    → AreJoinedEnds ways.ends block.ends all.ends → ((scopes : List Scope) → AreEnds scopes ways.ends → AreEnds scopes block.ends → AreEnds scopes all.ends)
    → IsBlockBeside mark block ways a b all
block_beside mark block ways all a b left here are back left_is kind ok stands ends stand = record {
  back = back;
  kind = kind;
  ok = subst (λ k. IsJoined (known_on ways.ok) k (known_on all.ok)) (ap known_on left_is ∙ known_way a.state.scopes a.state.known) ok;
  ends = ends;
  are = record { ok = stands a.state.scopes here.ok (kept_way a.state.scopes a.state.known left left_is); ends = stand a.state.scopes here.ends are };
}

pub last_beside : (ways : Ways) (last finding : Finding) (a b : Checker) → AreWays a.state.scopes ways → AreEnds a.state.scopes last.ends → IsEither ways.kind last.kind finding.kind → AreJoinedEnds ways.ends last.ends finding.ends
    → ((scopes : List Scope) → AreEnds scopes ways.ends → AreEnds scopes last.ends → AreEnds scopes finding.ends) → IsJoined a.state.known (known_on ways.ok) b.state.known → IsMoved a b → IsLastBeside ways last a b finding
last_beside ways last finding a b here are kind ends stand known moved = record {
  moved = moved;
  kind = kind;
  known = join_turned a.state.known (known_on ways.ok) b.state.known known;
  ends = ends;
  are = stand a.state.scopes here.ends are;
}

-- ---- ends of the script

-- these ends with another return, and poisoned if this holds
abbrev returning_so : Option Returned → Bool → Ends → Ends
returning_so ret poisons ends = record ends { ret = ret; poisoned = ends.poisoned || poisons }

pub is_returned : (span : Span) (part : Finding) (a b c d : Checker) (here : Option Returned) (all ends : Ends) (K : KindTree) → AreEnds a.state.scopes part.ends → IsRootKind part.kind → b ≡ a → here ≡ returning a.state.scopes part.kind a.state.known
    → AreJoinedReturns part.ends.ret here all.ret → all ≡ record part.ends { ret = all.ret } → ((scopes : List Scope) → AreEnds scopes part.ends → IsReturnIn scopes here → AreEnds scopes all)
    → IsReported (when a.inside (at 1004 span)) b c all ends → d.state.known ≡ if_state a.inside c.state.known → IsMoved c d → K ≡ never_kind
    → IsReturned span part a d (record { kind = K; ends = ends })
is_returned span part a b c d here all ends K are root still here_is joined others stand told known moved kind =
    let ds = when a.inside (at 1004 span) in
    let same : ends.ret ≡ all.ret = ap (λ e. e.ret) told.ends in
    record {
      scopes = moved.scopes ∙ ap (λ s. s.scopes) told.state ∙ ap (λ x. x.state.scopes) still;
      known = known ∙ ap (λ s. if_state a.inside s.known) told.state ∙ ap (λ x. if_state a.inside x.state.known) still;
      kind = kind;
      ret = subst (λ r. IsJoined (return_state part.ends.ret) a.state.known (return_state r)) (sym same)
          (subst (λ k. IsJoined (return_state part.ends.ret) k (return_state all.ret)) (ap return_state here_is ∙ state_of_return a.state.scopes part.kind a.state.known) joined.state);
      returned = subst (λ r. IsEither (return_kind part.ends.ret) (settled_kind false (is_alive a.state.known) part.kind) (return_kind r)) (sym same)
          (subst (λ k. IsEither (return_kind part.ends.ret) k (return_kind all.ret)) (ap return_kind here_is ∙ kind_of_return a.state.scopes part.kind a.state.known) joined.kind);
      diagnostics = ap (λ v. v.items) moved.diagnostics ∙ told.diagnostics ∙ ap (λ x. x.diagnostics.items ++ ds) still;
      empties = moved.empties ∙ told.empties ∙ ap (λ x. x.empties) still;
      loops = moved.loops ∙ told.loops ∙ ap (λ x. x.loops) still;
      patterns = moved.patterns ∙ told.patterns ∙ ap (λ x. x.patterns) still;
      inside = moved.inside ∙ told.inside ∙ ap (λ x. x.inside) still;
      ends = told.ends ∙ ap (returning_so all.ret (list_any is_error ds)) others ∙ ap (λ r. returning_so r (list_any is_error ds) part.ends) (sym same);
      are = reported_are a.state.scopes ds b c all ends told (stand a.state.scopes are (subst (IsReturnIn a.state.scopes) (sym here_is) (kept_return a.state.scopes part.kind a.state.known root)));
    }

pub is_aborted : (part : Finding) (span : Span) (a b : Checker) (s : State) (ends : Ends) (K : KindTree) (wrong : Bool) → wrong ≡ is_message_wrong (seen part a [] [] []) → IsReported (when wrong (at 1011 span)) a b part.ends ends → s ≡ record b.state { known = None } → K ≡ never_kind
    → IsAborted (of_message span (seen part a [] [] [])) part a (record b { state = s }) (record { kind = K; ends = ends })
is_aborted part span a b s ends K wrong is told dead kind =
    let reported : IsReported (of_message span (seen part a [] [] [])) a b part.ends ends = subst (λ w. IsReported (when w (at 1011 span)) a b part.ends ends) is told in
    record {
      scopes = ap (λ t. t.scopes) dead ∙ ap (λ t. t.scopes) reported.state;
      known = ap (λ t. t.known) dead;
      diagnostics = reported.diagnostics;
      empties = reported.empties;
      loops = reported.loops;
      patterns = reported.patterns;
      inside = reported.inside;
      kind = kind;
      ends = reported.ends;
    }
