-- Tries at the body of a closure, and all of its runs.
use Rattle.std.proofs.Common.{◌≡◌, ◌<◌, ◌+◌, ℕ, true, List, [], ◌∷◌, ◌++◌, length, take, slice_set, Option, Some, None, option_map, IfSome, All, refl, sym, ap, ap₂, ◌∙◌, subst, append_assoc, arith}
use Rattle.std.proofs.Math.Seq.{set-append_seam}
use Rattle.std.proofs.lemmas.List.{length-append, length-map, map-append, map-set, take_at, take-map}
use Rattle.vrl_syntax.specs.ErrorAssignments.{in_exprs}
use Rattle.vrl_syntax.specs.Written.{exprs_write}
use Rattle.vrl_syntax.specs.declared.call_form.CallForm.{CallForm}
use Rattle.vrl_syntax.specs.declared.tree.Closure.{Closure as CodeClosure}
use Rattle.vrl_kind.specs.KindTree.{KindTree}
use Rattle.vrl_state.specs.States.{with_names, HasRootKinds, IsForgotten, IsKnownWithin, IsRootKind, RootMap, State}
use Rattle.vrl_judge.specs.Closures.{first_try, held_of, left_body, next_try, second_try, third_try, ClosureBody, IsBodyEntered, IsBodyEndAs, IsNextTry, Try}
use Rattle.vrl_judge.specs.Judging.{branches_known, known_on, loops_known, AreEnds, HasJudged, IsInBlock, IsMoved}
use Rattle.vrl_judge.specs.Rules.{if_state, Judgement, Loop}
use Rattle.vrl_judge.specs.declared.checker.Checker.{Checker}
use Rattle.vrl_judge.specs.declared.closures.Held.{Held}
use Rattle.vrl_judge.specs.declared.finding.Finding.{Finding}
use Rattle.vrl_judge.proofs.Parts.{ends_in, ends_of}
use Rattle.vrl_check.specs.Determined.{ThirdTriesAreStable}
use Rattle.vrl_check.specs.Iterating.{AreRuns, AreTries, BodyCanBeJudged, AreTriesBehind, IsBodyAs, IsLastTry, IsLetGo, IsStable, IsTaken, IsTriedAs, IsTriedFrom, IsUnstable, StandAlike}
use Rattle.vrl_check.specs.Judgement.{a_stable_try, an_unstable_try, by_tries, reached_body, run_through, unreached_body, unreached_parts, JudgesBlock, JudgesBody, JudgesTries}
use Rattle.vrl_check.specs.Loops.{closures_in_exprs}
use Rattle.vrl_check.specs.OpenRules.{language_rules}
use Rattle.vrl_check.specs.Walking.{nulls, IsBlockAs}
use Rattle.vrl_check.proofs.Passed.{nulls_allowed}
use Rattle.vrl_check.specs.declared.iteration.Run.{Run}
use Rattle.vrl_check.specs.declared.iteration.Tried.{Tried}
use Rattle.vrl_check.specs.declared.iteration.Tried.TheVariants as tried

-- ---- places that are alike

-- what was judged behind one of them was judged behind the other
pub judged_alike : (before middle after : Checker) (finding : Finding) (j : Judgement) → StandAlike before middle → HasJudged middle after finding j → HasJudged before after finding j
judged_alike before middle after finding j alike has = record {
  kind = has.kind;
  root = has.root;
  ends = ends_in middle.state.scopes before.state.scopes finding.ends j alike.scopes has.ends;
  gathered = record {
    ok = has.gathered.ok;
    scopes = has.gathered.scopes ∙ alike.scopes;
    diagnostics = has.gathered.diagnostics ∙ ap (λ ds. ds ++ j.codes) alike.diagnostics;
    empties = has.gathered.empties ∙ ap (λ ts. ts ++ j.empties) alike.empties;
    loops = has.gathered.loops ∙ ap (λ ks. ks ++ loops_known j.loops) alike.loops;
    patterns = has.gathered.patterns ∙ alike.patterns;
    inside = has.gathered.inside ∙ alike.inside;
  };
}

pub moved_alike : (before after : Checker) → IsMoved before after → StandAlike before after
moved_alike before after moved = record {
  scopes = moved.scopes;
  diagnostics = ap (λ v. v.items) moved.diagnostics;
  empties = ap (λ v. v.items) moved.empties;
  loops = ap (λ v. branches_known v.items) moved.loops;
  patterns = moved.patterns;
  inside = moved.inside;
}

-- so were tries
pub tries_alike : (f : CallForm) (b : ClosureBody) (try : Try) (known : Option RootMap) (before middle after : Checker) (run : Run) → StandAlike before middle → AreTries f b try known middle after run → AreTries f b try known before after run
tries_alike f b try known before middle after run alike are = record {
  last = are.last;
  k = are.k;
  tries = subst (λ ps. JudgesTries (language_rules ps.now) b try known are.last are.k) alike.patterns are.tries;
  judged = judged_alike before middle after run.finding (record are.k { ok = are.last }) alike are.judged;
  wrong = are.wrong;
}

-- what can be judged at one place can be at another
pub body_at : (before now : Checker) (c : CodeClosure) (Ks : List KindTree) → now.patterns ≡ before.patterns → BodyCanBeJudged before.patterns.now c Ks → BodyCanBeJudged now.patterns.now c Ks
body_at before now c Ks same can = subst (λ ps. BodyCanBeJudged ps.now c Ks) (sym same) can

-- ---- the body once

-- where no way leads to it
pub body_passed : (b : ClosureBody) (before after : Checker) (finding : Finding) → before.state.known ≡ None → HasJudged before after finding (record (unreached_parts (nulls (in_exprs b.items)) (closures_in_exprs b.items)) { ok = before.state.known }) → IsBodyAs b before after finding
body_passed b before after finding dead has =
    let j = unreached_parts (nulls (in_exprs b.items)) (closures_in_exprs b.items) in
    (j, subst (λ k. JudgesBody (language_rules before.patterns.now) b k j) (sym dead) (unreached_body (nulls_allowed before.patterns.now (in_exprs b.items))), subst (λ k. HasJudged before after finding (record j { ok = k })) dead has)

-- the walk stands outside again, or in the closure around
outside_again : (before within after last : Checker) (finding : Finding) (j : Judgement) → within ≡ record before { inside = true } → last ≡ record after { inside = before.inside } → HasJudged within after finding j → HasJudged before last finding j
outside_again before within after last finding j inside back has = record {
  kind = has.kind;
  root = has.root;
  ends = ends_in within.state.scopes before.state.scopes finding.ends j (ap (λ c. c.state.scopes) inside) has.ends;
  gathered = record {
    ok = ap (λ c. c.state.known) back ∙ has.gathered.ok;
    scopes = ap (λ c. c.state.scopes) back ∙ has.gathered.scopes ∙ ap (λ c. c.state.scopes) inside;
    diagnostics = ap (λ c. c.diagnostics.items) back ∙ has.gathered.diagnostics ∙ ap (λ c. c.diagnostics.items ++ j.codes) inside;
    empties = ap (λ c. c.empties.items) back ∙ has.gathered.empties ∙ ap (λ c. c.empties.items ++ j.empties) inside;
    loops = ap (λ c. branches_known c.loops.items) back ∙ has.gathered.loops ∙ ap (λ c. branches_known c.loops.items ++ loops_known j.loops) inside;
    patterns = ap (λ c. c.patterns) back ∙ has.gathered.patterns ∙ ap (λ c. c.patterns) inside;
    inside = ap (λ c. c.inside) back;
  };
}

-- where one does: its names are bound in it, and the walk knows that it stands in a closure
pub body_reached : (b : ClosureBody) (before within entered now after last : Checker) (part finding : Finding) → (before.state.known ≡ None → ⊥) → within ≡ record before { inside = true } → IsBodyEntered b.names b.kinds within entered → IsBlockAs b.items entered now part
    → IsBodyEndAs part now after finding → last ≡ record after { inside = before.inside } → IsBodyAs b before last finding
body_reached b before within entered now after last part finding alive inside enters block ends_body back = by before.state.known refl where
  by : (known : Option RootMap) → before.state.known ≡ known → IsBodyAs b before last finding
  by None dead = absurd (alive dead)
  by (Some known) here =
      let there : within.state.known ≡ Some known = ap (λ c. c.state.known) inside ∙ here in
      let j = block.0 in
      let patterns : entered.patterns ≡ before.patterns = ap (λ c. c.patterns) enters.others ∙ ap (λ c. c.patterns) inside in
      let closed : entered.inside ≡ true = ap (λ c. c.inside) enters.others ∙ ap (λ c. c.inside) inside in
      let names : entered.state.known ≡ option_map (with_names b.names b.kinds) (Some known) = enters.known ∙ ap (option_map (with_names b.names b.kinds)) there in
      let judged : JudgesBlock (language_rules before.patterns.now) true (Some (with_names b.names b.kinds known)) b.items j =
      subst (λ k. JudgesBlock (language_rules before.patterns.now) true k b.items j) names (subst (λ i. JudgesBlock (language_rules before.patterns.now) i entered.state.known b.items j) closed (subst (λ ps. JudgesBlock (language_rules ps.now) entered.inside entered.state.known b.items j) patterns block.1))
      in
      let has : HasJudged within after finding (left_body b known j) = ends_body b within entered known j there enters block.2 in (
        left_body b known j,
        subst (λ k. JudgesBody (language_rules before.patterns.now) b k (left_body b known j)) (sym here) (reached_body judged),
        outside_again before within after last finding (left_body b known j) inside back has,
      )

-- the block of an open body
pub in_body : (b : ClosureBody) (within entered now : Checker) (part : Finding) → IsBodyEntered b.names b.kinds within entered → IsBlockAs b.items entered now part → IsInBlock now part
in_body b within entered now part enters block = record {
  scope = enters.scope;
  scopes = within.state.scopes;
  opened = block.2.gathered.scopes ∙ enters.scopes;
  ends = subst (λ s. AreEnds s part.ends) enters.scopes block.2.ends.are;
}

-- ---- one try

taken_back : {A : Type 0} (before now codes : List A) (n : ℕ) → n ≡ length before → now ≡ before ++ codes → take n now ≡ before
taken_back before now codes n is behind = ap (take n) behind ∙ take_at before codes n (sym is)

-- what is known at the start is known again
stable_judged : (before gone now after : Checker) (start : State) (part : Finding) (j : Judgement) → start ≡ before.state → StandAlike before gone → after ≡ record now { state = start } → HasJudged gone now part j → HasJudged before after part (record j { ok = before.state.known })
stable_judged before gone now after start part j kept alike back has =
    let here = judged_alike before gone now part j alike has in
    record {
      kind = here.kind;
      root = here.root;
      ends = ends_of before.state.scopes part.ends j (record j { ok = before.state.known }) here.ends refl refl refl refl;
      gathered = record {
        ok = ap (λ c. c.state.known) back ∙ ap (λ s. s.known) kept;
        scopes = ap (λ c. c.state.scopes) back ∙ ap (λ s. s.scopes) kept;
        diagnostics = ap (λ c. c.diagnostics.items) back ∙ here.gathered.diagnostics;
        empties = ap (λ c. c.empties.items) back ∙ here.gathered.empties;
        loops = ap (λ c. branches_known c.loops.items) back ∙ here.gathered.loops;
        patterns = ap (λ c. c.patterns) back ∙ here.gathered.patterns;
        inside = ap (λ c. c.inside) back ∙ here.gathered.inside;
      };
    }

stable_tried : (f : CallForm) (b : ClosureBody) (before gone now after : Checker) (start : State) (part : Finding) (run : Run) → start ≡ before.state → gone.state.known ≡ if_state b.runs before.state.known → IsMoved before gone → IsBodyAs b gone now part
    → IsTaken f start part now after run → IsStable f b before after run
stable_tried f b before gone now after start part run kept known moved body taken =
    let j = body.0 in
    let has = body.2 in
    let alike = moved_alike before gone moved in
    record {
      j = j;
      judges = subst (λ k. JudgesBody (language_rules before.patterns.now) b k j) known (subst (λ ps. JudgesBody (language_rules ps.now) b gone.state.known j) moved.patterns body.1);
      stable = subst (λ k. IsKnownWithin k before.state.known) has.gathered.ok (subst (λ s. IsKnownWithin now.state.known s.known) kept taken.within);
      judged = subst (λ o. HasJudged before after o (record j { ok = before.state.known })) (sym taken.finding) (stable_judged before gone now after start part j kept alike taken.back has);
      wrong = taken.wrong gone j has;
    }

unstable_tried : (f : CallForm) (b : ClosureBody) (before gone now after : Checker) (start : State) (held : Held) (part : Finding) (behind : State) → start ≡ before.state → gone.state.known ≡ if_state b.runs before.state.known → IsMoved before gone
    → held ≡ held_of before → IsBodyAs b gone now part → IsLetGo held start now after behind → IsUnstable b before after behind
unstable_tried f b before gone now after start held part behind kept known moved held_is body gone_back =
    let j = body.0 in
    let has = judged_alike before gone now part j (moved_alike before gone moved) body.2 in
    let back = gone_back.back in
    record {
      j = j;
      judges = subst (λ k. JudgesBody (language_rules before.patterns.now) b k j) known (subst (λ ps. JudgesBody (language_rules ps.now) b gone.state.known j) moved.patterns body.1);
      unstable = λ within. gone_back.not_within (subst (λ k. IsKnownWithin k start.known) (sym has.gathered.ok) (subst (λ s. IsKnownWithin j.ok s.known) (sym kept) within));
      alike = record {
        scopes = ap (λ s. s.scopes) (back.state ∙ kept);
        diagnostics = back.diagnostics ∙ taken_back before.diagnostics.items now.diagnostics.items j.codes held.diagnostics (ap (λ h. h.diagnostics) held_is) has.gathered.diagnostics;
        empties = back.empties ∙ taken_back before.empties.items now.empties.items j.empties held.empties (ap (λ h. h.empties) held_is) has.gathered.empties;
        loops = ap branches_known back.loops
            ∙ sym (take-map known_on held.loops now.loops.items)
            ∙ taken_back (branches_known before.loops.items) (branches_known now.loops.items) (loops_known j.loops) held.loops (ap (λ h. h.loops) held_is ∙ sym (length-map before.loops.items known_on)) has.gathered.loops;
        patterns = back.patterns ∙ has.gathered.patterns;
        inside = back.inside ∙ has.gathered.inside;
      };
      known = ap (λ s. s.known) (back.state ∙ kept);
      behind_known = ap (λ s. s.known) gone_back.left ∙ has.gathered.ok;
      behind_scopes = ap (λ s. s.scopes) gone_back.left ∙ has.gathered.scopes;
    }

pub tried_judged : (f : CallForm) (b : ClosureBody) (before gone now after : Checker) (start : State) (held : Held) (part : Finding) (t : Tried) → start ≡ before.state → gone.state.known ≡ if_state b.runs before.state.known → IsMoved before gone
    → held ≡ held_of before → IsBodyAs b gone now part → IsTriedFrom f held start part now after t → IsTriedAs f b before after t
tried_judged f b before gone now after start held part (tried.Stable run) kept known moved held_is body from = stable_tried f b before gone now after start part run kept known moved body from
tried_judged f b before gone now after start held part (tried.Unstable behind) kept known moved held_is body from = unstable_tried f b before gone now after start held part behind kept known moved held_is body from

pub as_stable : (f : CallForm) (b : ClosureBody) (before after : Checker) (t : Tried) (run : Run) → t ≡ tried.Stable run → IsTriedAs f b before after t → IsStable f b before after run
as_stable f b before after t run is from = subst (IsTriedAs f b before after) is from

pub as_unstable : (f : CallForm) (b : ClosureBody) (before after : Checker) (t : Tried) (behind : State) → t ≡ tried.Unstable behind → IsTriedAs f b before after t → IsUnstable b before after behind
as_unstable f b before after t behind is from = subst (IsTriedAs f b before after) is from

-- ---- all tries

-- the last of them
pub last_try : (f : CallForm) (b : ClosureBody) (try : Try) (before after : Checker) (run : Run) → IsStable f b before after run → AreTries f b try before.state.known before after run
last_try f b try before after run stable = record { last = before.state.known; k = stable.j; tries = a_stable_try stable.judges stable.stable; judged = stable.judged; wrong = stable.wrong }

-- one behind which others come
pub more_tries : (f : CallForm) (b : ClosureBody) (try next_one : Try) (next : Option RootMap) (before middle after : Checker) (behind : State) (run : Run) → next_try try ≡ next_one → IsUnstable b before middle behind
    → IsNextTry try b before.state.known behind.known next → AreTries f b next_one next middle after run → AreTries f b try before.state.known before after run
more_tries f b try next_one next before middle after behind run follows unstable is_next others =
    let rest = tries_alike f b next_one next before middle after run unstable.alike others in
    record {
      last = rest.last;
      k = rest.k;
      tries = an_unstable_try unstable.judges unstable.unstable (subst (λ k. IsNextTry try b before.state.known k next) unstable.behind_known is_next)
          (subst (λ t. JudgesTries (language_rules before.patterns.now) b t next rest.last rest.k) (sym follows) rest.tries);
      judged = rest.judged;
      wrong = rest.wrong;
    }

pub tries_behind : (f : CallForm) (b : ClosureBody) (before middle after : Checker) (behind : State) (run : Run) → IsUnstable b before middle behind → AreTriesBehind f b behind.known middle after run → AreTries f b first_try before.state.known before after run
tries_behind f b before middle after behind run unstable are =
    more_tries f b first_try second_try are.next before middle after behind run refl unstable (subst (λ k. IsNextTry first_try b k behind.known are.next) unstable.known are.is_next) are.others

-- a second, from the state that was widened
pub second_stable : (f : CallForm) (b : ClosureBody) (behind : Option RootMap) (before widened after : Checker) (run : Run) → IsMoved before widened → IsNextTry first_try b before.state.known behind widened.state.known → IsStable f b widened after run
    → AreTriesBehind f b behind before after run
second_stable f b behind before widened after run moved is_next stable = record {
  next = widened.state.known;
  is_next = is_next;
  others = tries_alike f b second_try widened.state.known before widened after run (moved_alike before widened moved) (last_try f b second_try widened after run stable);
}

pub second_unstable : (f : CallForm) (b : ClosureBody) (behind : Option RootMap) (left : State) (before widened middle after : Checker) (run : Run) → IsMoved before widened → IsNextTry first_try b before.state.known behind widened.state.known
    → IsUnstable b widened middle left → IsLastTry f b middle after run → AreTriesBehind f b behind before after run
second_unstable f b behind left before widened middle after run moved is_next unstable last = record {
  next = widened.state.known;
  is_next = is_next;
  others = tries_alike f b second_try widened.state.known before widened after run (moved_alike before widened moved)
      (more_tries f b second_try third_try last.next widened middle after left run refl unstable (subst (λ k. IsForgotten (exprs_write b.items) k last.next) unstable.known last.is_next) last.last);
}

-- a third
pub third_stable : (f : CallForm) (b : ClosureBody) (before forgotten after : Checker) (run : Run) → IsMoved before forgotten → IsForgotten (exprs_write b.items) before.state.known forgotten.state.known → IsStable f b forgotten after run → IsLastTry f b before after run
third_stable f b before forgotten after run moved is_next stable = record {
  next = forgotten.state.known;
  is_next = is_next;
  last = tries_alike f b third_try forgotten.state.known before forgotten after run (moved_alike before forgotten moved) (last_try f b third_try forgotten after run stable);
}

pub third_unstable : ThirdTriesAreStable → (b : ClosureBody) (before forgotten after : Checker) (behind : State) → All IsRootKind b.kinds → IfSome forgotten.state.known HasRootKinds → IsForgotten (exprs_write b.items) before.state.known forgotten.state.known
    → IsUnstable b forgotten after behind → ⊥
third_unstable stable b before forgotten after behind kinds roots is_next unstable =
    unstable.unstable (stable (language_rules forgotten.patterns.now) (λ loop. refl) b before.state.known forgotten.state.known unstable.j kinds roots is_next unstable.judges)

-- ---- all runs

-- a closure's place was kept
pub place_kept : (place : ℕ) (before kept now : List (Option State)) (loops : List (Option Loop)) → place ≡ length before → kept ≡ before ++ (None ∷ []) → branches_known now ≡ branches_known kept ++ loops_known loops → place < length now
place_kept place before kept now loops at_place pushed behind =
    let one : length now ≡ length (branches_known kept) + length (loops_known loops) = sym (length-map now known_on) ∙ ap length behind ∙ length-append (branches_known kept) (loops_known loops) in
    let two : length (branches_known kept) ≡ length before + 1 = length-map kept known_on ∙ ap length pushed ∙ length-append before (None ∷ []) in
    omega (arith, at_place, one, two)

-- and has the state
put_there : (place : ℕ) (before kept now after : List (Option State)) (state : State) (loops : List (Option Loop)) → place ≡ length before → kept ≡ before ++ (None ∷ []) → branches_known now ≡ branches_known kept ++ loops_known loops
    → after ≡ slice_set now place (Some state) → branches_known after ≡ branches_known before ++ (state.known ∷ loops_known loops)
put_there place before kept now after state loops at_place pushed behind put =
    let front : branches_known now ≡ branches_known before ++ (None ∷ loops_known loops) =
    behind ∙ ap (λ bs. branches_known bs ++ loops_known loops) pushed ∙ ap (λ ks. ks ++ loops_known loops) (map-append known_on before (None ∷ [])) ∙ append_assoc (branches_known before) (None ∷ []) (loops_known loops)
    in
    let count : place ≡ length (branches_known before) = at_place ∙ sym (length-map before known_on) in
    ap branches_known put ∙ map-set known_on now place (Some state)
    ∙ ap₂ {A = List (Option RootMap)} {B = ℕ} (λ ks n. slice_set ks n state.known) front count
    ∙ set-append_seam (branches_known before) None (loops_known loops) state.known

pub all_runs : (f : CallForm) (b : ClosureBody) (place : ℕ) (before kept now after : Checker) (run : Run) → kept.state ≡ before.state → kept.diagnostics ≡ before.diagnostics → kept.empties ≡ before.empties → kept.patterns ≡ before.patterns → kept.inside ≡ before.inside
    → place ≡ length before.loops.items → kept.loops.items ≡ before.loops.items ++ (None ∷ []) → AreTries f b first_try kept.state.known kept now run → after.loops.items ≡ slice_set now.loops.items place (Some now.state)
    → after ≡ record now { loops = after.loops } → AreRuns f b before after run
all_runs f b place before kept now after run state diagnostics empties patterns inside at_place pushed are put others =
    let k = are.k in
    let has = are.judged in
    let loop : Loop = record { known = are.last; begins = true; goes_on = true } in
    record {
      loop = loop;
      k = k;
      runs = by_tries refl (subst (λ s. JudgesTries (language_rules before.patterns.now) b first_try s.known are.last k) state (subst (λ ps. JudgesTries (language_rules ps.now) b first_try kept.state.known are.last k) patterns are.tries));
      judged = record {
        kind = has.kind;
        root = has.root;
        ends = ends_of before.state.scopes run.finding.ends (record k { ok = are.last }) (run_through loop k) (ends_in kept.state.scopes before.state.scopes run.finding.ends (record k { ok = are.last }) (ap (λ s. s.scopes) state) has.ends) refl refl refl refl;
        gathered = record {
          ok = ap (λ c. c.state.known) others ∙ has.gathered.ok;
          scopes = ap (λ c. c.state.scopes) others ∙ has.gathered.scopes ∙ ap (λ s. s.scopes) state;
          diagnostics = ap (λ c. c.diagnostics.items) others ∙ has.gathered.diagnostics ∙ ap (λ v. v.items ++ k.codes) diagnostics;
          empties = ap (λ c. c.empties.items) others ∙ has.gathered.empties ∙ ap (λ v. v.items ++ k.empties) empties;
          loops = put_there place before.loops.items kept.loops.items now.loops.items after.loops.items now.state k.loops at_place pushed has.gathered.loops put
              ∙ ap (λ known. branches_known before.loops.items ++ (known ∷ loops_known k.loops)) has.gathered.ok;
          patterns = ap (λ c. c.patterns) others ∙ has.gathered.patterns ∙ patterns;
          inside = ap (λ c. c.inside) others ∙ has.gathered.inside ∙ inside;
        };
      };
      wrong = are.wrong;
    }
