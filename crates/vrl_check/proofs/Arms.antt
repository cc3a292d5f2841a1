-- The ways of an `if`, one beside another.
use Rattle.std.proofs.lemmas.Bool.{and_parts}
use Rattle.std.proofs.Common.{◌≡◌, ◌≤◌, ◌<◌, ◌+◌, ℕ, suc, ◌||◌, List, [], ◌∷◌, ◌++◌, length, drop, get_or, drop-cons, add-one, Option, None, refl, sym, ap, ◌∙◌, subst, append-nil, arith}
use Rattle.std.proofs.lemmas.List.{drop_all}
use Rattle.std.specs.List.{list_any}
use Rattle.vrl_value.specs.declared.value.Tag.{Tag}
use Rattle.vrl_diag.specs.declared.diagnostic.Diagnostic.{Diagnostic}
use Rattle.vrl_diag.specs.declared.diagnostic.Span.{Span}
use Rattle.vrl_syntax.specs.Limits.{arms_faults, expr_faults, exprs_faults}
use Rattle.vrl_syntax.specs.Tree.{Expr, Exprs, Arms, no_arms, arm, Else, no_else, else_block, conditional, span_of}
use Rattle.vrl_syntax.specs.View.{ArmTree, arm_of, arms_view}
use Rattle.vrl_syntax.specs.declared.tree.Arm.{Arm as CodeArm}
use Rattle.vrl_kind.specs.Canonical.{never_kind}
use Rattle.vrl_state.specs.States.{IsEither, IsJoined, IsRootKind, RootMap, Scope, State}
use Rattle.vrl_judge.specs.Returns.{return_kind, return_state}
use Rattle.vrl_judge.specs.Branching.{no_ways, AreWays, IsBlockBeside, IsLastBeside, IsPredicateBeside}
use Rattle.vrl_diag.specs.Refusal.{is_error}
use Rattle.vrl_judge.specs.Rules.{Judgement, Loop, gives, nothing, of_predicate, settle}
use Rattle.vrl_check.specs.Judgement.{predicate_of, IsBeside}
use Rattle.vrl_check.specs.Judgement.{JudgesArms, JudgesBlock, a_conditional, a_missing_else, an_arm, an_else, Judges}
use Rattle.vrl_judge.specs.Judging.{known_on, AreEnds, AreJoinedEnds, HasJudged, IsReported}
use Rattle.vrl_check.specs.Walking.{HasWays}
use Rattle.vrl_check.specs.Walking.{ArmsCanBeJudged, ExprCanBeJudged, IsAnywhereAs, IsArmAs, IsArmBehind, IsBlockAs, IsElseAs, IsJudgedAs, ItemsCanBeJudged}
use Rattle.vrl_judge.specs.Seen.{seen}
use Rattle.vrl_judge.specs.declared.branches.Ways.{Ways}
use Rattle.vrl_judge.specs.declared.checker.Checker.{Checker}
use Rattle.vrl_judge.specs.declared.ends.Ends.{Ends}
use Rattle.vrl_judge.specs.declared.finding.Finding.{Finding}
use Rattle.vrl_check.proofs.Capable.{none_of_both}
use Rattle.vrl_judge.proofs.Parts.{no_loops}
use Rattle.vrl_state.proofs.Limits.{either_root}
use Rattle.vrl_judge.proofs.RootKinds.{never_either, never_root}
use Rattle.vrl_syntax.proofs.PartSizes.{arms_size}
use Rattle.vrl_judge.proofs.Told.{as_seen, gathers_both, gathers_moved, gathers_reported, told, told_of, Gathers, IsTold}
use Rattle.vrl_check.proofs.Told.{block_at, told_block, told_expr, IsToldBlock, IsToldExpr}
use Rattle.vrl_judge.proofs.Joining.{join_none, no_ends_are}
use Rattle.vrl_check.specs.OpenRules.{language_rules}

-- ---- ways as they were told

-- the ways of an `if`, taken as a judgement
abbrev seen_ways : Ways → List Diagnostic → List Tag → List (Option Loop) → Judgement
seen_ways ways codes tags loops = record {
  kind = ways.kind;
  ok = known_on ways.ok;
  fail = known_on ways.ends.fail;
  ret = return_state ways.ends.ret;
  returned = return_kind ways.ends.ret;
  poisoned = ways.ends.poisoned;
  codes = codes;
  empties = tags;
  loops = loops;
}

as_seen_ways : (before now : Checker) (ways : Ways) (w : Judgement) → HasWays before now ways w → w ≡ seen_ways ways w.codes w.empties w.loops
as_seen_ways before now ways w has = λ i. record {
  kind = sym has.kind i;
  ok = sym has.ok i;
  fail = sym has.ends.fail i;
  ret = sym has.ends.ret i;
  returned = sym has.ends.returned i;
  poisoned = sym has.ends.poisoned i;
  codes = w.codes;
  empties = w.empties;
  loops = w.loops;
}

record AreTold (before now : Checker) (ways : Ways) (ds : List Diagnostic) (ts : List Tag) (ls : List (Option Loop)) : Type 0 where
  pub root : IsRootKind ways.kind
  pub are : AreWays before.state.scopes ways
  pub gathers : Gathers before now ds ts ls

ways_told_of : (before now : Checker) (ways : Ways) (w : Judgement) → HasWays before now ways w → AreTold before now ways w.codes w.empties w.loops
ways_told_of before now ways w has = record {
  root = subst IsRootKind (sym has.kind) has.root;
  are = record { ok = has.alive; ends = has.ends.are };
  gathers = record { scopes = has.scopes; diagnostics = has.diagnostics; empties = has.empties; loops = has.loops; patterns = has.patterns; inside = has.inside };
}

ways_told : (before now : Checker) (ways : Ways) (ds : List Diagnostic) (ts : List Tag) (ls : List (Option Loop)) → AreTold before now ways ds ts ls → HasWays before now ways (seen_ways ways ds ts ls)
ways_told before now ways ds ts ls is = record {
  kind = refl;
  root = is.root;
  alive = is.are.ok;
  ok = refl;
  ends = record { are = is.are.ends; fail = refl; ret = refl; returned = refl; poisoned = refl };
  scopes = is.gathers.scopes;
  diagnostics = is.gathers.diagnostics;
  empties = is.gathers.empties;
  loops = is.gathers.loops;
  patterns = is.gathers.patterns;
  inside = is.gathers.inside;
}

pub ways_in : (ways : Ways) (scopes scopes' : List Scope) → scopes ≡ scopes' → AreWays scopes ways → AreWays scopes' ways
ways_in ways scopes scopes' same are = subst (λ s. AreWays s ways) same are

-- where the ways stand, for a call behind them
pub ways_here : (before now : Checker) (ways : Ways) (w : Judgement) → HasWays before now ways w → AreWays now.state.scopes ways
ways_here before now ways w has = ways_in ways before.state.scopes now.state.scopes (sym has.scopes) (ways_told_of before now ways w has).are

-- ---- one arm

beside_predicate : (p : Expr) (ways middle : Ways) (b c : Checker) (part : Finding) (ds es : List Diagnostic) (ts us : List Tag) (ls ms : List (Option Loop)) → IsRootKind ways.kind
    → IsPredicateBeside (span_of p) part ways b c middle
    → IsBeside (seen_ways ways ds ts ls) (record (predicate_of p (seen part b es us ms)) { kind = never_kind; ok = None }) (seen_ways middle (ds ++ (es ++ of_predicate (span_of p) (seen part b [] [] []))) (ts ++ us) (ls ++ ms))
beside_predicate p ways middle b c part ds es ts us ls ms root is =
    let joined : AreJoinedEnds ways.ends (record part.ends { poisoned = part.ends.poisoned || list_any is_error (of_predicate (span_of p) (seen part b [] [] [])) }) middle.ends =
    subst (λ ends. AreJoinedEnds ways.ends ends middle.ends) is.reported.ends is.ends
    in
    record {
      kind = subst (λ K. IsEither ways.kind never_kind K) (sym is.kind) (never_either ways.kind root);
      ok = subst (λ ok. IsJoined (known_on ways.ok) None (known_on ok)) (sym is.ok) (join_none (known_on ways.ok));
      fail = joined.fail;
      ret = joined.ret.state;
      returned = joined.ret.kind;
      poisoned = joined.poisoned;
      codes = refl;
      empties = refl;
      loops = refl;
    }

beside_block : (middle all : Ways) (e f : Checker) (mark : State) (block : Finding) (ds es : List Diagnostic) (ts us : List Tag) (ls ms : List (Option Loop)) → IsBlockBeside mark block middle e f all
    → IsBeside (seen_ways middle ds ts ls) (seen block e es us ms) (seen_ways all (ds ++ es) (ts ++ us) (ls ++ ms))
beside_block middle all e f mark block ds es ts us ls ms is = record {
  kind = is.kind;
  ok = is.ok;
  fail = is.ends.fail;
  ret = is.ends.ret.state;
  returned = is.ends.ret.kind;
  poisoned = is.ends.poisoned;
  codes = refl;
  empties = refl;
  loops = refl;
}

-- the state that was marked, and the one behind the predicate
gathers_arm : (before a b c e : Checker) (s mark : State) (part block : Finding) (old new : Ends) (ds es ps qs : List Diagnostic) (ts us vs : List Tag) (ls ms ns : List (Option Loop)) → Gathers before a ds ts ls → Gathers a b es us ms → IsReported ps b c old new → s ≡ c.state → Gathers (record c { state = s }) e qs vs ns → mark ≡ c.state
    → Gathers before (record e { state = mark }) ((ds ++ (es ++ ps)) ++ qs) ((ts ++ us) ++ vs) ((ls ++ ms) ++ ns)
gathers_arm before a b c e s mark part block old new ds es ps qs ts us vs ls ms ns first second reported same third marked =
    let here = gathers_both before a c ds (es ++ ps) ts us ls ms first (gathers_reported a b c es ps us ms old new second reported) in
    let back : Gathers c e qs vs ns = record { scopes = third.scopes ∙ ap (λ x. x.scopes) same; diagnostics = third.diagnostics; empties = third.empties; loops = third.loops; patterns = third.patterns; inside = third.inside } in
    let there = gathers_both before c e (ds ++ (es ++ ps)) qs (ts ++ us) vs (ls ++ ms) ns here back in
    record { scopes = ap (λ x. x.scopes) marked ∙ here.scopes; diagnostics = there.diagnostics; empties = there.empties; loops = there.loops; patterns = there.patterns; inside = there.inside }

arm_told : (t : ArmTree) (before a b c e f : Checker) (s mark : State) (ways middle all : Ways) (part block : Finding) (ds : List Diagnostic) (ts : List Tag) (ls : List (Option Loop)) → AreTold before a ways ds ts ls → IsToldExpr t.0 a b part
    → IsPredicateBeside (span_of t.0) part ways b c middle → s ≡ c.state → mark ≡ c.state → IsToldBlock t.1 (record c { state = s }) e block → IsBlockBeside mark block middle e f all
    → IsArmAs t (seen_ways ways ds ts ls) before a f all
arm_told t before a b c e f s mark ways middle all part block ds ts ls w x predicate same marked y behind =
    let ps = of_predicate (span_of t.0) (seen part b [] [] []) in
    let gone : Gathers before (record e { state = mark }) ((ds ++ (x.codes ++ ps)) ++ y.codes) ((ts ++ x.tags) ++ y.tags) ((ls ++ x.loops) ++ y.loops) =
    gathers_arm before a b c e s mark part block part.ends predicate.predicate ds x.codes ps y.codes ts x.tags y.tags ls x.loops y.loops w.gathers x.ended.gathers predicate.reported same y.ended.gathers marked
    in
    let scopes : e.state.scopes ≡ before.state.scopes = y.ended.gathers.scopes ∙ ap (λ x. x.scopes) same ∙ ap (λ x. x.scopes) predicate.reported.state ∙ x.ended.gathers.scopes ∙ w.gathers.scopes in
    record {
      j = seen part b x.codes x.tags x.loops;
      k = seen block e y.codes y.tags y.loops;
      with_predicate = seen_ways middle (ds ++ (x.codes ++ ps)) (ts ++ x.tags) (ls ++ x.loops);
      all = seen_ways all ((ds ++ (x.codes ++ ps)) ++ y.codes) ((ts ++ x.tags) ++ y.tags) ((ls ++ x.loops) ++ y.loops);
      predicate = x.judges;
      first = beside_predicate t.0 ways middle b c part ds x.codes ts x.tags ls x.loops w.root predicate;
      block = block_at a (record c { state = s }) b.state.known t.1 (seen block e y.codes y.tags y.loops) (predicate.reported.patterns ∙ x.ended.gathers.patterns) (predicate.reported.inside ∙ x.ended.gathers.inside) (ap (λ x. x.known) (same ∙ predicate.reported.state)) y.judges;
      second = beside_block middle all e f mark block (ds ++ (x.codes ++ ps)) y.codes (ts ++ x.tags) y.tags (ls ++ x.loops) y.loops behind;
      known = ap (λ x. x.state.known) behind.back ∙ ap (λ x. x.known) (marked ∙ predicate.reported.state);
      told = ways_told before f all ((ds ++ (x.codes ++ ps)) ++ y.codes) ((ts ++ x.tags) ++ y.tags) ((ls ++ x.loops) ++ y.loops) (record {
        root = either_root middle.kind block.kind all.kind (subst IsRootKind (sym predicate.kind) w.root) y.ended.root behind.kind;
        are = ways_in all e.state.scopes before.state.scopes scopes behind.are;
        gathers = subst (λ z. Gathers before z ((ds ++ (x.codes ++ ps)) ++ y.codes) ((ts ++ x.tags) ++ y.tags) ((ls ++ x.loops) ++ y.loops)) (sym behind.back) gone;
      });
    }

pub arm_judged : (t : ArmTree) (span : Span) (a b c e f : Checker) (s mark : State) (ways middle all : Ways) (part block : Finding) → IsJudgedAs t.0 a b part → span ≡ span_of t.0
    → IsPredicateBeside span part ways b c middle → s ≡ c.state → mark ≡ c.state → IsBlockAs t.1 (record c { state = s }) e block → IsBlockBeside mark block middle e f all
    → IsArmBehind t ways a f all
arm_judged t span a b c e f s mark ways middle all part block first spans predicate same marked second behind = λ before w has.
    subst (λ v. IsArmAs t v before a f all) (sym (as_seen_ways before a ways w has))
    (arm_told t before a b c e f s mark ways middle all part block w.codes w.empties w.loops (ways_told_of before a ways w has) (told_expr t.0 a b part first)
    (subst (λ s. IsPredicateBeside s part ways b c middle) spans predicate) same marked (told_block t.1 (record c { state = s }) e block second) behind)

-- where the ways with the predicate stand behind the block
pub middle_here : (p : Expr) (es : Exprs) (span : Span) (a b c e : Checker) (s : State) (ways middle : Ways) (part block : Finding) → IsPredicateBeside span part ways b c middle → s ≡ c.state → IsBlockAs es (record c { state = s }) e block
    → AreWays e.state.scopes middle
middle_here p es span a b c e s ways middle part block predicate same second =
    ways_in middle b.state.scopes e.state.scopes (sym (second.2.gathered.scopes ∙ ap (λ x. x.scopes) (same ∙ predicate.reported.state))) predicate.are

-- ---- what can be judged

pub predicate_can : {sources : List (List ℕ)} (p : Expr) (es : Exprs) (gs : Arms) → ArmsCanBeJudged sources (arm p es gs) → ExprCanBeJudged sources p
predicate_can p es gs can = record { limits = (none_of_both (expr_faults p) (exprs_faults es ++ arms_faults gs) can.limits).0; regexes = (and_parts _ _ can.regexes).0 }

behind_predicate : {sources : List (List ℕ)} (p : Expr) (es : Exprs) (gs : Arms) → ArmsCanBeJudged sources (arm p es gs) → exprs_faults es ++ arms_faults gs ≡ []
behind_predicate p es gs can = (none_of_both (expr_faults p) (exprs_faults es ++ arms_faults gs) can.limits).1

pub items_can : {sources : List (List ℕ)} (p : Expr) (es : Exprs) (gs : Arms) → ArmsCanBeJudged sources (arm p es gs) → ItemsCanBeJudged sources es
items_can p es gs can = record { limits = (none_of_both (exprs_faults es) (arms_faults gs) (behind_predicate p es gs can)).0; regexes = (and_parts _ _ (and_parts _ _ can.regexes).1).0 }

pub arms_can : {sources : List (List ℕ)} (p : Expr) (es : Exprs) (gs : Arms) → ArmsCanBeJudged sources (arm p es gs) → ArmsCanBeJudged sources gs
arms_can p es gs can = record { limits = (none_of_both (exprs_faults es) (arms_faults gs) (behind_predicate p es gs can)).1; regexes = (and_parts _ _ (and_parts _ _ can.regexes).1).1 }

-- ---- all arms

-- the arms that were judged so far: what the rest gives from here, the whole gives from the start
pub record AreJudged (whole : Arms) (otherwise : Else) (rest : Arms) (start now : Checker) (ways : Ways) : Type 0 where
  pub w : Judgement
  pub told : HasWays start now ways w
  pub can : ArmsCanBeJudged start.patterns.now rest
  pub size : arms_size rest ≤ arms_size whole
  pub judges : (all : Judgement) → JudgesArms (language_rules start.patterns.now) start.inside now.state.known w rest otherwise all → JudgesArms (language_rules start.patterns.now) start.inside start.state.known (nothing []) whole otherwise all

pub none_judged : (whole : Arms) (otherwise : Else) (start : Checker) (ways : Ways) → ways ≡ no_ways → ArmsCanBeJudged start.patterns.now whole → AreJudged whole otherwise whole start start ways
none_judged whole otherwise start ways none can = subst (AreJudged whole otherwise whole start start) (sym none) (record {
  w = nothing [];
  told = record {
    kind = refl;
    root = never_root;
    alive = refl;
    ok = refl;
    ends = record { are = no_ends_are start.state.scopes; fail = refl; ret = refl; returned = refl; poisoned = refl };
    scopes = refl;
    diagnostics = sym (append-nil start.diagnostics.items);
    empties = sym (append-nil start.empties.items);
    loops = no_loops start;
    patterns = refl;
    inside = refl;
  };
  can = can;
  size = omega arith;
  judges = λ all is. is;
})

-- what was judged at one place was judged so at another
expr_here : (start now : Checker) (known : Option RootMap) (e : Expr) (j : Judgement) → now.patterns ≡ start.patterns → now.inside ≡ start.inside → Judges (language_rules now.patterns.now) now.inside known e j → Judges (language_rules start.patterns.now) start.inside known e j
expr_here start now known e j same inside judges = subst (λ b. Judges (language_rules start.patterns.now) b known e j) inside (subst (λ ps. Judges (language_rules ps.now) now.inside known e j) same judges)

block_here : (start now : Checker) (known : Option RootMap) (es : Exprs) (j : Judgement) → now.patterns ≡ start.patterns → now.inside ≡ start.inside → JudgesBlock (language_rules now.patterns.now) now.inside known es j → JudgesBlock (language_rules start.patterns.now) start.inside known es j
block_here start now known es j same inside judges = subst (λ b. JudgesBlock (language_rules start.patterns.now) b known es j) inside (subst (λ ps. JudgesBlock (language_rules ps.now) now.inside known es j) same judges)

arms_here : (start now : Checker) (known : Option RootMap) (ways : Judgement) (gs : Arms) (otherwise : Else) (j : Judgement) → now.patterns ≡ start.patterns → now.inside ≡ start.inside
    → JudgesArms (language_rules now.patterns.now) now.inside known ways gs otherwise j → JudgesArms (language_rules start.patterns.now) start.inside known ways gs otherwise j
arms_here start now known ways gs otherwise j same inside judges =
    subst (λ b. JudgesArms (language_rules start.patterns.now) b known ways gs otherwise j) inside (subst (λ ps. JudgesArms (language_rules ps.now) now.inside known ways gs otherwise j) same judges)

pub one_judged : (whole : Arms) (otherwise : Else) (t : ArmTree) (rest : Arms) (start now after : Checker) (ways all : Ways) → AreJudged whole otherwise (arm t.0 t.1 rest) start now ways → IsArmBehind t ways now after all
    → AreJudged whole otherwise rest start after all
one_judged whole otherwise t rest start now after ways all so_far next =
    let is = next start so_far.w so_far.told in
    record {
      w = is.all;
      told = is.told;
      can = arms_can t.0 t.1 rest so_far.can;
      size = omega (arith, so_far.size);
      judges = λ end more. so_far.judges end
          (an_arm (expr_here start now now.state.known t.0 is.j so_far.told.patterns so_far.told.inside is.predicate) is.first (block_here start now is.j.ok t.1 is.k so_far.told.patterns so_far.told.inside is.block) is.second
          (subst (λ known. JudgesArms (language_rules start.patterns.now) start.inside known is.all rest otherwise end) is.known more));
    }

-- ---- a list of arms

pub next_arm : (items : List CodeArm) (i : ℕ) (it : CodeArm) → i < length items → it ≡ get_or items i it → arms_view (drop i items) ≡ arm (arm_of it).0 (arm_of it).1 (arms_view (drop (i + 1) items))
next_arm items i it within is =
    let front : drop i items ≡ it ∷ drop (i + 1) items = rw add-one (drop-cons items i it within ∙ ap (λ x. x ∷ drop (suc i) items) (sym is)) in
    ap arms_view front

pub no_arm_left : (items : List CodeArm) (i : ℕ) → length items ≤ i → arms_view (drop i items) ≡ no_arms
no_arm_left items i past = ap arms_view (drop_all i items past)

pub first_arms : (whole : Arms) (otherwise : Else) (items : List CodeArm) (start : Checker) (ways : Ways) → arms_view items ≡ whole → ways ≡ no_ways → ArmsCanBeJudged start.patterns.now whole → AreJudged whole otherwise (arms_view items) start start ways
first_arms whole otherwise items start ways is none can = subst (λ rest. AreJudged whole otherwise rest start start ways) (sym is) (none_judged whole otherwise start ways none can)

pub more_arms : (whole rest : Arms) (otherwise : Else) (t : ArmTree) (left : Arms) (start now after : Checker) (ways all : Ways) → left ≡ arm t.0 t.1 rest → AreJudged whole otherwise left start now ways → IsArmBehind t ways now after all
    → AreJudged whole otherwise rest start after all
more_arms whole rest otherwise t left start now after ways all is so_far next = one_judged whole otherwise t rest start now after ways all (subst (λ gs. AreJudged whole otherwise gs start now ways) is so_far) next

-- what the next arm requires
pub next_can : (whole rest : Arms) (otherwise : Else) (t : ArmTree) (left : Arms) (start now : Checker) (ways : Ways) → left ≡ arm t.0 t.1 rest → AreJudged whole otherwise left start now ways → ExprCanBeJudged now.patterns.now t.0 × ItemsCanBeJudged now.patterns.now t.1
next_can whole rest otherwise t left start now ways is so_far =
    let can = subst (λ ps. ArmsCanBeJudged ps.now (arm t.0 t.1 rest)) (sym so_far.told.patterns) (subst (ArmsCanBeJudged start.patterns.now) is so_far.can) in
    (predicate_can t.0 t.1 rest can, items_can t.0 t.1 rest can)

-- ---- the last way

-- what a last `else`, or a missing one, gives
record IsLast (w : Judgement) (otherwise : Else) (now after : Checker) (last : Finding) : Type 0 where
  pub k : Judgement
  pub judged : HasJudged now after last k
  pub judges : (all : Judgement) → IsBeside w k all → JudgesArms (language_rules now.patterns.now) now.inside now.state.known w no_arms otherwise all

is_last : (w : Judgement) (otherwise : Else) (now after : Checker) (last : Finding) → IsElseAs otherwise now after last → IsLast w otherwise now after last
is_last w (else_block es) now after last is = record { k = is.0; judged = is.2; judges = λ all beside. an_else is.1 beside }
is_last w no_else now after last is = record { k = settle (gives is.0 now.state.known); judged = is.2; judges = λ all beside. a_missing_else is.1 beside }

-- where it stands, for a call behind it
pub last_ends : (otherwise : Else) (now after : Checker) (last : Finding) → IsElseAs otherwise now after last → AreEnds after.state.scopes last.ends
last_ends otherwise now after last is =
    let l = is_last (nothing []) otherwise now after last is in
    subst (λ scopes. AreEnds scopes last.ends) (sym l.judged.gathered.scopes) l.judged.ends.are

-- where the ways before it stand
pub ways_behind : (otherwise : Else) (start now after : Checker) (ways : Ways) (w : Judgement) (last : Finding) → HasWays start now ways w → IsElseAs otherwise now after last → AreWays after.state.scopes ways
ways_behind otherwise start now after ways w last has is =
    ways_in ways now.state.scopes after.state.scopes (sym (is_last w otherwise now after last is).judged.gathered.scopes) (ways_here start now ways w has)

beside_last : (ways : Ways) (last finding : Finding) (after end : Checker) (ds es : List Diagnostic) (ts us : List Tag) (ls ms : List (Option Loop)) → IsLastBeside ways last after end finding
    → IsBeside (seen_ways ways ds ts ls) (seen last after es us ms) (seen finding end (ds ++ es) (ts ++ us) (ls ++ ms))
beside_last ways last finding after end ds es ts us ls ms is = record {
  kind = is.kind;
  ok = is.known;
  fail = is.ends.fail;
  ret = is.ends.ret.state;
  returned = is.ends.ret.kind;
  poisoned = is.ends.poisoned;
  codes = refl;
  empties = refl;
  loops = refl;
}

last_told : (otherwise : Else) (start now after end : Checker) (ways : Ways) (last finding : Finding) (ds : List Diagnostic) (ts : List Tag) (ls : List (Option Loop)) → AreTold start now ways ds ts ls → IsLast (seen_ways ways ds ts ls) otherwise now after last
    → IsLastBeside ways last after end finding → (j : Judgement) × JudgesArms (language_rules now.patterns.now) now.inside now.state.known (seen_ways ways ds ts ls) no_arms otherwise j × HasJudged start end finding j
last_told otherwise start now after end ways last finding ds ts ls w is behind =
    let es = is.k.codes in
    let us = is.k.empties in
    let ms = is.k.loops in
    let all = seen finding end (ds ++ es) (ts ++ us) (ls ++ ms) in
    let x : IsTold now after last es us ms = told_of now after last is.k is.judged in (
      all,
      is.judges all (subst (λ k. IsBeside (seen_ways ways ds ts ls) k all) (sym (as_seen now after last is.k is.judged)) (beside_last ways last finding after end ds es ts us ls ms behind)),
      told start end finding (ds ++ es) (ts ++ us) (ls ++ ms) (record {
        root = either_root ways.kind last.kind finding.kind w.root x.root behind.kind;
        are = subst (λ scopes. AreEnds scopes finding.ends) (x.gathers.scopes ∙ w.gathers.scopes) behind.are;
        gathers = gathers_moved start after end (ds ++ es) (ts ++ us) (ls ++ ms) (gathers_both start now after ds es ts us ls ms w.gathers x.gathers) behind.moved;
      }),
    )

pub conditional_judged : (whole : Arms) (otherwise : Else) (start now after end : Checker) (ways : Ways) (last finding : Finding) → AreJudged whole otherwise no_arms start now ways → IsElseAs otherwise now after last → IsLastBeside ways last after end finding
    → IsAnywhereAs (conditional whole otherwise) start end finding
conditional_judged whole otherwise start now after end ways last finding so_far is behind = λ span known alive.
    let same = as_seen_ways start now ways so_far.w so_far.told in
    let v = seen_ways ways so_far.w.codes so_far.w.empties so_far.w.loops in
    let ended = last_told otherwise start now after end ways last finding so_far.w.codes so_far.w.empties so_far.w.loops (ways_told_of start now ways so_far.w so_far.told) (is_last v otherwise now after last is) behind in (
      ended.0,
      a_conditional (subst (λ s. JudgesArms (language_rules start.patterns.now) start.inside s (nothing []) whole otherwise ended.0) alive
          (so_far.judges ended.0 (arms_here start now now.state.known so_far.w no_arms otherwise ended.0 so_far.told.patterns so_far.told.inside
          (subst (λ u. JudgesArms (language_rules now.patterns.now) now.inside now.state.known u no_arms otherwise ended.0) (sym same) ended.1)))),
      ended.2,
    )
