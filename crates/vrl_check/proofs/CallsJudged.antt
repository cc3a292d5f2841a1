-- The judgement of a call, step by step behind its arguments.
use Rattle.std.proofs.Common.{◌≡◌, ℕ, Bool, true, false, ◌||◌, List, [], ◌∷◌, ◌++◌, Option, Some, refl, sym, ap, ◌∙◌, subst}
use Rattle.std.proofs.lemmas.Bool.{or_parts, or_from}
use Rattle.std.specs.List.{list_any}
use Rattle.vrl_diag.specs.declared.diagnostic.Diagnostic.{Diagnostic}
use Rattle.vrl_diag.specs.declared.diagnostic.Span.{Span}
use Rattle.vrl_syntax.specs.ErrorAssignments.{in_closure}
use Rattle.vrl_syntax.specs.Limits.{args_faults, closure_faults, form_faults}
use Rattle.vrl_syntax.specs.Tree.{Args, Closure, Form, call}
use Rattle.vrl_kind.specs.Canonical.{any_kind, never_kind}
use Rattle.vrl_kind.specs.KindTree.{KindTree}
use Rattle.vrl_state.specs.States.{IsJoined, IsRootKind, RootMap}
use Rattle.vrl_binding.specs.Binding.{binding, keywords_of}
use Rattle.vrl_table.specs.Table.{row_of}
use Rattle.vrl_table.specs.declared.function.Fun.{Fun}
use Rattle.vrl_check.specs.Calling.{callee_codes, callee_parameters, with_call_codes, AreRootKinds, AreTold, HasArguments, HasCodes, IsAnsweredAs, IsBoundCallAs, IsDeletedAs, IsPassed, IsTold, IsUnknown}
use Rattle.vrl_syntax.specs.Calls.{is_exists, is_del}
use Rattle.vrl_syntax.specs.Calls.{takes_closure}
use Rattle.vrl_diag.specs.Refusal.{is_error}
use Rattle.vrl_judge.specs.Rules.{Argument, Judgement, at, gives, if_state, with_codes, IsScalar}
use Rattle.vrl_check.specs.Judgement.{Gives, JudgesArguments, a_call, a_call_of_nothing, a_deletion, an_existence, bound, deleted_kind, deleted_path, passing_closure, places_in, IsAnsweredUnless, IsDeletedAt}
use Rattle.vrl_judge.specs.Judging.{known_on, AreEnds, HasEnds, HasGathered, HasJudged, IsReported}
use Rattle.vrl_check.specs.Loops.{closures_in_closure, unjudged}
use Rattle.vrl_check.specs.Walking.{nulls, passed_states, FormCanBeJudged}
use Rattle.vrl_check.specs.declared.calls.Arguments.{Arguments}
use Rattle.vrl_check.specs.declared.calls.Callee.{Callee}
use Rattle.vrl_judge.specs.declared.checker.Checker.{Checker}
use Rattle.vrl_judge.specs.declared.ends.Ends.{Ends}
use Rattle.vrl_judge.specs.declared.finding.Finding.{Finding}
use Rattle.vrl_check.proofs.Passed.{loops_passed, nulls_allowed}
use Rattle.vrl_judge.proofs.Parts.{added, loops_added, are_ends_of, ends_of, ends_or_fail, gathered_moved, gathered_of, reported_ends, reported_gathered}
use Rattle.vrl_judge.proofs.RootKinds.{any_root, scalar_root}
use Rattle.vrl_judge.proofs.Joining.{join_of}
use Rattle.vrl_value.specs.declared.value.Tag.TheVariants as tag
use Rattle.vrl_check.specs.declared.calls.Callee.TheVariants as callee
use Rattle.vrl_check.specs.OpenRules.{language_rules}

-- ---- behind the closure

pub closure_gathered : (before now passed : Checker) (c : Closure) (j : Judgement) → HasGathered before now j → passed.empties.items ≡ now.empties.items ++ nulls (in_closure c) → passed.loops.items ≡ now.loops.items ++ passed_states (closures_in_closure c)
    → passed ≡ record now { empties = passed.empties; loops = passed.loops } → HasGathered before passed (passing_closure c (nulls (in_closure c)) j)
closure_gathered before now passed c j has empties loops others = record {
  ok = ap (λ (x : Checker). x.state.known) others ∙ has.ok;
  scopes = ap (λ (x : Checker). x.state.scopes) others ∙ has.scopes;
  diagnostics = ap (λ (x : Checker). x.diagnostics.items) others ∙ has.diagnostics;
  empties = added before.empties.items now.empties.items passed.empties.items j.empties (nulls (in_closure c)) has.empties empties;
  loops = loops_added before now passed j.loops (unjudged (closures_in_closure c)) has.loops (loops_passed now.loops.items passed.loops.items (closures_in_closure c) loops);
  patterns = ap (λ (x : Checker). x.patterns) others ∙ has.patterns;
  inside = ap (λ (x : Checker). x.inside) others ∙ has.inside;
}

pub closure_passed : (before now passed : Checker) (gs : Args) (c : Closure) (arguments : Arguments) (js : List Argument) (j : Judgement) → HasArguments before now gs arguments js j → passed.empties.items ≡ now.empties.items ++ nulls (in_closure c)
    → passed.loops.items ≡ now.loops.items ++ passed_states (closures_in_closure c) → passed ≡ record now { empties = passed.empties; loops = passed.loops }
    → IsPassed before passed gs c arguments js j
closure_passed before now passed gs c arguments js j has empties loops others = record {
  told = has.told;
  roots = has.roots;
  ends = ends_of before.state.scopes arguments.ends j (passing_closure c (nulls (in_closure c)) j) has.ends refl refl refl refl;
  gathered = closure_gathered before now passed c j has.gathered empties loops others;
}

-- ---- a call of nothing

unknown_name : (name : List ℕ) → IsUnknown name → takes_closure name ≡ false → (is_del name || (is_exists name || takes_closure name)) ≡ false
unknown_name name unknown none =
    let paths = or_parts (is_del name) (is_exists name) unknown.paths in
    or_from (is_del name) (is_exists name || takes_closure name) paths.0 (or_from (is_exists name) (takes_closure name) paths.1 none)

pub nothing_judged : (name : List ℕ) (s span : Span) (bang : Bool) (gs : Args) (c : Closure) (before now after : Checker) (known : RootMap) (js : List Argument) (j : Judgement) (arguments : Arguments) (finding : Finding)
    → IsUnknown name → takes_closure name ≡ false → JudgesArguments (language_rules before.patterns.now) before.inside (gives never_kind (Some known)) gs js j → IsPassed before now gs c arguments js j → finding.kind ≡ any_kind → IsReported (at 105 s) now after arguments.ends finding.ends
    → (k : Judgement) × Gives (language_rules before.patterns.now) before.inside known span (call name s bang gs c) k × HasJudged before after finding k
nothing_judged name s span bang gs c before now after known js j arguments finding unknown none judged passed any reported =
    let whole : Judgement = passing_closure c (nulls (in_closure c)) (record j { kind = any_kind }) in (
      with_codes (at 105 s) whole,
      a_call_of_nothing unknown.functions (unknown_name name unknown none) judged (nulls_allowed before.patterns.now (in_closure c)),
      record {
        kind = any;
        root = any_root;
        ends = reported_ends before.state.scopes (at 105 s) now after arguments.ends finding.ends whole reported (ends_of before.state.scopes arguments.ends (passing_closure c (nulls (in_closure c)) j) whole passed.ends refl refl refl refl);
        gathered = reported_gathered (at 105 s) before now after arguments.ends finding.ends whole reported (gathered_of before now (passing_closure c (nulls (in_closure c)) j) whole passed.gathered refl refl refl refl);
      },
    )

-- ---- the call's own codes

pub call_bound : (named : Callee) (span : Span) (before now after : Checker) (gs : Args) (c : Closure) (arguments next : Arguments) (js : List Argument) (j : Judgement) → IsPassed before now gs c arguments js j
    → IsReported (callee_codes named span gs c js) now after arguments.ends next.ends → next.parts ≡ arguments.parts → HasArguments before after gs next js (with_call_codes named span gs c js j)
call_bound named span before now after gs c arguments next js j passed reported same =
    let whole = passing_closure c (nulls (in_closure c)) j in
    record {
      told = subst (λ ps. AreTold gs ps.items js) (sym same) passed.told;
      roots = passed.roots;
      ends = reported_ends before.state.scopes (callee_codes named span gs c js) now after arguments.ends next.ends whole reported passed.ends;
      gathered = reported_gathered (callee_codes named span gs c js) before now after arguments.ends next.ends whole reported passed.gathered;
    }

pub has_codes : (named : Callee) (span : Span) (now after : Checker) (gs : Args) (c : Closure) (arguments next : Arguments) (places : List (Option ℕ)) → IsTold gs arguments.parts.items → places ≡ places_in (binding (callee_parameters named) (keywords_of gs))
    → ((js : List Argument) → AreTold gs arguments.parts.items js → IsReported (callee_codes named span gs c js) now after arguments.ends next.ends) → next.parts ≡ arguments.parts → HasCodes named gs c next places
has_codes named span now after gs c arguments next places told are reported same = record {
  js = told.0;
  told = subst (λ ps. AreTold gs ps.items told.0) (sym same) told.1;
  places_are = are;
  span = span;
  codes = λ clean.
      let ends = (reported told.0 told.1).ends in
      let none = or_parts arguments.ends.poisoned (list_any is_error (callee_codes named span gs c told.0)) (sym (ap (λ (e : Ends). e.poisoned) ends) ∙ clean) in
      none.1;
}

-- what could be judged before the codes can be behind them
pub codes_can : (ds : List Diagnostic) (f : Form) (now after : Checker) (old new : Ends) → IsReported ds now after old new → FormCanBeJudged now.patterns.now f → FormCanBeJudged after.patterns.now f
codes_can ds f now after old new reported can = subst (λ ps. FormCanBeJudged ps.now f) (sym reported.patterns) can

pub codes_are : (ds : List Diagnostic) (now after : Checker) (old new : Ends) → IsReported ds now after old new → AreEnds now.state.scopes old → AreEnds after.state.scopes new
codes_are ds now after old new reported are =
    subst (λ s. AreEnds s.scopes new) (sym reported.state) (are_ends_of now.state.scopes old new (sym (ap (λ (e : Ends). e.fail) reported.ends)) (sym (ap (λ (e : Ends). e.ret) reported.ends)) are)

-- ---- a function

answered_of : (poisoned poisoned' : Bool) (sources sources' : List (List ℕ)) (function : Fun) (js js' : List (Option Argument)) (K : KindTree) (fails : Bool) → poisoned ≡ poisoned' → sources ≡ sources' → js ≡ js'
    → IsAnsweredUnless poisoned sources (row_of function) js K fails → IsAnsweredUnless poisoned' sources' (row_of function) js' K fails
answered_of poisoned poisoned' sources sources' function js js' K fails same_poison same_sources same is =
    subst (λ b. IsAnsweredUnless b sources' (row_of function) js' K fails) same_poison
    (subst (λ s. IsAnsweredUnless poisoned s (row_of function) js' K fails) same_sources
    (subst (λ gs. IsAnsweredUnless poisoned sources (row_of function) gs K fails) same is))

pub function_judged : (function : Fun) (name : List ℕ) (s span : Span) (bang : Bool) (gs : Args) (c : Closure) (arguments : Arguments) (places : List (Option ℕ)) (now after : Checker) (finding : Finding) → (row_of function).name ≡ name
    → places ≡ places_in (binding (row_of function).parameters (keywords_of gs)) → ((js : List Argument) → AreTold gs arguments.parts.items js → IsAnsweredAs function (bound places js) arguments.ends now finding) → after ≡ now
    → IsBoundCallAs (callee.Function function) span (call name s bang gs c) bang gs c arguments now after finding
function_judged function name s span bang gs c arguments places now after finding is places_are answers same = λ before known js j alive judged ready.
    let answer = answers js ready.told in
    let whole = with_call_codes (callee.Function function) span gs c js j in
    let scopes = before.state.scopes in
    let fail = known_on finding.ends.fail in
    let are : AreEnds scopes finding.ends = subst (λ x. AreEnds x finding.ends) ready.gathered.scopes answer.are in
    let given = answered_of arguments.ends.poisoned whole.poisoned now.patterns.now before.patterns.now function (bound places js) (bound (places_in (binding (row_of function).parameters (keywords_of gs))) js) finding.kind answer.fails
    ready.ends.poisoned (ap (λ ps. ps.now) ready.gathered.patterns)
    (ap (λ qs. bound qs js) places_are) answer.answered
    in
    let joined : IsJoined whole.fail (if_state answer.fails whole.ok) fail =
    join_of (known_on arguments.ends.fail) whole.fail (if_state answer.fails now.state.known) (if_state answer.fails whole.ok) fail ready.ends.fail (ap (if_state answer.fails) ready.gathered.ok) answer.or_fail.fail
    in (
      record whole { kind = finding.kind; fail = fail },
      a_call function finding.kind answer.fails fail is judged (nulls_allowed before.patterns.now (in_closure c)) refl given joined,
      record {
        kind = refl;
        root = answer.root;
        ends = ends_of scopes finding.ends (record whole { fail = fail }) (record whole { kind = finding.kind; fail = fail }) (ends_or_fail scopes arguments.ends finding.ends whole ready.ends answer.or_fail.others are) refl refl refl refl;
        gathered = subst (λ x. HasGathered before x (record whole { kind = finding.kind; fail = fail })) (sym same) (gathered_of before now whole (record whole { kind = finding.kind; fail = fail }) ready.gathered refl refl refl refl);
      },
    )

-- ---- `del`

first_of_both : {X : Type 0} (xs ys : List X) → xs ++ ys ≡ [] → xs ≡ []
first_of_both [] ys none = refl
first_of_both (x ∷ xs) ys none = absurd cc

-- its paths keep the limits
pub deleted_keeps : {sources : List (List ℕ)} (f : Form) (name : List ℕ) (s : Span) (bang : Bool) (gs : Args) (c : Closure) → f ≡ call name s bang gs c → is_del name ≡ true → FormCanBeJudged sources f → args_faults true gs ≡ []
deleted_keeps f name s bang gs c is del can =
    let limits : args_faults (is_del name) gs ++ closure_faults c ≡ [] = sym (ap form_faults is) ∙ can.limits in
    subst (λ b. args_faults b gs ≡ []) del (first_of_both (args_faults (is_del name) gs) (closure_faults c) limits)

-- the kind of what is deleted can be that of a root
deleted_root : (poisoned : Bool) (js : List Argument) → AreRootKinds js → IsRootKind (deleted_kind poisoned js)
deleted_root true [] roots = any_root
deleted_root true (g ∷ js) roots = any_root
deleted_root false [] roots = any_root
deleted_root false (g ∷ []) roots = roots.0
deleted_root false (g ∷ h ∷ js) roots = any_root

pub deletion_judged : (name : List ℕ) (s span : Span) (bang : Bool) (gs : Args) (c : Closure) (arguments : Arguments) (now after : Checker) (finding : Finding) → is_del name ≡ true
    → ((js : List Argument) → AreTold gs arguments.parts.items js → IsDeletedAs js arguments.ends now after finding) → IsBoundCallAs callee.Deletion span (call name s bang gs c) bang gs c arguments now after finding
deletion_judged name s span bang gs c arguments now after finding is deletes = λ before known js j alive judged ready.
    let deleted = deletes js ready.told in
    let whole = with_call_codes callee.Deletion span gs c js j in
    let taken : IsDeletedAt (deleted_path whole.poisoned js) whole.ok after.state.known =
    subst (λ b. IsDeletedAt (deleted_path b js) whole.ok after.state.known) ready.ends.poisoned (subst (λ k. IsDeletedAt (deleted_path arguments.ends.poisoned js) k after.state.known) ready.gathered.ok deleted.known)
    in
    let last : Judgement = record whole { kind = deleted_kind whole.poisoned js; ok = after.state.known } in (
      last,
      a_deletion after.state.known is judged (nulls_allowed before.patterns.now (in_closure c)) refl taken,
      record {
        kind = deleted.kind ∙ ap (λ b. deleted_kind b js) ready.ends.poisoned;
        root = deleted_root whole.poisoned js ready.roots;
        ends = subst (λ e. HasEnds before.state.scopes e last) (sym deleted.same) (ends_of before.state.scopes arguments.ends whole last ready.ends refl refl refl refl);
        gathered = gathered_of before after (record whole { ok = after.state.known }) last (gathered_moved before now after whole ready.gathered deleted.moved) refl refl refl refl;
      },
    )

-- ---- `exists`

pub existence_judged : (name : List ℕ) (s span : Span) (bang : Bool) (gs : Args) (c : Closure) (arguments : Arguments) (now : Checker) (finding : Finding) → is_exists name ≡ true → IsScalar tag.Bool finding.kind → finding.ends ≡ arguments.ends
    → IsBoundCallAs callee.Existence span (call name s bang gs c) bang gs c arguments now now finding
existence_judged name s span bang gs c arguments now finding is scalar same = λ before known js j alive judged ready.
    let whole = with_call_codes callee.Existence span gs c js j in
    let last : Judgement = record whole { kind = finding.kind } in (
      last,
      an_existence finding.kind is judged (nulls_allowed before.patterns.now (in_closure c)) refl scalar,
      record {
        kind = refl;
        root = scalar_root tag.Bool finding.kind scalar refl;
        ends = subst (λ e. HasEnds before.state.scopes e last) (sym same) (ends_of before.state.scopes arguments.ends whole last ready.ends refl refl refl refl);
        gathered = gathered_of before now whole last ready.gathered refl refl refl refl;
      },
    )
