-- The call of a function that takes a closure, behind its argument and behind the runs of its closure.
use Rattle.std.proofs.Common.{◌≡◌, ℕ, Bool, true, List, [], ◌∷◌, Option, Some, All, refl, sym, ap, ap₂, ◌∙◌, subst, append-nil}
use Rattle.std.proofs.Math.Bool.{and-false, or-false}
use Rattle.std.proofs.lemmas.List.Elements.{All-cons, All-nil}
use Rattle.vrl_value.specs.declared.value.Tag.TheVariants as tag
use Rattle.vrl_diag.specs.declared.diagnostic.Diagnostic.{Diagnostic}
use Rattle.vrl_diag.specs.declared.diagnostic.Span.{Span}
use Rattle.vrl_builtin.specs.declared.tags.Tags.{Tags}
use Rattle.vrl_syntax.specs.Calls.{for_names, form_named, is_closure_form}
use Rattle.vrl_syntax.specs.ErrorAssignments.{in_closure}
use Rattle.vrl_syntax.specs.Tree.{Args, Closure, Exprs, call, closure}
use Rattle.vrl_syntax.specs.declared.call_form.CallForm.{CallForm}
use Rattle.vrl_syntax.specs.declared.call_form.CallForm.TheVariants as form
use Rattle.vrl_syntax.specs.declared.tree.Closure.{Closure as CodeClosure}
use Rattle.vrl_kind.specs.Canonical.{any_kind, never_kind}
use Rattle.vrl_kind.specs.KindTree.{KindTree}
use Rattle.vrl_state.specs.States.{IsCutOf, IsPresent, IsRootKind, RootMap, Scope}
use Rattle.vrl_binding.specs.Binding.{collections}
use Rattle.vrl_judge.specs.Closures.{call_at, of_body}
use Rattle.vrl_judge.specs.Judging.{known_on, way, AreEnds, HasEnds, HasGathered, HasJudged, IsReported}
use Rattle.vrl_judge.specs.Rules.{at, banged, gives, has_others, if_state, when, with_codes, Argument, Judgement, Loop}
use Rattle.vrl_judge.specs.declared.checker.Checker.{Checker}
use Rattle.vrl_judge.specs.declared.ends.Ends.{Ends}
use Rattle.vrl_judge.specs.declared.finding.Finding.{Finding}
use Rattle.vrl_judge.proofs.Gathering.{part_then}
use Rattle.vrl_judge.proofs.Joining.{join_of, known_way}
use Rattle.vrl_judge.proofs.Parts.{behind_with, ends_of, ends_or_fail, gathered_of, reported_ends, reported_gathered, reported_judged}
use Rattle.vrl_judge.proofs.RootKinds.{any_root}
use Rattle.vrl_check.specs.Calling.{AreTold, HasArguments}
use Rattle.vrl_check.specs.Iterating.{body_in, closure_items, closure_names, closure_span, AreNameKinds, AreRuns, IsCollection, IsIterated, IsMadeOf}
use Rattle.vrl_check.specs.Judgement.{a_closure_call, a_wrong_closure_call, body_of, of_closure_call, passing_closure, run_through, Gives, IsCutDown, JudgesArguments, JudgesRuns}
use Rattle.vrl_check.specs.OpenRules.{language_rules}
use Rattle.vrl_check.specs.Walking.{nulls}
use Rattle.vrl_check.specs.declared.calls.Arguments.{Arguments}
use Rattle.vrl_check.specs.declared.iteration.Collection.{Collection}
use Rattle.vrl_check.specs.declared.iteration.Run.{Run}
use Rattle.vrl_check.proofs.Passed.{nulls_allowed}

-- ---- kinds

-- each of a closure's names has a root's kind
pub names_roots : (f : CallForm) (key value : KindTree) → IsRootKind key → IsRootKind value → All IsRootKind (for_names f key value)
names_roots form.ForEach key value k v = All-cons IsRootKind key (value ∷ []) k (All-cons IsRootKind value [] v (All-nil IsRootKind))
names_roots form.Filter key value k v = All-cons IsRootKind key (value ∷ []) k (All-cons IsRootKind value [] v (All-nil IsRootKind))
names_roots form.MapValues key value k v = All-cons IsRootKind value [] v (All-nil IsRootKind)
names_roots form.MapKeys key value k v = All-cons IsRootKind key [] k (All-nil IsRootKind)
names_roots form.Del key value k v = All-nil IsRootKind
names_roots form.Exists key value k v = All-nil IsRootKind

-- a collection is there
cut_present : (T : Tags) (K L : KindTree) → IsCutDown T K L → IsPresent L
cut_present T K L cut = cut.tags [] tag.Absent ∙ and-false _

-- what is taken of an argument
pub collection_taken : (f : CallForm) (K : KindTree) (now : Checker) (arguments : Arguments) (T : Tags) (first second whole : KindTree) (others : Bool) (taken : Collection) → T ≡ collections f → first ≡ whole → second ≡ whole → whole ≡ K → others ≡ has_others T first
    → taken.fail ≡ way now.state.scopes (if_state others now.state.known) → IsCutDown T second taken.kind → taken.ends ≡ arguments.ends → IsCollection f K now arguments taken
collection_taken f K now arguments T first second whole others taken tags one two same has fail cut ends = record {
  kind = subst (λ t. IsCutDown t K taken.kind) tags (subst (λ k. IsCutDown T k taken.kind) (two ∙ same) cut);
  fail = fail ∙ ap (λ b. way now.state.scopes (if_state b now.state.known)) (has ∙ ap₂ has_others tags (one ∙ same));
  ends = ends;
}

-- ---- codes that don't stand

no_codes_ends : (scopes : List Scope) (ends : Ends) (ds : List Diagnostic) (j : Judgement) → ds ≡ [] → HasEnds scopes ends (with_codes ds j) → HasEnds scopes ends j
no_codes_ends scopes ends ds j none has =
    ends_of scopes ends (with_codes [] j) j (subst (λ es. HasEnds scopes ends (with_codes es j)) none has) refl refl refl (or-false j.poisoned)

no_codes_gathered : (before after : Checker) (ds : List Diagnostic) (j : Judgement) → ds ≡ [] → HasGathered before after (with_codes ds j) → HasGathered before after j
no_codes_gathered before after ds j none has =
    gathered_of before after (with_codes [] j) j (subst (λ es. HasGathered before after (with_codes es j)) none has) refl (append-nil j.codes) refl refl

pub uncoded : (before now after : Checker) (gs : Args) (arguments next : Arguments) (js : List Argument) (j : Judgement) (ds : List Diagnostic) → HasArguments before now gs arguments js j → IsReported ds now after arguments.ends next.ends → next.parts ≡ arguments.parts → ds ≡ []
    → HasArguments before after gs next js j
uncoded before now after gs arguments next js j ds has reported same none = record {
  told = subst (λ ps. AreTold gs ps.items js) (sym same) has.told;
  roots = has.roots;
  ends = no_codes_ends before.state.scopes next.ends ds j none (reported_ends before.state.scopes ds now after arguments.ends next.ends j reported has.ends);
  gathered = no_codes_gathered before after ds j none (reported_gathered ds before now after arguments.ends next.ends j reported has.gathered);
}

-- ---- behind the runs

runs_at : (f : CallForm) (c : CodeClosure) (Ks : List KindTree) (runs : Bool) (before now : Checker) (C : KindTree) (names : AreNameKinds f C Ks runs) (loop : Loop) (k : Judgement) (known : Option RootMap) → now.patterns ≡ before.patterns → now.state.known ≡ known
    → JudgesRuns (language_rules now.patterns.now) (body_in c Ks runs) now.state.known loop k → JudgesRuns (language_rules before.patterns.now) (body_of f (closure_names c) (closure_items c) names.key names.value) known loop k
runs_at f c Ks runs before now C names loop k known patterns here judges =
    let same : body_in c Ks runs ≡ body_of f (closure_names c) (closure_items c) names.key names.value = λ i. record { names = closure_names c; kinds = names.names i; items = closure_items c; runs = names.possible i } in
    subst (λ s. JudgesRuns (language_rules before.patterns.now) (body_of f (closure_names c) (closure_items c) names.key names.value) s loop k) here
    (subst (λ b. JudgesRuns (language_rules before.patterns.now) b now.state.known loop k) same (subst (λ ps. JudgesRuns (language_rules ps.now) (body_in c Ks runs) now.state.known loop k) patterns judges))

pub iterated_judged : (f : CallForm) (c : CodeClosure) (Ks : List KindTree) (runs : Bool) (before now mid after : Checker) (arguments : Arguments) (taken : Collection) (run : Run) (finding : Finding) (gs : Args) (g : Argument) (j : Judgement)
    → HasArguments before now gs arguments (g ∷ []) j → IsCollection f g.judged.kind now arguments taken → AreNameKinds f taken.kind Ks runs → AreRuns f (body_in c Ks runs) now mid run → IsMadeOf f (closure_span c) taken run mid after finding
    → IsIterated f (closure_names c) (closure_items c) (closure_span c) g j before after finding
iterated_judged f c Ks runs before now mid after arguments taken run finding gs g j has collection names are made =
    let scopes = before.state.scopes in
    let loop = are.loop in
    let k = are.k in
    let p = run_through loop k in
    let same : mid.state.scopes ≡ scopes = are.judged.gathered.scopes ∙ has.gathered.scopes in
    let ends = subst (λ e. HasEnds scopes e j) (sym collection.ends) has.ends in
    let all = part_then before now mid taken.ends made.both run.finding j p ends has.gathered are.judged made.joined (subst (λ s. AreEnds s made.both) same made.stand) in
    let whole = behind_with made.both j p in
    let fail = known_on made.failing.fail in
    let last : Judgement = record whole { kind = finding.kind; fail = fail } in
    let others : known_on taken.fail ≡ if_state (has_others (collections f) g.judged.kind) j.ok =
    ap known_on collection.fail ∙ known_way now.state.scopes (if_state (has_others (collections f) g.judged.kind) now.state.known) ∙ ap (if_state (has_others (collections f) g.judged.kind)) has.gathered.ok
    in
    let failing = ends_or_fail scopes made.both made.failing whole all.ends made.or_fail.others (subst (λ s. AreEnds s made.failing) same made.are) in
    let made_judged : HasJudged before mid (record { kind = finding.kind; ends = made.failing }) last = record {
      kind = refl;
      root = made.root (cut_present (collections f) g.judged.kind taken.kind collection.kind);
      ends = ends_of scopes made.failing (record whole { fail = fail }) last failing refl refl refl refl;
      gathered = gathered_of before mid whole last all.gathered refl refl refl refl;
    } in
    record {
      C = taken.kind;
      key = names.key;
      value = names.value;
      loop = loop;
      k = k;
      whole = whole;
      K = finding.kind;
      fail = fail;
      collection = collection.kind;
      key_kind = names.key_kind;
      value_kind = names.value_kind;
      runs = runs_at f c Ks runs before now taken.kind names loop k j.ok has.gathered.patterns has.gathered.ok are.runs;
      in_order = all.in_order;
      kind = subst (λ K. IsCutOf (call_at f taken.kind K) finding.kind) are.judged.kind made.kind;
      fails = join_of (known_on made.both.fail) (known_on made.both.fail) (known_on taken.fail) (if_state (has_others (collections f) g.judged.kind) j.ok) fail refl others made.or_fail.fail;
      judged = subst (λ b. HasJudged before after finding (with_codes (when b (at 1015 (closure_span c))) last)) are.wrong
          (reported_judged (when run.wrong (at 1015 (closure_span c))) before mid after (record { kind = finding.kind; ends = made.failing }) finding last made.reported refl made_judged);
    }

-- ---- the whole call

pub closure_call_judged : (f : CallForm) (name : List ℕ) (s span : Span) (bang : Bool) (gs : Args) (names : List (List ℕ)) (es : Exprs) (t : Span) (before now bound after last : Checker) (known : RootMap) (arguments next : Arguments) (made finding : Finding) (js : List Argument) (j : Judgement)
    → form_named name ≡ Some f → is_closure_form (Some f) ≡ true → JudgesArguments (language_rules before.patterns.now) before.inside (gives never_kind (Some known)) gs js j → HasArguments before now gs arguments js j
    → IsReported (of_closure_call f span gs (closure names es t) js) now bound arguments.ends next.ends → next.parts ≡ arguments.parts → of_closure_call f span gs (closure names es t) js ≡ []
    → ((g : Argument) × (js ≡ g ∷ []))
    → ((g : Argument) → HasArguments before bound gs next (g ∷ []) j → IsIterated f names es t g j before after made)
    → ((k : Judgement) → HasJudged before after made k → HasJudged before last finding (banged span bang k))
    → (k : Judgement) × Gives (language_rules before.patterns.now) before.inside known span (call name s bang gs (closure names es t)) k × HasJudged before last finding k
closure_call_judged f name s span bang gs names es t before now bound after last known arguments next made finding js j named four judged has reported same none one iterates bangs =
    let g = one.0 in
    let here = subst (λ gs'. HasArguments before bound gs next gs' j) one.1 (uncoded before now bound gs arguments next js j (of_closure_call f span gs (closure names es t) js) has reported same none) in
    let it = iterates g here in
    let k = with_codes (of_body f t it.k) (record it.whole { kind = it.K; fail = it.fail }) in (
      banged span bang k,
      a_closure_call f it.C it.key it.value it.loop it.K it.fail named four (subst (λ gs'. JudgesArguments (language_rules before.patterns.now) before.inside (gives never_kind (Some known)) gs gs' j) one.1 judged)
          (subst (λ gs'. of_closure_call f span gs (closure names es t) gs' ≡ []) one.1 none) it.collection it.key_kind it.value_kind it.runs it.in_order it.kind it.fails,
      bangs k it.judged,
    )

pub wrong_call_judged : (f : CallForm) (name : List ℕ) (s span : Span) (bang : Bool) (gs : Args) (c : Closure) (before now bound last : Checker) (known : RootMap) (arguments next : Arguments) (finding : Finding) (js : List Argument) (j : Judgement)
    → form_named name ≡ Some f → is_closure_form (Some f) ≡ true → JudgesArguments (language_rules before.patterns.now) before.inside (gives never_kind (Some known)) gs js j → HasArguments before now gs arguments js j
    → IsReported (of_closure_call f span gs c js) now bound arguments.ends next.ends
    → ((first : Diagnostic) × (others : List Diagnostic) × (of_closure_call f span gs c js ≡ first ∷ others))
    → ((k : Judgement) → HasEnds before.state.scopes next.ends k → HasGathered before bound k → HasJudged before last finding (banged span bang (passing_closure c (nulls (in_closure c)) (record k { kind = any_kind }))))
    → (k : Judgement) × Gives (language_rules before.patterns.now) before.inside known span (call name s bang gs c) k × HasJudged before last finding k
wrong_call_judged f name s span bang gs c before now bound last known arguments next finding js j named four judged has reported some passes =
    let ds = of_closure_call f span gs c js in
    let ends = reported_ends before.state.scopes ds now bound arguments.ends next.ends j reported has.ends in
    let gathered = reported_gathered ds before now bound arguments.ends next.ends j reported has.gathered in
    let all : HasJudged before last finding (banged span bang (with_codes ds (passing_closure c (nulls (in_closure c)) (record j { kind = any_kind })))) = passes (with_codes ds j) ends gathered in (
      banged span bang (with_codes (some.0 ∷ some.1) (passing_closure c (nulls (in_closure c)) (record j { kind = any_kind }))),
      a_wrong_closure_call f some.0 some.1 named four judged (nulls_allowed before.patterns.now (in_closure c)) some.2,
      subst (λ es. HasJudged before last finding (banged span bang (with_codes es (passing_closure c (nulls (in_closure c)) (record j { kind = any_kind }))))) some.2 all,
    )

-- a call whose closure is passed by
pub passed_judged : (c : Closure) (before passed : Checker) (K : KindTree) (ends : Ends) (j : Judgement) → K ≡ any_kind → HasEnds before.state.scopes ends j → HasGathered before passed (passing_closure c (nulls (in_closure c)) j)
    → HasJudged before passed (record { kind = K; ends = ends }) (passing_closure c (nulls (in_closure c)) (record j { kind = any_kind }))
passed_judged c before passed K ends j any has gathered = record {
  kind = any;
  root = any_root;
  ends = ends_of before.state.scopes ends j (passing_closure c (nulls (in_closure c)) (record j { kind = any_kind })) has refl refl refl refl;
  gathered = gathered_of before passed (passing_closure c (nulls (in_closure c)) j) (passing_closure c (nulls (in_closure c)) (record j { kind = any_kind })) gathered refl refl refl refl;
}
