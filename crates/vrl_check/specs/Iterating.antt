-- What the walk gives of a closure: of its body once, of a try at it, of all tries and runs, and of
-- the call behind its argument.
use Rattle.std.specs.Prelude.{◌≡◌, ℕ, Bool, List, [], ◌∷◌, length, All, Option}
use Rattle.vrl_diag.specs.declared.diagnostic.Span.{Span}
use Rattle.vrl_syntax.specs.Tree.{Args, Exprs}
use Rattle.vrl_syntax.specs.View.{exprs_of}
use Rattle.vrl_syntax.specs.Written.{exprs_write}
use Rattle.vrl_syntax.specs.declared.call_form.CallForm.{CallForm}
use Rattle.vrl_syntax.specs.declared.tree.Call.{Call as CodeCall, out-Call}
use Rattle.vrl_syntax.specs.declared.tree.Closure.{Closure as CodeClosure, out-Closure}
use Rattle.vrl_kind.specs.KindTree.{KindTree}
use Rattle.vrl_kind.specs.PartSets.{parts_at}
use Rattle.vrl_state.specs.States.{IsCutOf, IsForgotten, IsJoined, IsKnownWithin, IsPresent, IsRootKind, RootMap, State}
use Rattle.vrl_syntax.specs.Calls.{for_names}
use Rattle.vrl_binding.specs.Binding.{collections}
use Rattle.vrl_judge.specs.Branching.{IsOrFail}
use Rattle.vrl_judge.specs.Closures.{call_at, first_try, is_possible, is_wrong_body, key_tags, of_body, second_try, third_try, ClosureBody, IsNextTry, IsTakenBack, Try}
use Rattle.vrl_judge.specs.Judging.{branches_known, known_on, way, AreEnds, AreJoinedEnds, HasJudged, IsReported}
use Rattle.vrl_judge.specs.Rules.{at, has_others, if_state, scalars_at, when, with_codes, Argument, IsThen, Judgement, Loop}
use Rattle.vrl_judge.specs.declared.checker.Checker.{Checker}
use Rattle.vrl_judge.specs.declared.closures.Held.{Held}
use Rattle.vrl_judge.specs.declared.ends.Ends.{Ends}
use Rattle.vrl_judge.specs.declared.finding.Finding.{Finding}
use Rattle.vrl_check.specs.Calling.{HasArguments}
use Rattle.vrl_check.specs.Judgement.{body_of, run_through, IsCutDown, JudgesBody, JudgesRuns, JudgesTries}
use Rattle.vrl_check.specs.OpenRules.{language_rules}
use Rattle.vrl_check.specs.Walking.{ItemsCanBeJudged}
use Rattle.vrl_check.specs.declared.calls.Arguments.{Arguments}
use Rattle.vrl_check.specs.declared.iteration.Collection.{Collection}
use Rattle.vrl_check.specs.declared.iteration.Run.{Run}
use Rattle.vrl_check.specs.declared.iteration.Tried.{Tried}
use Rattle.vrl_check.specs.declared.iteration.Tried.TheVariants as tried

-- ---- a closure as it stands in memory

abbrev pub closure_at : CodeCall → Option CodeClosure
closure_at c = (out-Call c).closure

-- the names between its bars, the items of its block, and where that stands
abbrev pub closure_names : CodeClosure → List (List ℕ)
closure_names c = (out-Closure c).names

abbrev pub closure_items : CodeClosure → Exprs
closure_items c = exprs_of (out-Closure c).body

abbrev pub closure_span : CodeClosure → Span
closure_span c = (out-Closure c).span

-- its body, with its names of these kinds
abbrev pub body_in : CodeClosure → List KindTree → Bool → ClosureBody
body_in c Ks runs = record { names = closure_names c; kinds = Ks; items = closure_items c; runs = runs }

-- that can be judged
pub record BodyCanBeJudged (sources : List (List ℕ)) (c : CodeClosure) (Ks : List KindTree) : Type 0 where
  pub items : ItemsCanBeJudged sources (closure_items c)
  pub kinds : All IsRootKind Ks
  pub count : length (closure_names c) ≡ length Ks

-- ---- its runs

-- the body once
abbrev pub IsBodyAs : ClosureBody → Checker → Checker → Finding → Type 0
IsBodyAs b before after finding = (j : Judgement)
    × JudgesBody (language_rules before.patterns.now) b before.state.known j × HasJudged before after finding j

-- as much was gathered at both places, in the same scopes; another state may be known
pub record StandAlike (before after : Checker) : Type 0 where
  pub scopes : after.state.scopes ≡ before.state.scopes
  pub diagnostics : after.diagnostics.items ≡ before.diagnostics.items
  pub empties : after.empties.items ≡ before.empties.items
  pub loops : branches_known after.loops.items ≡ branches_known before.loops.items
  pub patterns : after.patterns ≡ before.patterns
  pub inside : after.inside ≡ before.inside

-- a try is stable: what is known behind the body is within what is known here, which is known again
pub record IsStable (f : CallForm) (b : ClosureBody) (before after : Checker) (run : Run) : Type 0 where
  pub j : Judgement
  pub judges : JudgesBody (language_rules before.patterns.now) b (if_state b.runs before.state.known) j
  pub stable : IsKnownWithin j.ok before.state.known
  pub judged : HasJudged before after run.finding (record j { ok = before.state.known })
  pub wrong : run.wrong ≡ is_wrong_body f j

-- it isn't: all that was gathered is let go, and what is known behind the body is told
pub record IsUnstable (b : ClosureBody) (before after : Checker) (behind : State) : Type 0 where
  pub j : Judgement
  pub judges : JudgesBody (language_rules before.patterns.now) b (if_state b.runs before.state.known) j
  pub unstable : ¬ IsKnownWithin j.ok before.state.known
  pub alike : StandAlike before after
  pub known : after.state.known ≡ before.state.known
  pub behind_known : behind.known ≡ j.ok
  pub behind_scopes : behind.scopes ≡ before.state.scopes

abbrev pub IsTriedAs : CallForm → ClosureBody → Checker → Checker → Tried → Type 0
IsTriedAs f b before after (tried.Stable run) = IsStable f b before after run
IsTriedAs f b before after (tried.Unstable behind) = IsUnstable b before after behind

-- what is made of a try whose body was judged last, from a state that was kept
pub record IsTaken (f : CallForm) (start : State) (part : Finding) (now after : Checker) (run : Run) : Type 0 where
  pub within : IsKnownWithin now.state.known start.known
  pub back : after ≡ record now { state = start }
  pub finding : run.finding ≡ part
  pub wrong : (before : Checker) (j : Judgement) → HasJudged before now part j → run.wrong ≡ is_wrong_body f j

pub record IsLetGo (held : Held) (start : State) (now after : Checker) (behind : State) : Type 0 where
  pub not_within : ¬ IsKnownWithin now.state.known start.known
  pub back : IsTakenBack held (record now { state = start }) after
  pub left : behind ≡ now.state

abbrev pub IsTriedFrom : CallForm → Held → State → Finding → Checker → Checker → Tried → Type 0
IsTriedFrom f held start part now after (tried.Stable run) = IsTaken f start part now after run
IsTriedFrom f held start part now after (tried.Unstable behind) = IsLetGo held start now after behind

-- the tries from one on, at which this is known
pub record AreTries (f : CallForm) (b : ClosureBody) (try : Try) (known : Option RootMap) (before after : Checker)
    (run : Run) : Type 0 where
  pub last : Option RootMap
  pub k : Judgement
  pub tries : JudgesTries (language_rules before.patterns.now) b try known last k
  pub judged : HasJudged before after run.finding (record k { ok = last })
  pub wrong : run.wrong ≡ is_wrong_body f k

-- the same behind a first try that isn't stable, behind whose body this is known, and behind a
-- second
pub record AreTriesBehind (f : CallForm) (b : ClosureBody) (behind : Option RootMap) (before after : Checker)
    (run : Run) : Type 0 where
  pub next : Option RootMap
  pub is_next : IsNextTry first_try b before.state.known behind next
  pub others : AreTries f b second_try next before after run

pub record IsLastTry (f : CallForm) (b : ClosureBody) (before after : Checker) (run : Run) : Type 0 where
  pub next : Option RootMap
  pub is_next : IsForgotten (exprs_write b.items) before.state.known next
  pub last : AreTries f b third_try next before after run

-- all runs, which stand at this place among the closures
pub record AreRuns (f : CallForm) (b : ClosureBody) (before after : Checker) (run : Run) : Type 0 where
  pub loop : Loop
  pub k : Judgement
  pub runs : JudgesRuns (language_rules before.patterns.now) b before.state.known loop k
  pub judged : HasJudged before after run.finding (run_through loop k)
  pub wrong : run.wrong ≡ is_wrong_body f k

-- ---- the call

-- the kinds of a closure's names, by the collection's, and whether it may have a part
pub record AreNameKinds (f : CallForm) (C : KindTree) (Ks : List KindTree) (runs : Bool) : Type 0 where
  pub key : KindTree
  pub value : KindTree
  pub key_kind : IsCutOf (scalars_at (key_tags C)) key
  pub value_kind : IsCutOf (parts_at C) value
  pub key_root : IsRootKind key
  pub value_root : IsRootKind value
  pub names : Ks ≡ for_names f key value
  pub possible : runs ≡ is_possible value

-- what is taken of an argument of this kind
pub record IsCollection (f : CallForm) (K : KindTree) (now : Checker) (arguments : Arguments)
    (taken : Collection) : Type 0 where
  pub kind : IsCutDown (collections f) K taken.kind
  pub fail : taken.fail ≡ way now.state.scopes (if_state (has_others (collections f) K) now.state.known)
  pub ends : taken.ends ≡ arguments.ends

-- what a call makes of it behind the runs of its closure, but for its `!`
pub record IsMadeOf (f : CallForm) (block : Span) (taken : Collection) (run : Run) (before after : Checker)
    (finding : Finding) : Type 0 where
  pub kind : IsCutOf (call_at f taken.kind run.finding.kind) finding.kind
  pub root : IsPresent taken.kind → IsRootKind finding.kind
  pub both : Ends
  pub joined : AreJoinedEnds taken.ends run.finding.ends both
  pub stand : AreEnds before.state.scopes both
  pub failing : Ends
  pub or_fail : IsOrFail both (known_on taken.fail) failing
  pub are : AreEnds before.state.scopes failing
  pub reported : IsReported (when run.wrong (at 1015 block)) before after failing finding.ends

-- the call, whose argument was judged to be g, as `a_closure_call` asks for it
pub record IsIterated (f : CallForm) (names : List (List ℕ)) (es : Exprs) (block : Span) (g : Argument) (j : Judgement)
    (before after : Checker) (finding : Finding) : Type 0 where
  pub C : KindTree
  pub key : KindTree
  pub value : KindTree
  pub loop : Loop
  pub k : Judgement
  pub whole : Judgement
  pub K : KindTree
  pub fail : Option RootMap
  pub collection : IsCutDown (collections f) g.judged.kind C
  pub key_kind : IsCutOf (scalars_at (key_tags C)) key
  pub value_kind : IsCutOf (parts_at C) value
  pub runs : JudgesRuns (language_rules before.patterns.now) (body_of f names es key value) j.ok loop k
  pub in_order : IsThen j (run_through loop k) whole
  pub kind : IsCutOf (call_at f C k.kind) K
  pub fails : IsJoined whole.fail (if_state (has_others (collections f) g.judged.kind) j.ok) fail
  pub judged : HasJudged before after finding (with_codes (of_body f block k) (record whole { kind = K; fail = fail }))

abbrev pub IsIteratedAs : CallForm → CodeClosure → Arguments → Checker → Checker → Finding → Type 0
IsIteratedAs f c arguments now after finding = (before : Checker) (gs : Args) (g : Argument) (j : Judgement)
    → HasArguments before now gs arguments (g ∷ []) j
    → IsIterated f (closure_names c) (closure_items c) (closure_span c) g j before after finding
