-- What holds of every judgement of a script: it has each empty value and each closure, and it is
-- poisoned exactly where an error code stands in it. Where the rules leave nothing open there is at
-- most one, and the third try at a closure is stable. Where they allow no tries there is at most
-- one with the same empty values and the same states of closures.
use Rattle.std.specs.Prelude.{◌≡◌, Bool, true, false, ℕ, List, ◌∷◌, All, Option, Some, None, IfSome, length, ⊤}
use Rattle.std.specs.List.{list_any}
use Rattle.vrl_diag.specs.Refusal.{is_error}
use Rattle.vrl_diag.specs.declared.diagnostic.Span.{Span}
use Rattle.vrl_kind.specs.KindTree.{KindTree}
use Rattle.vrl_state.specs.States.{HasRootKinds, IsEither, IsForgotten, IsJoined, IsKnownWithin, IsRootKind, RootMap}
use Rattle.vrl_syntax.specs.ErrorAssignments.{in_expr, in_exprs}
use Rattle.vrl_syntax.specs.Tree.{Expr, Exprs, Form}
use Rattle.vrl_syntax.specs.Written.{exprs_write}
use Rattle.vrl_judge.specs.Closures.{ClosureBody}
use Rattle.vrl_judge.specs.Rules.{Judgement, Loop, if_state}
use Rattle.vrl_check.specs.Judgement.{Gives, Judges, JudgesAll, JudgesBlock, JudgesBody, JudgesItems, JudgesScript}
use Rattle.vrl_check.specs.Loops.{closures_in_expr, closures_in_exprs}
use Rattle.vrl_check.specs.OpenRules.{each_holds, language_rules, only_what_holds}
use Rattle.vrl_check.specs.OpenRules.{GiveWhatHolds, LeaveNothingOpen, OpenRules}

-- closures that are judged in both lists have the same state in them
abbrev pub HaveOneState : List (Option Loop) → List (Option Loop) → Type 0
HaveOneState (Some loop ∷ ls) (Some other ∷ ms) = (loop.known ≡ other.known) × HaveOneState ls ms
HaveOneState (Some loop ∷ ls) (None ∷ ms) = HaveOneState ls ms
HaveOneState (None ∷ ls) (other ∷ ms) = HaveOneState ls ms
HaveOneState ls ms = ⊤

pub record JudgementsAreDetermined : Type 0 where
  -- two judgements of a script over events of one kind are the same, where the rules leave nothing
  -- open
  pub script : (rules : OpenRules) → LeaveNothingOpen rules → (start : KindTree) (items : Exprs) (j k : Judgement)
      → JudgesScript rules start items j → JudgesScript rules start items k → j ≡ k
  -- where they allow no tries, two that have the same empty values, and the same state of each
  -- closure that both judge
  pub given : (rules : OpenRules) → rules.tries ≡ false → (start : KindTree) (items : Exprs) (j k : Judgement)
      → JudgesScript rules start items j → JudgesScript rules start items k
      → j.empties ≡ k.empties → HaveOneState j.loops k.loops
      → j ≡ k
  -- and what it may end with is: the kind that joins two, and what is known behind two ways
  pub kind : (K L M N : KindTree) → IsEither K L M → IsEither K L N → M ≡ N
  pub join : (a b c d : Option RootMap) → IsJoined a b c → IsJoined a b d → c ≡ d
  -- as those of the language do
  pub language : (sources : List (List ℕ)) → LeaveNothingOpen (language_rules sources)

-- a judgement has as many empty values as there are error assignments in what is judged: an
-- expression, a block, or a script
pub record EmptiesAreCounted : Type 0 where
  pub expression : (rules : OpenRules) (inside : Bool) (known : Option RootMap) (e : Expr) (j : Judgement)
      → Judges rules inside known e j → length j.empties ≡ in_expr e
  pub block : (rules : OpenRules) (inside : Bool) (known : Option RootMap) (es : Exprs) (j : Judgement)
      → JudgesBlock rules inside known es j → length j.empties ≡ in_exprs es
  pub script : (rules : OpenRules) (start : KindTree) (items : Exprs) (j : Judgement)
      → JudgesScript rules start items j → length j.empties ≡ in_exprs items

-- and as many closures
pub record LoopsAreCounted : Type 0 where
  pub expression : (rules : OpenRules) (inside : Bool) (known : Option RootMap) (e : Expr) (j : Judgement)
      → Judges rules inside known e j → length j.loops ≡ closures_in_expr e
  pub block : (rules : OpenRules) (inside : Bool) (known : Option RootMap) (es : Exprs) (j : Judgement)
      → JudgesBlock rules inside known es j → length j.loops ≡ closures_in_exprs es
  pub script : (rules : OpenRules) (start : KindTree) (items : Exprs) (j : Judgement)
      → JudgesScript rules start items j → length j.loops ≡ closures_in_exprs items

-- it is poisoned exactly where one of its codes is an error
abbrev pub HasCause : Judgement → Type 0
HasCause j = j.poisoned ≡ list_any is_error j.codes

-- each judgement of an expression, of a form, of a block and of a script is so, and of a list of
-- expressions or of items behind what is so
pub record PoisonsHaveCauses : Type 0 where
  pub expression : (rules : OpenRules) (inside : Bool) (known : Option RootMap) (e : Expr) (j : Judgement)
      → Judges rules inside known e j → HasCause j
  pub form : (rules : OpenRules) (inside : Bool) (known : RootMap) (span : Span) (f : Form) (j : Judgement)
      → Gives rules inside known span f j → HasCause j
  pub all : (rules : OpenRules) (inside : Bool) (before after : Judgement) (es : Exprs) (Ks : List KindTree)
      → JudgesAll rules inside before es Ks after → HasCause before → HasCause after
  pub block : (rules : OpenRules) (inside : Bool) (known : Option RootMap) (es : Exprs) (j : Judgement)
      → JudgesBlock rules inside known es j → HasCause j
  pub items : (rules : OpenRules) (before after : Judgement) (es : Exprs) → JudgesItems rules before es after
      → HasCause before → HasCause after
  pub script : (rules : OpenRules) (start : KindTree) (items : Exprs) (j : Judgement)
      → JudgesScript rules start items j → HasCause j
  pub body : (rules : OpenRules) (b : ClosureBody) (known : Option RootMap) (j : Judgement)
      → JudgesBody rules b known j → HasCause j

-- What is known behind a body is within what is known before it, where of each root that the body
-- writes nothing is known but that it is there. So the third try at a closure always is stable. A
-- closure in the body has no other state than one that a try gave.
abbrev pub ThirdTriesAreStable : Type 0
ThirdTriesAreStable = (rules : OpenRules) → ((loop : Loop) → rules.given loop ≡ false)
    → (b : ClosureBody) (before known : Option RootMap) (j : Judgement) → All IsRootKind b.kinds
    → IfSome known HasRootKinds → IsForgotten (exprs_write b.items) before known
    → JudgesBody rules b (if_state b.runs known) j → IsKnownWithin j.ok known

-- A judgement without tries, in which the state of each closure holds, is one by rules that allow
-- such states alone; so it is sound. With tries it needn't be, since the states of closures in a
-- try that wasn't stable stand nowhere in the judgement.
pub record StatesThatHoldCanBeGiven : Type 0 where
  pub script : (rules : OpenRules) → rules.tries ≡ false → (start : KindTree) (items : Exprs) (j : Judgement)
      → JudgesScript rules start items j → each_holds j.loops ≡ true
      → JudgesScript (only_what_holds rules) start items j
  pub given : (rules : OpenRules) → GiveWhatHolds (only_what_holds rules)
