-- What is known between the parts of a branching form, which the walk judges one by one, and behind
-- the last one.
use Rattle.std.specs.Prelude.{◌≡◌, ◌||◌, ◌++◌, false, List, [], Option, None, IfSome}
use Rattle.std.specs.List.{list_any}
use Rattle.vrl_diag.specs.declared.diagnostic.Diagnostic.{Diagnostic}
use Rattle.vrl_diag.specs.declared.diagnostic.Span.{Span}
use Rattle.vrl_kind.specs.Canonical.{never_kind}
use Rattle.vrl_state.specs.States.{IsEither, IsJoined, RootMap, Scope, State}
use Rattle.vrl_judge.specs.Returns.{return_kind, return_state}
use Rattle.vrl_diag.specs.Refusal.{is_error}
use Rattle.vrl_judge.specs.Rules.{at, if_state, is_alive, may_be_no_truth, may_be_truth, of_predicate, settled_kind, when, IsScalar}
use Rattle.vrl_judge.specs.Judging.{known_on, no_ends, AreEnds, AreJoinedEnds, IsMoved, IsReported, IsWay}
use Rattle.vrl_judge.specs.Seen.{seen}
use Rattle.vrl_judge.specs.declared.branches.LeftSide.{LeftSide}
use Rattle.vrl_judge.specs.declared.branches.Ways.{Ways}
use Rattle.vrl_judge.specs.declared.checker.Checker.{Checker}
use Rattle.vrl_judge.specs.declared.ends.Ends.{Ends}
use Rattle.vrl_judge.specs.declared.finding.Finding.{Finding}
use Rattle.vrl_value.specs.declared.value.Tag.TheVariants as tag

-- ---- operators that may leave their right side out

-- the left side stands in these scopes
pub record StandsIn (scopes : List Scope) (left : LeftSide) : Type 0 where
  pub ends : AreEnds scopes left.part.ends
  pub beside : IfSome left.beside (λ m. m.scopes ≡ scopes)

-- the right side is judged from `start` on, and `left_out` is known where it isn't
pub record IsLeftSide (start left_out : Option RootMap) (before after : Checker) (left : LeftSide) : Type 0 where
  pub moved : IsMoved before after
  pub known : after.state.known ≡ start
  pub beside : known_on left.beside ≡ left_out
  pub stands : StandsIn before.state.scopes left

-- the ends of both sides, and what is known behind the right one or beside it
pub record AreBothSides (left : LeftSide) (right : Ends) (before after : Checker) (both : Ends) : Type 0 where
  pub moved : IsMoved before after
  pub known : IsJoined (known_on left.beside) before.state.known after.state.known
  pub ends : AreJoinedEnds left.part.ends right both
  pub are : AreEnds before.state.scopes both

-- ends with one more way to end with an error
pub record IsOrFail (old : Ends) (known : Option RootMap) (new : Ends) : Type 0 where
  pub fail : IsJoined (known_on old.fail) known (known_on new.fail)
  pub others : new ≡ record old { fail = new.fail }

-- both sides of a `&&`
pub record IsConjoined (left : LeftSide) (right : Finding) (before after : Checker) (finding : Finding) : Type 0 where
  pub moved : IsMoved before after
  pub kind : IsScalar tag.Bool finding.kind
  pub known : IsJoined (known_on left.beside) (if_state (may_be_truth right.kind) before.state.known) after.state.known
  pub both : Ends
  pub ends : AreJoinedEnds left.part.ends right.ends both
  pub or_fail : IsOrFail both (if_state (may_be_no_truth right.kind) before.state.known) finding.ends
  pub are : AreEnds before.state.scopes finding.ends

-- ---- the ways of an `if`

abbrev pub no_ways : Ways
no_ways = record { kind = never_kind; ok = None; ends = no_ends }

-- they stand in these scopes
pub record AreWays (scopes : List Scope) (ways : Ways) : Type 0 where
  pub ok : IsWay scopes ways.ok
  pub ends : AreEnds scopes ways.ends

-- a predicate, with its own codes, beside the ways before it
pub record IsPredicateBeside (span : Span) (part : Finding) (ways : Ways) (before after : Checker)
    (all : Ways) : Type 0 where
  pub predicate : Ends
  pub reported : IsReported (of_predicate span (seen part before [] [] [])) before after part.ends predicate
  pub kind : all.kind ≡ ways.kind
  pub ok : all.ok ≡ ways.ok
  pub ends : AreJoinedEnds ways.ends predicate all.ends
  pub are : AreWays before.state.scopes all

-- a block beside the ways before it, and back to the state that was marked before the block
pub record IsBlockBeside (mark : State) (block : Finding) (ways : Ways) (before after : Checker)
    (all : Ways) : Type 0 where
  pub back : after ≡ record before { state = mark }
  pub kind : IsEither ways.kind block.kind all.kind
  pub ok : IsJoined (known_on ways.ok) before.state.known (known_on all.ok)
  pub ends : AreJoinedEnds ways.ends block.ends all.ends
  pub are : AreWays before.state.scopes all

-- the last way beside the others
pub record IsLastBeside (ways : Ways) (last : Finding) (before after : Checker) (finding : Finding) : Type 0 where
  pub moved : IsMoved before after
  pub kind : IsEither ways.kind last.kind finding.kind
  pub known : IsJoined (known_on ways.ok) before.state.known after.state.known
  pub ends : AreJoinedEnds ways.ends last.ends finding.ends
  pub are : AreEnds before.state.scopes finding.ends

-- ---- ends of the script

-- It returns with the part's value, and no way leads on. In a closure it is 1004, and goes on
-- behind the part
pub record IsReturned (span : Span) (part : Finding) (before after : Checker) (finding : Finding) : Type 0 where
  pub scopes : after.state.scopes ≡ before.state.scopes
  pub known : after.state.known ≡ if_state before.inside before.state.known
  pub kind : finding.kind ≡ never_kind
  pub ret : IsJoined (return_state part.ends.ret) before.state.known (return_state finding.ends.ret)
  pub returned : IsEither (return_kind part.ends.ret) (settled_kind false (is_alive before.state.known) part.kind)
      (return_kind finding.ends.ret)
  pub diagnostics : after.diagnostics.items ≡ before.diagnostics.items ++ when before.inside (at 1004 span)
  pub empties : after.empties ≡ before.empties
  pub loops : after.loops ≡ before.loops
  pub patterns : after.patterns ≡ before.patterns
  pub inside : after.inside ≡ before.inside
  pub ends : finding.ends ≡ record part.ends
      { ret = finding.ends.ret; poisoned = part.ends.poisoned || list_any is_error (when before.inside (at 1004 span)) }
  pub are : AreEnds before.state.scopes finding.ends

-- behind the part and these codes no way leads on
pub record IsAborted (ds : List Diagnostic) (part : Finding) (before after : Checker) (finding : Finding) : Type 0 where
  pub scopes : after.state.scopes ≡ before.state.scopes
  pub known : after.state.known ≡ None
  pub diagnostics : after.diagnostics.items ≡ before.diagnostics.items ++ ds
  pub empties : after.empties ≡ before.empties
  pub loops : after.loops ≡ before.loops
  pub patterns : after.patterns ≡ before.patterns
  pub inside : after.inside ≡ before.inside
  pub kind : finding.kind ≡ never_kind
  pub ends : finding.ends ≡ record part.ends { poisoned = part.ends.poisoned || list_any is_error ds }
