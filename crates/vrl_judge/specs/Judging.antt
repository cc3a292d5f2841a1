-- What was judged of a part and gathered in it, told as a judgement, and what each plain form makes
-- of such parts.
use Rattle.std.specs.Prelude.{◌≡◌, ◌||◌, not, Bool, false, List, ◌∷◌, ◌++◌, map, Option, Some, None, is_some, option_map}
use Rattle.std.specs.List.{list_any}
use Rattle.vrl_value.specs.declared.value.Tag.{Tag}
use Rattle.vrl_path.specs.declared.path.Step.{Step}
use Rattle.vrl_diag.specs.declared.diagnostic.Diagnostic.{Diagnostic}
use Rattle.vrl_diag.specs.declared.diagnostic.Span.{Span}
use Rattle.vrl_syntax.specs.declared.root.Target.{Target}
use Rattle.vrl_kind.specs.KindTree.{KindTree}
use Rattle.vrl_state.specs.States.{IsCutOf, IsEither, IsEntered, IsJoined, IsRootKind, kept as kept_by, RootMap, Scope, State}
use Rattle.vrl_judge.specs.Returns.{return_kind, return_state, returning}
use Rattle.vrl_diag.specs.Refusal.{is_error}
use Rattle.vrl_judge.specs.Rules.{Judgement, Loop, IsMerged, IsReadAt, IsScalar, IsThen, IsTargetWritten, at, if_state, is_other, left as left_behind, no_objects, number_tag, of_assignment, of_pairs, order_tag, scalars_at, settle, some_pair, sum_tag, table_tags, when, with_codes}
use Rattle.vrl_judge.specs.declared.checker.Checker.{Checker}
use Rattle.vrl_judge.specs.declared.ends.Ends.{Ends}
use Rattle.vrl_judge.specs.declared.ends.Returned.{Returned}
use Rattle.vrl_judge.specs.declared.operators.Operands.{Operands}
use Rattle.vrl_judge.specs.declared.finding.Finding.{Finding}
use Rattle.vrl_judge.specs.declared.tables.Table.{Table}
use Rattle.vrl_value.specs.declared.value.Tag.TheVariants as tag
use Rattle.vrl_judge.specs.declared.tables.Table.TheVariants as table

-- ---- ways that the code keeps

-- what is known on a way; no way leads there where there is none
abbrev pub known_on : Option State → Option RootMap
known_on None = None
known_on (Some s) = s.known

-- what is known on each of several ways
abbrev pub branches_known : List (Option State) → List (Option RootMap)
branches_known branches = map known_on branches

-- a way on which this is known, in these scopes
abbrev pub way : List Scope → Option RootMap → Option State
way scopes known = option_map (λ roots. record { known = Some roots; scopes = scopes }) known

-- a way that is kept is alive, and stands in these scopes
abbrev pub IsWay : List Scope → Option State → Type 0
IsWay scopes branch = branch ≡ way scopes (known_on branch)

pub record IsReturnIn (scopes : List Scope) (ret : Option Returned) : Type 0 where
  pub alive : ret ≡ returning scopes (return_kind ret) (return_state ret)
  pub kind : IsRootKind (return_kind ret)

pub record AreEnds (scopes : List Scope) (ends : Ends) : Type 0 where
  pub fail : IsWay scopes ends.fail
  pub ret : IsReturnIn scopes ends.ret

-- both stand in the same scopes, whichever these are
pub record HaveCommonScopes (a b : Ends) : Type 0 where
  pub scopes : List Scope
  pub first : AreEnds scopes a
  pub second : AreEnds scopes b

-- returns of parts, one behind or beside the other, and all their ends
pub record AreJoinedReturns (a b c : Option Returned) : Type 0 where
  pub state : IsJoined (return_state a) (return_state b) (return_state c)
  pub kind : IsEither (return_kind a) (return_kind b) (return_kind c)

pub record AreJoinedEnds (a b c : Ends) : Type 0 where
  pub fail : IsJoined (known_on a.fail) (known_on b.fail) (known_on c.fail)
  pub ret : AreJoinedReturns a.ret b.ret c.ret
  pub poisoned : c.poisoned ≡ (a.poisoned || b.poisoned)

-- a block ends at a way
abbrev pub IsLeftWay : Scope → List Scope → Option State → Option State → Type 0
IsLeftWay scope scopes before after = after ≡ way scopes (option_map (kept_by scope) (known_on before))

abbrev pub IsLeftReturn : Scope → List Scope → Option Returned → Option Returned → Type 0
IsLeftReturn scope scopes before after =
    after ≡ returning scopes (return_kind before) (option_map (kept_by scope) (return_state before))

pub record AreLeftEnds (scope : Scope) (scopes : List Scope) (before after : Ends) : Type 0 where
  pub fail : IsLeftWay scope scopes before.fail after.fail
  pub ret : IsLeftReturn scope scopes before.ret after.ret
  pub poisoned : after.poisoned ≡ before.poisoned

-- no error, no return, no code
abbrev pub no_ends : Ends
no_ends = record { fail = None; ret = None; poisoned = false }

-- no error is left of what is poisoned
abbrev pub settled_ends : Ends → Ends
settled_ends ends = record ends { fail = if_state (not ends.poisoned) ends.fail }

-- ---- what was judged

-- what is known before each run of a closure; one that isn't judged is dead
abbrev pub loop_known : Option Loop → Option RootMap
loop_known None = None
loop_known (Some loop) = loop.known

abbrev pub loops_known : List (Option Loop) → List (Option RootMap)
loops_known loops = map loop_known loops

-- the ends but for that with a value
pub record HasEnds (scopes : List Scope) (ends : Ends) (j : Judgement) : Type 0 where
  pub are : AreEnds scopes ends
  pub fail : known_on ends.fail ≡ j.fail
  pub ret : return_state ends.ret ≡ j.ret
  pub returned : return_kind ends.ret ≡ j.returned
  pub poisoned : ends.poisoned ≡ j.poisoned

-- what is known behind it, and what was gathered in it
pub record HasGathered (before after : Checker) (j : Judgement) : Type 0 where
  pub ok : after.state.known ≡ j.ok
  pub scopes : after.state.scopes ≡ before.state.scopes
  pub diagnostics : after.diagnostics.items ≡ before.diagnostics.items ++ j.codes
  pub empties : after.empties.items ≡ before.empties.items ++ j.empties
  pub loops : branches_known after.loops.items ≡ branches_known before.loops.items ++ loops_known j.loops
  pub patterns : after.patterns ≡ before.patterns
  pub inside : after.inside ≡ before.inside

pub record HasJudged (before after : Checker) (finding : Finding) (j : Judgement) : Type 0 where
  pub kind : finding.kind ≡ j.kind
  pub root : IsRootKind j.kind
  pub ends : HasEnds before.state.scopes finding.ends j
  pub gathered : HasGathered before after j

-- ---- what is made of it

-- the pairs that an operator takes
abbrev pub table_rule : Table → Tag → Tag → Option Tag
table_rule table.Sum = sum_tag
table_rule table.Number = number_tag
table_rule table.Order = order_tag

-- nothing but the state is changed, and no scope
pub record IsMoved (before after : Checker) : Type 0 where
  pub scopes : after.state.scopes ≡ before.state.scopes
  pub diagnostics : after.diagnostics ≡ before.diagnostics
  pub empties : after.empties ≡ before.empties
  pub loops : after.loops ≡ before.loops
  pub patterns : after.patterns ≡ before.patterns
  pub inside : after.inside ≡ before.inside

-- codes stand behind what was told before, and poison the ends if one of them refuses the script
pub record IsReported (ds : List Diagnostic) (before after : Checker) (old new : Ends) : Type 0 where
  pub diagnostics : after.diagnostics.items ≡ before.diagnostics.items ++ ds
  pub state : after.state ≡ before.state
  pub empties : after.empties ≡ before.empties
  pub loops : after.loops ≡ before.loops
  pub patterns : after.patterns ≡ before.patterns
  pub inside : after.inside ≡ before.inside
  pub ends : new ≡ record old { poisoned = old.poisoned || list_any is_error ds }

-- what is settled
abbrev pub IsSettledAs : Finding → Checker → Finding → Type 0
IsSettledAs part now finding =
    (before : Checker) (j : Judgement) → HasJudged before now part j → HasJudged before now finding (settle j)

-- what is read at a path of a part
abbrev pub IsReadOffAs : List Step → Finding → Checker → Finding → Type 0
IsReadOffAs path part now finding = (before : Checker) (j : Judgement) → HasJudged before now part j
    → (K : KindTree) × IsReadAt j.kind path K × HasJudged before now finding (record j { kind = K })

-- a negation, behind its operand
abbrev pub IsNegatedAs : Span → Finding → Checker → Checker → Finding → Type 0
IsNegatedAs span part now after finding = (before : Checker) (j : Judgement) → HasJudged before now part j
    → (K : KindTree) × IsScalar tag.Bool K
    × HasJudged before after finding (with_codes (when (is_other tag.Bool j) (at 660 span)) (record j { kind = K }))

-- a block is open, and its items were judged in it
pub record IsInBlock (now : Checker) (part : Finding) : Type 0 where
  pub scope : Scope
  pub scopes : List Scope
  pub opened : now.state.scopes ≡ scope ∷ scopes
  pub ends : AreEnds (scope ∷ scopes) part.ends

-- the block ends, behind its items
abbrev pub IsBlockEndAs : Finding → Checker → Checker → Finding → Type 0
IsBlockEndAs part now after finding = (before entered : Checker) (known : RootMap) (j : Judgement)
    → before.state.known ≡ Some known → IsEntered before.state entered.state → entered.diagnostics ≡ before.diagnostics
    → entered.empties ≡ before.empties → entered.loops ≡ before.loops
    → entered.patterns ≡ before.patterns → entered.inside ≡ before.inside
    → HasJudged entered now part j → HasJudged before after finding (settle (left_behind known j))

-- two operands
pub record HasOperands (before after : Checker) (parts : Operands) (j k whole : Judgement) : Type 0 where
  pub left : parts.left ≡ j.kind
  pub right : parts.right ≡ k.kind
  pub left_no_object : parts.left_no_object ≡ is_other tag.Object j
  pub right_no_object : parts.right_no_object ≡ is_other tag.Object k
  pub ends : HasEnds before.state.scopes parts.ends whole
  pub gathered : HasGathered before after whole

-- both, where the left one is known not to be exactly an object, or is
abbrev pub ArePairedAs : Finding → Bool → Finding → Checker → Operands → Type 0
ArePairedAs left other right after parts = (before now : Checker) (j k : Judgement) → HasJudged before now left j
    → other ≡ is_other tag.Object j → HasJudged now after right k
    → (whole : Judgement) × IsThen j k whole × HasOperands before after parts j k whole

-- their equality, which compares a comparison or doesn't
abbrev pub IsEquatedAs : Span → Bool → Operands → Checker → Checker → Finding → Type 0
IsEquatedAs span chained parts now after finding =
    (before : Checker) (j k whole : Judgement) → HasOperands before now parts j k whole
    → (K : KindTree) × IsScalar tag.Bool K
    × HasJudged before after finding (with_codes (when chained (at 650 span)) (record whole { kind = K }))

-- what an operator of a table makes of them
abbrev pub IsCombinedAs : Span → Table → Bool → Operands → Checker → Checker → Finding → Type 0
IsCombinedAs span operator chained parts now after finding =
    (before : Checker) (j k whole : Judgement) → HasOperands before now parts j k whole
    → (K : KindTree) × (fail : Option RootMap)
    × IsCutOf (scalars_at (table_tags (table_rule operator) j.kind k.kind)) K
    × IsJoined whole.fail
    (if_state (some_pair (λ a b. not (is_some (table_rule operator a b))) j.kind k.kind) whole.ok) fail
    × HasJudged before after finding
    (of_pairs (table_rule operator) j k (with_codes (when chained (at 650 span)) whole) K fail)

-- their merge
abbrev pub IsMergedAs : Span → Span → Operands → Checker → Checker → Finding → Type 0
IsMergedAs left_span right_span parts now after finding =
    (before : Checker) (j k whole : Judgement) → HasOperands before now parts j k whole
    → (K : KindTree) × IsMerged j.kind k.kind K
    × HasJudged before after finding (with_codes (no_objects left_span right_span j k) (record whole { kind = K }))

-- an assignment, behind its expression
abbrev pub IsAssignedAs : Span → Target → Finding → Checker → Checker → Finding → Type 0
IsAssignedAs span target part now after finding = (before : Checker) (j : Judgement) → HasJudged before now part j
    → (ok : Option RootMap) × IsTargetWritten target j.kind j.ok ok
    × HasJudged before after finding (with_codes (of_assignment span target j) (record j { ok = ok }))

-- one target is written, and then the other
pub record AreWritten (t u : Target) (K L : KindTree) (before after : Option RootMap) : Type 0 where
  pub between : Option RootMap
  pub first : IsTargetWritten t K before between
  pub second : IsTargetWritten u L between after

-- both are written behind an error, beside what is known elsewhere
pub record AreWrittenBeside (t u : Target) (K L : KindTree) (known fail after : Option RootMap) : Type 0 where
  pub failed : Option RootMap
  pub written : AreWritten t u K L fail failed
  pub joined : IsJoined known failed after

-- both targets are written behind a value, and behind an error
pub record AreBothWritten (t u : Target) (K E : KindTree) (ok fail after : Option RootMap) : Type 0 where
  pub N : KindTree
  pub T : KindTree
  pub null : IsScalar tag.Null N
  pub text : IsScalar tag.Text T
  pub given : Option RootMap
  pub behind_value : AreWritten t u K N ok given
  pub behind_error : AreWrittenBeside t u E T given fail after
