-- What the walk over a script is asked, and what it gives.
use Rattle.std.specs.Prelude.{◌≡◌, ℕ, Bool, true, false, List, [], Option, Some, None, length, replicate, ◌++◌}
use Rattle.vrl_value.specs.declared.value.Tag.{Tag}
use Rattle.vrl_diag.specs.declared.diagnostic.Diagnostic.{Diagnostic}
use Rattle.vrl_diag.specs.declared.diagnostic.Span.{Span}
use Rattle.vrl_syntax.specs.Limits.{args_faults, expr_faults, form_faults, exprs_faults, pairs_faults, arms_faults, else_faults}
use Rattle.vrl_syntax.specs.Regexes.{args_regexes_below, arms_regexes_below, else_regexes_below, expr_regexes_below, exprs_regexes_below, form_regexes_below, pairs_regexes_below}
use Rattle.vrl_syntax.specs.Tree.{Args, Expr, Form, Exprs, Pairs, Arms, Else, no_else, else_block, span_of}
use Rattle.vrl_syntax.specs.View.{ArmTree}
use Rattle.vrl_kind.specs.Canonical.{never_kind}
use Rattle.vrl_kind.specs.KindTree.{KindTree}
use Rattle.vrl_state.specs.States.{RootMap, State, IsRootKind}
use Rattle.vrl_judge.specs.Rules.{Judgement, IsScalar, IsThen, gives, settle, with_codes}
use Rattle.vrl_check.specs.Judgement.{IsBeside, of_item, predicate_of}
use Rattle.vrl_check.specs.Judgement.{Judges, Gives, JudgesAll, JudgesBlock, JudgesItems}
use Rattle.vrl_judge.specs.declared.branches.Ways.{Ways}
use Rattle.vrl_judge.specs.declared.checker.Checker.{Checker}
use Rattle.vrl_judge.specs.declared.operators.Operands.{Operands}
use Rattle.vrl_judge.specs.declared.finding.Finding.{Finding}
use Rattle.vrl_judge.specs.Judging.{branches_known, known_on, loops_known, HasEnds, HasJudged, HasOperands, IsWay}
use Rattle.vrl_value.specs.declared.value.Tag.TheVariants as tag
use Rattle.vrl_check.specs.OpenRules.{language_rules}

-- ---- what can be judged

-- A part can be judged where, as these functions tell, its paths keep their limits, and each of its
-- regexes has a source.
pub record IsJudgeable {A : Type 0} (faults : A → List Diagnostic) (regexes_below : ℕ → A → Bool)
    (sources : List (List ℕ)) (part : A) : Type 0 where
  pub limits : faults part ≡ []
  pub regexes : regexes_below (length sources) part ≡ true

abbrev pub ExprCanBeJudged : List (List ℕ) → Expr → Type 0
ExprCanBeJudged = IsJudgeable expr_faults expr_regexes_below

abbrev pub FormCanBeJudged : List (List ℕ) → Form → Type 0
FormCanBeJudged = IsJudgeable form_faults form_regexes_below

abbrev pub ItemsCanBeJudged : List (List ℕ) → Exprs → Type 0
ItemsCanBeJudged = IsJudgeable exprs_faults exprs_regexes_below

abbrev pub PairsCanBeJudged : List (List ℕ) → Pairs → Type 0
PairsCanBeJudged = IsJudgeable pairs_faults pairs_regexes_below

abbrev pub ArmsCanBeJudged : List (List ℕ) → Arms → Type 0
ArmsCanBeJudged = IsJudgeable arms_faults arms_regexes_below

abbrev pub ElseCanBeJudged : List (List ℕ) → Else → Type 0
ElseCanBeJudged = IsJudgeable else_faults else_regexes_below

-- arguments, whose paths are deleted or not
abbrev pub ArgumentsCanBeJudged : List (List ℕ) → Args → Type 0
ArgumentsCanBeJudged = IsJudgeable (args_faults false) args_regexes_below

-- ---- what the walk gives

-- the empty values of what it passes by: so many times null
abbrev pub nulls : ℕ → List Tag
nulls n = replicate n tag.Null

-- the states of closures that it passes by: none is kept of any
abbrev pub passed_states : ℕ → List (Option State)
passed_states n = replicate n None

-- an expression, a form where a way leads to it, items of a block, items before their block ends
abbrev pub IsJudgedAs : Expr → Checker → Checker → Finding → Type 0
IsJudgedAs e before after finding = (j : Judgement)
    × Judges (language_rules before.patterns.now) before.inside before.state.known e j
    × HasJudged before after finding j

abbrev pub IsGivenAs : Span → Form → Checker → Checker → Finding → Type 0
IsGivenAs span f before after finding = (known : RootMap) → before.state.known ≡ Some known → (j : Judgement)
    × Gives (language_rules before.patterns.now) before.inside known span f j × HasJudged before after finding j

-- the same wherever it stands
abbrev pub IsAnywhereAs : Form → Checker → Checker → Finding → Type 0
IsAnywhereAs f before after finding = (span : Span) → IsGivenAs span f before after finding

abbrev pub IsBlockAs : Exprs → Checker → Checker → Finding → Type 0
IsBlockAs es before after finding = (j : Judgement)
    × JudgesBlock (language_rules before.patterns.now) before.inside before.state.known es j
    × HasJudged before after finding j

abbrev pub IsSequenceAs : Exprs → Checker → Checker → Finding → Type 0
IsSequenceAs es before after finding = (known : RootMap) → before.state.known ≡ Some known
    → (N : KindTree) × (Ks : List KindTree) × (j : Judgement) × IsScalar tag.Null N
    × JudgesAll (language_rules before.patterns.now) before.inside (gives N (Some known)) es Ks j
    × HasJudged before after finding j

-- items of a script, and one of them
abbrev pub IsScriptAs : Exprs → Checker → Checker → Finding → Type 0
IsScriptAs es before after finding = (N : KindTree) × (j : Judgement) × IsScalar tag.Null N
    × JudgesItems (language_rules before.patterns.now) (gives N before.state.known) es j
    × HasJudged before after finding (settle j)

abbrev pub IsItemAs : Expr → Checker → Checker → Finding → Type 0
IsItemAs e before after finding = (j : Judgement)
    × Judges (language_rules before.patterns.now) before.inside before.state.known e j
    × HasJudged before after finding (with_codes (of_item (span_of e) j) j)

-- ---- steps of the walk

abbrev pub AreBoth : Expr → Expr → Checker → Checker → Operands → Type 0
AreBoth l r before after parts = (j : Judgement) × (k : Judgement) × (whole : Judgement)
    × Judges (language_rules before.patterns.now) before.inside before.state.known l j
    × Judges (language_rules before.patterns.now) before.inside j.ok r k × IsThen j k whole
    × HasOperands before after parts j k whole

-- the right one, behind the left one
abbrev pub IsBesideAs : Expr → Finding → Checker → Checker → Operands → Type 0
IsBesideAs r left now after parts = (before : Checker) (j : Judgement) → HasJudged before now left j
    → (k : Judgement) × (whole : Judgement)
    × Judges (language_rules before.patterns.now) before.inside now.state.known r k × IsThen j k whole
    × HasOperands before after parts j k whole

-- the ways of an `if` that were judged so far
pub record HasWays (before now : Checker) (ways : Ways) (w : Judgement) : Type 0 where
  pub kind : ways.kind ≡ w.kind
  pub root : IsRootKind w.kind
  pub alive : IsWay before.state.scopes ways.ok
  pub ok : known_on ways.ok ≡ w.ok
  pub ends : HasEnds before.state.scopes ways.ends w
  pub scopes : now.state.scopes ≡ before.state.scopes
  pub diagnostics : now.diagnostics.items ≡ before.diagnostics.items ++ w.codes
  pub empties : now.empties.items ≡ before.empties.items ++ w.empties
  pub loops : branches_known now.loops.items ≡ branches_known before.loops.items ++ loops_known w.loops
  pub patterns : now.patterns ≡ before.patterns
  pub inside : now.inside ≡ before.inside

-- a predicate and its block, beside the ways before them
pub record IsArmAs (a : ArmTree) (w : Judgement) (before now after : Checker) (ways : Ways) : Type 0 where
  pub j : Judgement
  pub k : Judgement
  pub with_predicate : Judgement
  pub all : Judgement
  pub predicate : Judges (language_rules now.patterns.now) now.inside now.state.known a.0 j
  pub first : IsBeside w (record (predicate_of a.0 j) { kind = never_kind; ok = None }) with_predicate
  pub block : JudgesBlock (language_rules now.patterns.now) now.inside j.ok a.1 k
  pub second : IsBeside with_predicate k all
  pub known : after.state.known ≡ j.ok
  pub told : HasWays before after ways all

abbrev pub IsArmBehind : ArmTree → Ways → Checker → Checker → Ways → Type 0
IsArmBehind a ways now after all =
    (before : Checker) (w : Judgement) → HasWays before now ways w → IsArmAs a w before now after all

abbrev pub IsElseAs : Else → Checker → Checker → Finding → Type 0
IsElseAs (else_block es) before after finding = IsBlockAs es before after finding
IsElseAs no_else before after finding =
    (N : KindTree) × IsScalar tag.Null N × HasJudged before after finding (settle (gives N before.state.known))
