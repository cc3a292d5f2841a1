-- What the walk keeps of the arguments of a call, and what a call gives behind them.
use Rattle.std.specs.Prelude.{◌≡◌, ◌≢◌, ◌||◌, ℕ, Bool, true, false, List, [], ◌∷◌, map, Option, Some, None, option_map, IsSomeAnd, zero, suc, ⊤}
use Rattle.std.specs.List.{list_any}
use Rattle.vrl_value.specs.Tree.{Tree}
use Rattle.vrl_diag.specs.declared.diagnostic.Diagnostic.{Diagnostic}
use Rattle.vrl_diag.specs.declared.diagnostic.Span.{Span}
use Rattle.vrl_syntax.specs.ErrorAssignments.{in_closure}
use Rattle.vrl_syntax.specs.Tree.{Expr, Form, Args, no_args, arg, Closure}
use Rattle.vrl_syntax.specs.View.{args_of, closure_in, closure_of, expr_of}
use Rattle.vrl_syntax.specs.declared.tree.Arg.{Arg as CodeArg}
use Rattle.vrl_syntax.specs.declared.tree.Call.{Call as CodeCall, out-Call}
use Rattle.vrl_kind.specs.Canonical.{never_kind}
use Rattle.vrl_builtin.specs.Conditions.{AreGiven}
use Rattle.vrl_builtin.specs.Rows.{GivenTree, ParameterRow, Row}
use Rattle.vrl_state.specs.States.{IsRootKind, RootMap}
use Rattle.vrl_binding.specs.Binding.{binding, collection_parameters, keywords_of, path_parameters}
use Rattle.vrl_table.specs.Table.{row_of}
use Rattle.vrl_table.specs.declared.function.Fun.{Fun}
use Rattle.vrl_judge.specs.Branching.{IsOrFail}
use Rattle.vrl_judge.specs.Closures.{of_wanted_closure}
use Rattle.vrl_syntax.specs.Calls.{is_exists, is_del}
use Rattle.vrl_diag.specs.Refusal.{is_error}
use Rattle.vrl_judge.specs.Rules.{Argument, Judgement, at, banged, gives, if_state, with_codes}
use Rattle.vrl_check.specs.Judgement.{AreAskedAbout, Gives, JudgesArguments, IsAnsweredUnless, IsDeletedAt, bound, deleted_kind, deleted_path, of_closure, own_codes, passing_closure, places_in, wants_literal, wants_path}
use Rattle.vrl_judge.specs.Judging.{AreEnds, HasEnds, HasGathered, HasJudged, IsMoved}
use Rattle.vrl_judge.specs.declared.calls.Argument.{Argument as CodeArgument}
use Rattle.vrl_check.specs.declared.calls.Arguments.{Arguments}
use Rattle.vrl_check.specs.declared.calls.Callee.{Callee}
use Rattle.vrl_judge.specs.declared.checker.Checker.{Checker}
use Rattle.vrl_judge.specs.declared.ends.Ends.{Ends}
use Rattle.vrl_judge.specs.declared.finding.Finding.{Finding}
use Rattle.vrl_judge.specs.Calling.{part_of}
use Rattle.vrl_check.specs.declared.calls.Callee.TheVariants as callee
use Rattle.vrl_check.specs.OpenRules.{language_rules}
use Rattle.vrl_check.specs.Walking.{nulls}

-- ---- a call

-- its parts as they are seen
abbrev pub call_name : CodeCall → List ℕ
call_name c = (out-Call c).name

abbrev pub call_bang : CodeCall → Bool
call_bang c = (out-Call c).bang

abbrev pub call_args : CodeCall → Args
call_args c = args_of (out-Call c).args

abbrev pub call_closure : CodeCall → Closure
call_closure c = closure_in (option_map closure_of (out-Call c).closure)

-- what it names, but for the functions that take a closure, whose calls have a step of their own
abbrev pub IsNamed : List ℕ → Callee → Type 0
IsNamed name (callee.Function function) = (row_of function).name ≡ name
IsNamed name callee.Deletion = is_del name ≡ true
IsNamed name callee.Existence = is_exists name ≡ true
IsNamed name (callee.Iteration f) = ⊥

-- no function has the name, nor have `del` and `exists`
pub record IsUnknown (name : List ℕ) : Type 0 where
  pub functions : (function : Fun) → (row_of function).name ≢ name
  pub paths : (is_del name || is_exists name) ≡ false

-- its parameters, and whether an argument isn't written as one of them wants it
abbrev pub callee_parameters : Callee → List ParameterRow
callee_parameters (callee.Function function) = (row_of function).parameters
callee_parameters callee.Deletion = path_parameters
callee_parameters callee.Existence = path_parameters
callee_parameters (callee.Iteration f) = collection_parameters f

abbrev pub callee_wants : Callee → ℕ → ParameterRow → Expr → Bool
callee_wants (callee.Function function) = wants_literal (row_of function)
callee_wants callee.Deletion = wants_path
callee_wants callee.Existence = wants_path
callee_wants (callee.Iteration f) = λ i p e. false

-- the code of its closure, or of none
abbrev pub callee_closure : Callee → Span → Closure → List Diagnostic
callee_closure (callee.Function function) = of_closure
callee_closure callee.Deletion = of_closure
callee_closure callee.Existence = of_closure
callee_closure (callee.Iteration f) = of_wanted_closure f

-- ---- arguments that were judged

-- the places of arguments from their keywords on, and their values
abbrev pub written : Args → List (Span × Expr)
written no_args = []
written (arg name span e gs) = (span, e) ∷ written gs

-- these arguments, judged so
pub record AreTold (gs : Args) (parts : List CodeArgument) (js : List Argument) : Type 0 where
  pub parts_are : parts ≡ map part_of js
  pub written_are : written gs ≡ map (λ g. (g.span, g.value)) js

-- they were judged in some way
abbrev pub IsTold : Args → List CodeArgument → Type 0
IsTold gs parts = (js : List Argument) × AreTold gs parts js

-- each argument's kind can be that of a root
abbrev pub AreRootKinds : List Argument → Type 0
AreRootKinds [] = ⊤
AreRootKinds (g ∷ js) = IsRootKind g.judged.kind × AreRootKinds js

pub record HasArguments (before after : Checker) (gs : Args) (arguments : Arguments) (js : List Argument)
    (j : Judgement) : Type 0 where
  pub told : AreTold gs arguments.parts.items js
  pub roots : AreRootKinds js
  pub ends : HasEnds before.state.scopes arguments.ends j
  pub gathered : HasGathered before after j

abbrev pub AreArgumentsAs : Args → Checker → Checker → Arguments → Type 0
AreArgumentsAs gs before after arguments = (js : List Argument) × (j : Judgement)
    × JudgesArguments (language_rules before.patterns.now) before.inside (gives never_kind before.state.known) gs js j
    × HasArguments before after gs arguments js j

-- ---- the call, behind them

abbrev pub IsCalledAs : Span → Form → Args → Arguments → Checker → Checker → Finding → Type 0
IsCalledAs span f gs arguments now after finding =
    (before : Checker) (known : RootMap) (js : List Argument) (j : Judgement)
    → before.state.known ≡ Some known
    → JudgesArguments (language_rules before.patterns.now) before.inside (gives never_kind (Some known)) gs js j
    → HasArguments before now gs arguments js j
    → (k : Judgement) × Gives (language_rules before.patterns.now) before.inside known span f k
    × HasJudged before after finding k

-- behind its closure, which isn't judged
abbrev pub IsPassed : Checker → Checker → Args → Closure → Arguments → List Argument → Judgement → Type 0
IsPassed before now gs c arguments js j =
    HasArguments before now gs arguments js (passing_closure c (nulls (in_closure c)) j)

abbrev pub IsPassedCallAs : Span → Form → Args → Closure → Arguments → Checker → Checker → Finding → Type 0
IsPassedCallAs span f gs c arguments now after finding =
    (before : Checker) (known : RootMap) (js : List Argument) (j : Judgement)
    → before.state.known ≡ Some known
    → JudgesArguments (language_rules before.patterns.now) before.inside (gives never_kind (Some known)) gs js j
    → IsPassed before now gs c arguments js j
    → (k : Judgement) × Gives (language_rules before.patterns.now) before.inside known span f k
    × HasJudged before after finding k

-- ---- its codes

-- a code, if there is one
abbrev pub of_code : Option ℕ → Span → List Diagnostic
of_code None span = []
of_code (Some code) span = at code span

-- the call's own codes
abbrev pub callee_codes : Callee → Span → Args → Closure → List Argument → List Diagnostic
callee_codes f span gs c js = own_codes (callee_wants f) (callee_parameters f) span (callee_closure f span c) js
    (binding (callee_parameters f) (keywords_of gs))

-- the arguments with the call's own codes
abbrev pub with_call_codes : Callee → Span → Args → Closure → List Argument → Judgement → Judgement
with_call_codes f span gs c js j =
    with_codes (callee_codes f span gs c js) (passing_closure c (nulls (in_closure c)) j)

-- what the call gives then, but for its `!`
abbrev pub IsBoundCallAs : Callee → Span → Form → Bool → Args → Closure → Arguments → Checker → Checker → Finding
    → Type 0
IsBoundCallAs named span f bang gs c arguments now after finding =
    (before : Checker) (known : RootMap) (js : List Argument) (j : Judgement)
    → before.state.known ≡ Some known
    → JudgesArguments (language_rules before.patterns.now) before.inside (gives never_kind (Some known)) gs js j
    → HasArguments before now gs arguments js (with_call_codes named span gs c js j)
    → (k : Judgement) × Gives (language_rules before.patterns.now) before.inside known span f (banged span bang k)
    × HasJudged before after finding k

-- arguments that are bound so were judged in some way, and where no error code stands on the call,
-- none of its own does
pub record HasCodes (named : Callee) (gs : Args) (c : Closure) (arguments : Arguments)
    (places : List (Option ℕ)) : Type 0 where
  pub js : List Argument
  pub told : AreTold gs arguments.parts.items js
  pub places_are : places ≡ places_in (binding (callee_parameters named) (keywords_of gs))
  pub span : Span
  pub codes : arguments.ends.poisoned ≡ false → list_any is_error (callee_codes named span gs c js) ≡ false

-- ---- what is called

-- a function may be asked about arguments that are bound so: they were judged in some way, and what
-- is known of them is allowed
pub record MayBeAsked (r : Row) (gs : Args) (parts : List CodeArgument) (places : List (Option ℕ)) : Type 0 where
  pub js : List Argument
  pub told : AreTold gs parts js
  pub allowed : (givens : List GivenTree) → AreAskedAbout r.parameters (bound places js) givens → AreGiven r givens

-- a function is asked about arguments without code
pub record IsAnsweredAs (function : Fun) (js : List (Option Argument)) (ends : Ends) (before : Checker)
    (finding : Finding) : Type 0 where
  pub fails : Bool
  pub answered : IsAnsweredUnless ends.poisoned before.patterns.now (row_of function) js finding.kind fails
  pub root : IsRootKind finding.kind
  pub or_fail : IsOrFail ends (if_state fails before.state.known) finding.ends
  pub are : AreEnds before.state.scopes finding.ends

-- what stands at a path is taken out
pub record IsDeletedAs (js : List Argument) (ends : Ends) (before after : Checker) (finding : Finding) : Type 0 where
  pub moved : IsMoved before after
  pub known : IsDeletedAt (deleted_path ends.poisoned js) before.state.known after.state.known
  pub kind : finding.kind ≡ deleted_kind ends.poisoned js
  pub same : finding.ends ≡ ends

-- a literal stands at this place alone
abbrev pub alone_at : ℕ → Tree → ℕ → Option Tree
alone_at zero v zero = Some v
alone_at zero v (suc i) = None
alone_at (suc place) v zero = None
alone_at (suc place) v (suc i) = alone_at place v i

-- what was found of an argument: its value, and what the walk keeps of it
abbrev pub IsFound : Option Argument → Option (CodeArg × CodeArgument) → Type 0
IsFound None found = found ≡ None
IsFound (Some g) found = IsSomeAnd found (λ f. (expr_of f.0.value ≡ g.value) × (f.1 ≡ part_of g))
