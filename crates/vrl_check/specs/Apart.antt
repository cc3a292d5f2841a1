-- No code stands twice at one place: a script whose parts stand at places of their own has no
-- judgement with two equal codes.
use Rattle.std.specs.Prelude.{ℕ, ◌+◌, ◌≤◌, Bool, true, false, ◌&&◌, List, [], ◌∷◌, nat_eq, if◌then◌else◌}
use Rattle.vrl_diag.specs.declared.diagnostic.Diagnostic.{Diagnostic}
use Rattle.vrl_diag.specs.declared.diagnostic.Span.{Span}
use Rattle.vrl_syntax.specs.Tree.{Expr, expr, Form, literal, array, object, read, query, group, block, conditional, negation, binary, assign, merge, both, call, return_of, abort_with, Exprs, no_exprs, exprs, Pairs, no_pairs, pair, Arms, no_arms, arm, Else, no_else, else_block, Args, no_args, arg, Closure, no_closure, closure, Message, no_message, message}
use Rattle.vrl_syntax.specs.declared.root.Op.{Op}
use Rattle.vrl_syntax.specs.declared.root.Op.TheVariants as op
use Rattle.vrl_syntax.specs.declared.root.Target.{Target}
use Rattle.vrl_syntax.specs.declared.root.Target.TheVariants.{Nowhere, Place}
use Rattle.vrl_kind.specs.KindTree.{KindTree}
use Rattle.vrl_judge.specs.Rules.{Judgement}
use Rattle.vrl_check.specs.Judgement.{JudgesScript}
use Rattle.vrl_check.specs.OpenRules.{OpenRules}

abbrev pub same_span : Span → Span → Bool
same_span s t = nat_eq s.start t.start && nat_eq s.end t.end

abbrev pub one_if : Bool → ℕ
one_if true = 1
one_if false = 0

-- how often a code stands at a place
abbrev pub times : ℕ → Span → List Diagnostic → ℕ
times code span [] = 0
times code span (d ∷ ds) = one_if (nat_eq d.code code && same_span d.span span) + times code span ds

-- what each expression, each name of a call, each argument, and each closure's block counts, by its
-- place
pub record Weights : Type 0 where
  pub expression : Span → ℕ
  pub name : Span → ℕ
  pub argument : Span → ℕ
  pub closure_block : Span → ℕ

-- the target of `t |= e` is read, and so counts as an expression
abbrev pub weigh_target : Weights → Target → ℕ
weigh_target w Nowhere = 0
weigh_target w (Place span root path) = w.expression span

abbrev pub is_sum : Op → Bool
is_sum op.Plus = true
is_sum o = false

-- the form gives no code at its own place
abbrev pub is_quiet : Form → Bool
is_quiet (literal v) = true
is_quiet (group e) = true
is_quiet (binary o l r) = is_sum o
is_quiet f = false

-- What all of a part count together. A group or a sum gives no code at the places of what it holds,
-- so a literal, a group or a sum that stands there counts nothing at its own.
abbrev mutual
  pub weigh_expr : Weights → Expr → ℕ
  weigh_expr w (expr span f) = w.expression span + weigh_form w f

  pub weigh_within : Weights → Bool → Expr → ℕ
  weigh_within w quiet (expr span f) = (if quiet && is_quiet f then 0 else w.expression span) + weigh_form w f

  pub weigh_form : Weights → Form → ℕ
  weigh_form w (literal v) = 0
  weigh_form w (array es) = weigh_exprs w es
  weigh_form w (object ps) = weigh_pairs w ps
  weigh_form w (read root path) = 0
  weigh_form w (query e path) = weigh_expr w e
  weigh_form w (group e) = weigh_within w true e
  weigh_form w (block es) = weigh_exprs w es
  weigh_form w (conditional gs es) = weigh_arms w gs + weigh_else w es
  weigh_form w (negation e) = weigh_expr w e
  weigh_form w (binary o l r) = weigh_within w (is_sum o) l + weigh_within w (is_sum o) r
  weigh_form w (assign t e) = weigh_expr w e
  weigh_form w (merge t e) = weigh_target w t + weigh_expr w e
  weigh_form w (both t u e) = weigh_expr w e
  weigh_form w (call name span bang gs c) = w.name span + (weigh_args w gs + weigh_closure w c)
  weigh_form w (return_of e) = weigh_expr w e
  weigh_form w (abort_with m) = weigh_message w m

  pub weigh_exprs : Weights → Exprs → ℕ
  weigh_exprs w no_exprs = 0
  weigh_exprs w (exprs e es) = weigh_expr w e + weigh_exprs w es

  pub weigh_pairs : Weights → Pairs → ℕ
  weigh_pairs w no_pairs = 0
  weigh_pairs w (pair key e ps) = weigh_expr w e + weigh_pairs w ps

  pub weigh_arms : Weights → Arms → ℕ
  weigh_arms w no_arms = 0
  weigh_arms w (arm predicate es gs) = weigh_expr w predicate + (weigh_exprs w es + weigh_arms w gs)

  pub weigh_else : Weights → Else → ℕ
  weigh_else w no_else = 0
  weigh_else w (else_block es) = weigh_exprs w es

  pub weigh_args : Weights → Args → ℕ
  weigh_args w no_args = 0
  weigh_args w (arg name span e gs) = w.argument span + (weigh_expr w e + weigh_args w gs)

  pub weigh_closure : Weights → Closure → ℕ
  weigh_closure w no_closure = 0
  weigh_closure w (closure names es span) = w.closure_block span + weigh_exprs w es

  pub weigh_message : Weights → Message → ℕ
  weigh_message w no_message = 0
  weigh_message w (message e) = weigh_expr w e

abbrev pub at_place : Span → Span → ℕ
at_place span s = one_if (same_span s span)

abbrev pub nowhere : Span → ℕ
nowhere s = 0

-- how many expressions that count stand at a place, how many calls have their name there, how many arguments
-- stand there, from their keyword on, and how many blocks of closures
abbrev pub nothing_weighs : Weights
nothing_weighs = record { expression = nowhere; name = nowhere; argument = nowhere; closure_block = nowhere }

abbrev pub expressions_at : Span → Exprs → ℕ
expressions_at span es = weigh_exprs (record nothing_weighs { expression = at_place span }) es

abbrev pub names_at : Span → Exprs → ℕ
names_at span es = weigh_exprs (record nothing_weighs { name = at_place span }) es

abbrev pub arguments_at : Span → Exprs → ℕ
arguments_at span es = weigh_exprs (record nothing_weighs { argument = at_place span }) es

abbrev pub closure_blocks_at : Span → Exprs → ℕ
closure_blocks_at span es = weigh_exprs (record nothing_weighs { closure_block = at_place span }) es

-- no two expressions that count stand at one place, nor two names of calls, nor two arguments, nor
-- two blocks of closures
pub record AreApart (items : Exprs) : Type 0 where
  pub expressions : (span : Span) → expressions_at span items ≤ 1
  pub names : (span : Span) → names_at span items ≤ 1
  pub arguments : (span : Span) → arguments_at span items ≤ 1
  pub closure_blocks : (span : Span) → closure_blocks_at span items ≤ 1

-- in a judgement of a script whose parts stand apart no code stands twice at one place, whatever
-- the open rules are
abbrev pub NoCodeStandsTwice : Type 0
NoCodeStandsTwice = (rules : OpenRules) (start : KindTree) (items : Exprs) (j : Judgement) → AreApart items
    → JudgesScript rules start items j → (code : ℕ) (span : Span) → times code span j.codes ≤ 1
