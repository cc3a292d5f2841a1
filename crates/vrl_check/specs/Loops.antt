-- The closures of a script. A walk of the tree as written meets them in order, an outer one before
-- those in it.
use Rattle.std.specs.Prelude.{ℕ, suc, ◌+◌, List, replicate, Option, None}
use Rattle.vrl_judge.specs.Rules.{Loop}
use Rattle.vrl_syntax.specs.Tree.{Expr, expr, Form, literal, array, object, read, query, group, block, conditional, negation, binary, assign, merge, both, call, return_of, abort_with, Exprs, no_exprs, exprs, Pairs, no_pairs, pair, Arms, no_arms, arm, Else, no_else, else_block, Args, no_args, arg, Closure, no_closure, closure, Message, no_message, message}

-- how many there are in each part
abbrev mutual
  pub closures_in_expr : Expr → ℕ
  closures_in_expr (expr span f) = closures_in_form f

  pub closures_in_form : Form → ℕ
  closures_in_form (literal v) = 0
  closures_in_form (array es) = closures_in_exprs es
  closures_in_form (object ps) = closures_in_pairs ps
  closures_in_form (read root path) = 0
  closures_in_form (query e path) = closures_in_expr e
  closures_in_form (group e) = closures_in_expr e
  closures_in_form (block es) = closures_in_exprs es
  closures_in_form (conditional gs es) = closures_in_arms gs + closures_in_else es
  closures_in_form (negation e) = closures_in_expr e
  closures_in_form (binary op l r) = closures_in_expr l + closures_in_expr r
  closures_in_form (assign t e) = closures_in_expr e
  closures_in_form (merge t e) = closures_in_expr e
  closures_in_form (both t u e) = closures_in_expr e
  closures_in_form (call name span bang gs c) = closures_in_args gs + closures_in_closure c
  closures_in_form (return_of e) = closures_in_expr e
  closures_in_form (abort_with m) = closures_in_message m

  pub closures_in_exprs : Exprs → ℕ
  closures_in_exprs no_exprs = 0
  closures_in_exprs (exprs e es) = closures_in_expr e + closures_in_exprs es

  pub closures_in_pairs : Pairs → ℕ
  closures_in_pairs no_pairs = 0
  closures_in_pairs (pair key e ps) = closures_in_expr e + closures_in_pairs ps

  pub closures_in_arms : Arms → ℕ
  closures_in_arms no_arms = 0
  closures_in_arms (arm predicate es gs) = closures_in_expr predicate + (closures_in_exprs es + closures_in_arms gs)

  pub closures_in_else : Else → ℕ
  closures_in_else no_else = 0
  closures_in_else (else_block es) = closures_in_exprs es

  pub closures_in_args : Args → ℕ
  closures_in_args no_args = 0
  closures_in_args (arg name span e gs) = closures_in_expr e + closures_in_args gs

  pub closures_in_closure : Closure → ℕ
  closures_in_closure no_closure = 0
  closures_in_closure (closure names es span) = suc (closures_in_exprs es)

  pub closures_in_message : Message → ℕ
  closures_in_message no_message = 0
  closures_in_message (message e) = closures_in_expr e

-- so many of which none is judged
abbrev pub unjudged : ℕ → List (Option Loop)
unjudged n = replicate n None
