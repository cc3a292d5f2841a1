-- How large a part of a script is, for the measures of the walks.
use Rattle.std.proofs.Common.{ℕ, ◌+◌}
use Rattle.vrl_syntax.specs.Tree.{Expr, expr, Form, literal, array, object, read, query, group, block, conditional, negation, binary, assign, merge, both, call, return_of, abort_with, Exprs, no_exprs, exprs, Pairs, no_pairs, pair, Arms, no_arms, arm, Else, no_else, else_block, Args, no_args, arg, Closure, no_closure, closure, Message, no_message, message}

abbrev mutual
  pub expr_size : Expr → ℕ
  expr_size (expr span f) = form_size f + 1

  pub form_size : Form → ℕ
  form_size (literal v) = 0
  form_size (array es) = exprs_size es
  form_size (object ps) = pairs_size ps
  form_size (read root path) = 0
  form_size (query e path) = expr_size e
  form_size (group e) = expr_size e
  form_size (block es) = exprs_size es
  form_size (conditional gs es) = arms_size gs + else_size es
  form_size (negation e) = expr_size e
  form_size (binary o l r) = expr_size l + expr_size r
  form_size (assign t e) = expr_size e
  form_size (merge t e) = expr_size e
  form_size (both t u e) = expr_size e
  form_size (call name span bang gs c) = args_size gs + closure_size c
  form_size (return_of e) = expr_size e
  form_size (abort_with m) = message_size m

  pub exprs_size : Exprs → ℕ
  exprs_size no_exprs = 0
  exprs_size (exprs e es) = expr_size e + exprs_size es

  pub pairs_size : Pairs → ℕ
  pairs_size no_pairs = 0
  pairs_size (pair key e ps) = expr_size e + pairs_size ps

  pub arms_size : Arms → ℕ
  arms_size no_arms = 0
  arms_size (arm predicate es gs) = expr_size predicate + exprs_size es + arms_size gs

  pub else_size : Else → ℕ
  else_size no_else = 0
  else_size (else_block es) = exprs_size es

  pub args_size : Args → ℕ
  args_size no_args = 0
  args_size (arg name span e gs) = expr_size e + args_size gs

  pub closure_size : Closure → ℕ
  closure_size no_closure = 0
  closure_size (closure names es span) = exprs_size es

  pub message_size : Message → ℕ
  message_size no_message = 0
  message_size (message e) = expr_size e
