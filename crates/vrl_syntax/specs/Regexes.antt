-- Which regexes stand in a part of a script.
use Rattle.std.specs.Prelude.{◌≡◌, ℕ, Bool, true, ◌&&◌, length}
use Rattle.vrl_value.specs.Regexes.{regexes_below}
use Rattle.vrl_syntax.specs.Tree.{Expr, expr, Form, literal, array, object, read, query, group, block, conditional, negation, binary, assign, merge, both, call, return_of, abort_with, Exprs, no_exprs, exprs, Pairs, no_pairs, pair, Arms, no_arms, arm, Else, no_else, else_block, Args, no_args, arg, Closure, no_closure, closure, Message, no_message, message, Script}

-- each regex literal is one of the first so many
abbrev mutual
  pub expr_regexes_below : ℕ → Expr → Bool
  expr_regexes_below count (expr span f) = form_regexes_below count f

  pub form_regexes_below : ℕ → Form → Bool
  form_regexes_below count (literal v) = regexes_below count v
  form_regexes_below count (array es) = exprs_regexes_below count es
  form_regexes_below count (object ps) = pairs_regexes_below count ps
  form_regexes_below count (read root path) = true
  form_regexes_below count (query e path) = expr_regexes_below count e
  form_regexes_below count (group e) = expr_regexes_below count e
  form_regexes_below count (block es) = exprs_regexes_below count es
  form_regexes_below count (conditional gs es) = arms_regexes_below count gs && else_regexes_below count es
  form_regexes_below count (negation e) = expr_regexes_below count e
  form_regexes_below count (binary op l r) = expr_regexes_below count l && expr_regexes_below count r
  form_regexes_below count (assign t e) = expr_regexes_below count e
  form_regexes_below count (merge t e) = expr_regexes_below count e
  form_regexes_below count (both t u e) = expr_regexes_below count e
  form_regexes_below count (call name span bang gs c) = args_regexes_below count gs && closure_regexes_below count c
  form_regexes_below count (return_of e) = expr_regexes_below count e
  form_regexes_below count (abort_with m) = message_regexes_below count m

  pub exprs_regexes_below : ℕ → Exprs → Bool
  exprs_regexes_below count no_exprs = true
  exprs_regexes_below count (exprs e es) = expr_regexes_below count e && exprs_regexes_below count es

  pub pairs_regexes_below : ℕ → Pairs → Bool
  pairs_regexes_below count no_pairs = true
  pairs_regexes_below count (pair key e ps) = expr_regexes_below count e && pairs_regexes_below count ps

  pub arms_regexes_below : ℕ → Arms → Bool
  arms_regexes_below count no_arms = true
  arms_regexes_below count (arm predicate es gs) =
      expr_regexes_below count predicate && (exprs_regexes_below count es && arms_regexes_below count gs)

  pub else_regexes_below : ℕ → Else → Bool
  else_regexes_below count no_else = true
  else_regexes_below count (else_block es) = exprs_regexes_below count es

  pub args_regexes_below : ℕ → Args → Bool
  args_regexes_below count no_args = true
  args_regexes_below count (arg name span e gs) = expr_regexes_below count e && args_regexes_below count gs

  pub closure_regexes_below : ℕ → Closure → Bool
  closure_regexes_below count no_closure = true
  closure_regexes_below count (closure names es span) = exprs_regexes_below count es

  pub message_regexes_below : ℕ → Message → Bool
  message_regexes_below count no_message = true
  message_regexes_below count (message e) = expr_regexes_below count e

-- each regex of a script is one of its regex literals
abbrev pub IsNumbered : Script → Type 0
IsNumbered script = exprs_regexes_below (length script.patterns) script.items ≡ true
