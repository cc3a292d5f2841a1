-- The roots that a part of a script writes: those of its assignments' targets, and those of the
-- paths and names that it deletes with `del`. What stands in a block, an argument or a closure
-- inside counts too.
use Rattle.std.specs.Prelude.{List, [], ◌∷◌, ◌++◌, Option, Some, None, if◌then◌else◌}
use Rattle.vrl_path.specs.declared.path.Step.{Step}
use Rattle.vrl_syntax.specs.Tree.{Expr, expr, Form, literal, array, object, read, query, group, block, conditional, negation, binary, assign, merge, both, call, return_of, abort_with, Exprs, no_exprs, exprs, Pairs, no_pairs, pair, Arms, no_arms, arm, Else, no_else, else_block, Args, no_args, arg, Closure, no_closure, closure, Message, no_message, message}
use Rattle.vrl_syntax.specs.Calls.{is_del}
use Rattle.vrl_syntax.specs.declared.root.Root.{Root}
use Rattle.vrl_syntax.specs.declared.root.Target.{Target}
use Rattle.vrl_syntax.specs.declared.root.Target.TheVariants.{Nowhere, Place}

-- where a target writes; `_` writes nowhere
abbrev pub target_path : Target → Option (Root × List Step)
target_path Nowhere = None
target_path (Place span root path) = Some (root, path)

abbrev pub target_roots : Target → List Root
target_roots Nowhere = []
target_roots (Place span root path) = root ∷ []

-- the root of a path or a name; nothing else has one
abbrev pub path_roots : Expr → List Root
path_roots (expr span (read root path)) = root ∷ []
path_roots e = []

-- the roots of the arguments that are paths or names
abbrev pub argument_roots : Args → List Root
argument_roots no_args = []
argument_roots (arg name span e gs) = path_roots e ++ argument_roots gs

-- in the order of the script, but that what is deleted comes before what is written in arguments;
-- each as often as it is written
abbrev mutual
  pub expr_writes : Expr → List Root
  expr_writes (expr span f) = form_writes f

  pub form_writes : Form → List Root
  form_writes (literal v) = []
  form_writes (array es) = exprs_write es
  form_writes (object ps) = pairs_write ps
  form_writes (read root path) = []
  form_writes (query e path) = expr_writes e
  form_writes (group e) = expr_writes e
  form_writes (block es) = exprs_write es
  form_writes (conditional ps es) = arms_write ps ++ else_writes es
  form_writes (negation e) = expr_writes e
  form_writes (binary op l r) = expr_writes l ++ expr_writes r
  form_writes (assign t e) = target_roots t ++ expr_writes e
  form_writes (merge t e) = target_roots t ++ expr_writes e
  form_writes (both t u e) = target_roots t ++ (target_roots u ++ expr_writes e)
  form_writes (call name span bang gs c) =
      (if is_del name then argument_roots gs else []) ++ (args_write gs ++ closure_writes c)
  form_writes (return_of e) = expr_writes e
  form_writes (abort_with m) = message_writes m

  pub exprs_write : Exprs → List Root
  exprs_write no_exprs = []
  exprs_write (exprs e es) = expr_writes e ++ exprs_write es

  pub pairs_write : Pairs → List Root
  pairs_write no_pairs = []
  pairs_write (pair key e ps) = expr_writes e ++ pairs_write ps

  pub arms_write : Arms → List Root
  arms_write no_arms = []
  arms_write (arm predicate es ps) = expr_writes predicate ++ (exprs_write es ++ arms_write ps)

  pub else_writes : Else → List Root
  else_writes no_else = []
  else_writes (else_block es) = exprs_write es

  pub args_write : Args → List Root
  args_write no_args = []
  args_write (arg name span e gs) = expr_writes e ++ args_write gs

  pub closure_writes : Closure → List Root
  closure_writes no_closure = []
  closure_writes (closure names es span) = exprs_write es

  pub message_writes : Message → List Root
  message_writes no_message = []
  message_writes (message e) = expr_writes e
