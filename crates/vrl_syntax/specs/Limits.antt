-- The paths that a part of a script writes or deletes, and the limits that they keep.
use Rattle.std.specs.Prelude.{◌≡◌, ◌||◌, Bool, false, List, [], ◌++◌, length, Option, Some, None, option_to_list, nat_lt, suc, pos, negsuc, if◌then◌else◌}
use Rattle.std.specs.List.{list_any}
use Rattle.vrl_path.specs.Steps.{farthest_from_end, last_place}
use Rattle.vrl_path.specs.Write.{depth_limit}
use Rattle.vrl_path.specs.declared.path.Step.{Step}
use Rattle.vrl_path.specs.declared.path.Step.TheVariants.{Field, Place}
use Rattle.vrl_diag.specs.declared.diagnostic.Diagnostic.{Diagnostic}
use Rattle.vrl_diag.specs.declared.diagnostic.Span.{Span}
use Rattle.vrl_syntax.specs.Tree.{Expr, expr, Form, literal, array, object, read, query, group, block, conditional, negation, binary, assign, merge, both, call, return_of, abort_with, Exprs, no_exprs, exprs, Pairs, no_pairs, pair, Arms, no_arms, arm, Else, no_else, else_block, Args, no_args, arg, Closure, no_closure, closure, Message, no_message, message}
use Rattle.vrl_syntax.specs.Calls.{is_del}
use Rattle.vrl_syntax.specs.declared.root.Target.{Target}
use Rattle.vrl_syntax.specs.declared.root.Target.TheVariants as target

-- the step is a place that can't be written: one above the greatest, or too far from the end
abbrev pub is_out_of_range : Step → Bool
is_out_of_range (Field name) = false
is_out_of_range (Place (pos i)) = nat_lt last_place i
is_out_of_range (Place (negsuc i)) = nat_lt farthest_from_end (suc i)

-- what is wrong with the path that stands there: an index that can't be written, or more steps than
-- a value is deep
abbrev pub fault_at : Span → List Step → Option Diagnostic
fault_at span path =
    if nat_lt depth_limit (length path) || list_any is_out_of_range path then Some (record { code = 1012; span = span })
    else None

abbrev pub faults_at : Span → List Step → List Diagnostic
faults_at span path = option_to_list (fault_at span path)

abbrev pub target_faults : Target → List Diagnostic
target_faults target.Nowhere = []
target_faults (target.Place span root path) = faults_at span path

-- an argument that is a path or a name
abbrev pub path_faults : Expr → List Diagnostic
path_faults (expr span (read root path)) = faults_at span path
path_faults e = []

-- the faults of the targets' paths, and of those that `del` deletes, in the order of the script
abbrev mutual
  pub expr_faults : Expr → List Diagnostic
  expr_faults (expr span f) = form_faults f

  pub form_faults : Form → List Diagnostic
  form_faults (literal v) = []
  form_faults (array es) = exprs_faults es
  form_faults (object ps) = pairs_faults ps
  form_faults (read root path) = []
  form_faults (query e path) = expr_faults e
  form_faults (group e) = expr_faults e
  form_faults (block es) = exprs_faults es
  form_faults (conditional ps es) = arms_faults ps ++ else_faults es
  form_faults (negation e) = expr_faults e
  form_faults (binary op l r) = expr_faults l ++ expr_faults r
  form_faults (assign t e) = target_faults t ++ expr_faults e
  form_faults (merge t e) = target_faults t ++ expr_faults e
  form_faults (both t u e) = target_faults t ++ (target_faults u ++ expr_faults e)
  form_faults (call name span bang gs c) = args_faults (is_del name) gs ++ closure_faults c
  form_faults (return_of e) = expr_faults e
  form_faults (abort_with m) = message_faults m

  pub exprs_faults : Exprs → List Diagnostic
  exprs_faults no_exprs = []
  exprs_faults (exprs e es) = expr_faults e ++ exprs_faults es

  pub pairs_faults : Pairs → List Diagnostic
  pairs_faults no_pairs = []
  pairs_faults (pair key e ps) = expr_faults e ++ pairs_faults ps

  pub arms_faults : Arms → List Diagnostic
  arms_faults no_arms = []
  arms_faults (arm predicate es ps) = expr_faults predicate ++ (exprs_faults es ++ arms_faults ps)

  pub else_faults : Else → List Diagnostic
  else_faults no_else = []
  else_faults (else_block es) = exprs_faults es

  -- whether they are deleted
  pub args_faults : Bool → Args → List Diagnostic
  args_faults deleted no_args = []
  args_faults deleted (arg name span e gs) =
      (if deleted then path_faults e else []) ++ (expr_faults e ++ args_faults deleted gs)

  pub closure_faults : Closure → List Diagnostic
  closure_faults no_closure = []
  closure_faults (closure names es span) = exprs_faults es

  pub message_faults : Message → List Diagnostic
  message_faults no_message = []
  message_faults (message e) = expr_faults e

-- each path that is written or deleted keeps the limits
abbrev pub KeepsLimits : Exprs → Type 0
KeepsLimits es = exprs_faults es ≡ []
