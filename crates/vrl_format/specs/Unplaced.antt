-- A script without the places where its parts stand.
use Rattle.vrl_syntax.specs.Tree.{Expr, expr, Form, literal, array, object, read, query, group, block, conditional, negation, binary, assign, merge, both, call, return_of, abort_with, Exprs, no_exprs, exprs, Pairs, no_pairs, pair, Arms, no_arms, arm, Else, no_else, else_block, Args, no_args, arg, Closure, no_closure, closure, Message, no_message, message, no_span, Script}
use Rattle.vrl_syntax.specs.declared.root.Target.{Target}
use Rattle.vrl_syntax.specs.declared.root.Target.TheVariants as target

abbrev pub unplaced_target : Target → Target
unplaced_target target.Nowhere = target.Nowhere
unplaced_target (target.Place span root path) = target.Place no_span root path

abbrev mutual
  pub unplaced : Expr → Expr
  unplaced (expr span f) = expr no_span (unplaced_form f)

  pub unplaced_form : Form → Form
  unplaced_form (literal v) = literal v
  unplaced_form (array es) = array (unplaced_exprs es)
  unplaced_form (object ps) = object (unplaced_pairs ps)
  unplaced_form (read root path) = read root path
  unplaced_form (query e path) = query (unplaced e) path
  unplaced_form (group e) = group (unplaced e)
  unplaced_form (block es) = block (unplaced_exprs es)
  unplaced_form (conditional gs es) = conditional (unplaced_arms gs) (unplaced_else es)
  unplaced_form (negation e) = negation (unplaced e)
  unplaced_form (binary op l r) = binary op (unplaced l) (unplaced r)
  unplaced_form (assign t e) = assign (unplaced_target t) (unplaced e)
  unplaced_form (merge t e) = merge (unplaced_target t) (unplaced e)
  unplaced_form (both t u e) = both (unplaced_target t) (unplaced_target u) (unplaced e)
  unplaced_form (call name span bang gs c) = call name no_span bang (unplaced_args gs) (unplaced_closure c)
  unplaced_form (return_of e) = return_of (unplaced e)
  unplaced_form (abort_with m) = abort_with (unplaced_message m)

  pub unplaced_exprs : Exprs → Exprs
  unplaced_exprs no_exprs = no_exprs
  unplaced_exprs (exprs e es) = exprs (unplaced e) (unplaced_exprs es)

  pub unplaced_pairs : Pairs → Pairs
  unplaced_pairs no_pairs = no_pairs
  unplaced_pairs (pair key e ps) = pair key (unplaced e) (unplaced_pairs ps)

  pub unplaced_arms : Arms → Arms
  unplaced_arms no_arms = no_arms
  unplaced_arms (arm e es gs) = arm (unplaced e) (unplaced_exprs es) (unplaced_arms gs)

  pub unplaced_else : Else → Else
  unplaced_else no_else = no_else
  unplaced_else (else_block es) = else_block (unplaced_exprs es)

  pub unplaced_args : Args → Args
  unplaced_args no_args = no_args
  unplaced_args (arg name span e gs) = arg name no_span (unplaced e) (unplaced_args gs)

  pub unplaced_closure : Closure → Closure
  unplaced_closure no_closure = no_closure
  unplaced_closure (closure names es span) = closure names (unplaced_exprs es) no_span

  pub unplaced_message : Message → Message
  unplaced_message no_message = no_message
  unplaced_message (message e) = message (unplaced e)

-- the script without its places
abbrev pub without_places : Script → Script
without_places s = record { items = unplaced_exprs s.items; patterns = s.patterns }
