-- The tree that an `Expr` stands for.
use Rattle.std.specs.Prelude.{ℕ, List, [], ◌∷◌, map, Option, Some, None, option_map}
use Rattle.vrl_value.specs.View.{tree_of}
use Rattle.vrl_diag.specs.declared.diagnostic.Span.{Span}
use Rattle.vrl_syntax.specs.Tree.{Expr, expr, Form, literal, array, object, read, query, group, block, conditional, negation, binary, assign, merge, both, call, return_of, abort_with, Exprs, no_exprs, exprs, Pairs, no_pairs, pair, Arms, no_arms, arm, Else, no_else, else_block, Args, no_args, arg, Closure, no_closure, closure, Message, no_message, message, Script}
use Rattle.vrl_syntax.specs.declared.tree.Expr.{Expr as CodeExpr}
use Rattle.vrl_syntax.specs.declared.tree.Form.{Form as CodeForm}
use Rattle.vrl_syntax.specs.declared.tree.Exprs.{Exprs as CodeExprs}
use Rattle.vrl_syntax.specs.declared.tree.Pairs.{Pairs as CodePairs}
use Rattle.vrl_syntax.specs.declared.tree.Arm.{Arm as CodeArm}
use Rattle.vrl_syntax.specs.declared.tree.Arms.{Arms as CodeArms}
use Rattle.vrl_syntax.specs.declared.tree.Arg.{Arg as CodeArg}
use Rattle.vrl_syntax.specs.declared.tree.Args.{Args as CodeArgs}
use Rattle.vrl_syntax.specs.declared.tree.Call.{Call as CodeCall}
use Rattle.vrl_syntax.specs.declared.tree.Closure.{Closure as CodeClosure}
use Rattle.vrl_syntax.specs.declared.tree.Script.{Script as CodeScript}
use Rattle.vrl_syntax.specs.declared.tree.Form.TheFolds.{fold-Form, fold-Arg, fold-Args, fold-Arm, fold-Arms, fold-Call, fold-Closure, fold-Expr, fold-Exprs, fold-Pairs}
use Rattle.vrl_syntax.specs.declared.tree.Form.TheOpen.{Form-F, Arg-F, Args-F, Arm-F, Arms-F, Call-F, Closure-F, Expr-F, Exprs-F, Pairs-F}

-- what an argument, and a part of an `if`, stands for
abbrev pub ArgTree : Type 0
ArgTree = Option (List ℕ) × Span × Expr

abbrev pub ArmTree : Type 0
ArmTree = Expr × Exprs

-- lists of what stands inside
abbrev pub exprs_of_trees : List Expr → Exprs
exprs_of_trees [] = no_exprs
exprs_of_trees (e ∷ es) = exprs e (exprs_of_trees es)

abbrev pub pairs_of_trees : List (List ℕ × Expr) → Pairs
pairs_of_trees [] = no_pairs
pairs_of_trees (p ∷ ps) = pair p.0 p.1 (pairs_of_trees ps)

abbrev pub arms_of_trees : List ArmTree → Arms
arms_of_trees [] = no_arms
arms_of_trees (a ∷ as_) = arm a.0 a.1 (arms_of_trees as_)

abbrev pub args_of_trees : List ArgTree → Args
args_of_trees [] = no_args
args_of_trees (a ∷ as_) = arg a.0 a.1 a.2 (args_of_trees as_)

abbrev pub else_of : Option Exprs → Else
else_of None = no_else
else_of (Some es) = else_block es

abbrev pub closure_in : Option Closure → Closure
closure_in None = no_closure
closure_in (Some c) = c

abbrev pub message_of : Option Expr → Message
message_of None = no_message
message_of (Some e) = message e

-- one level, with what stands inside already seen as trees
abbrev pub form_step : Form-F Form ArgTree Args ArmTree Arms Form Closure Expr Exprs Pairs → Form
form_step (Form-F.Literal v) = literal (tree_of v)
form_step (Form-F.Array es) = array es
form_step (Form-F.Map ps) = object ps
form_step (Form-F.Read root path) = read root path
form_step (Form-F.Query e path) = query e.value path
form_step (Form-F.Group e) = group e.value
form_step (Form-F.Block es) = block es
form_step (Form-F.If as_ es) = conditional as_ (else_of es)
form_step (Form-F.Not e) = negation e.value
form_step (Form-F.Binary op l r) = binary op l.value r.value
form_step (Form-F.Assign t e) = assign t e.value
form_step (Form-F.Merge t e) = merge t e.value
form_step (Form-F.Both t u e) = both t u e.value
form_step (Form-F.Call c) = c.value
form_step (Form-F.Return e) = return_of e.value
form_step (Form-F.Abort e) = abort_with (message_of (option_map (λ b. b.value) e))

abbrev pub arg_step : Arg-F Form ArgTree Args ArmTree Arms Form Closure Expr Exprs Pairs → ArgTree
arg_step a = (a.name, a.span, a.value)

abbrev pub args_step : Args-F Form ArgTree Args ArmTree Arms Form Closure Expr Exprs Pairs → Args
args_step as_ = args_of_trees as_.args.items

abbrev pub arm_step : Arm-F Form ArgTree Args ArmTree Arms Form Closure Expr Exprs Pairs → ArmTree
arm_step a = (a.predicate, a.body)

abbrev pub arms_step : Arms-F Form ArgTree Args ArmTree Arms Form Closure Expr Exprs Pairs → Arms
arms_step as_ = arms_of_trees as_.arms.items

abbrev pub call_step : Call-F Form ArgTree Args ArmTree Arms Form Closure Expr Exprs Pairs → Form
call_step c = call c.name c.name_span c.bang c.args (closure_in c.closure)

abbrev pub closure_step : Closure-F Form ArgTree Args ArmTree Arms Form Closure Expr Exprs Pairs → Closure
closure_step c = closure c.names c.body c.span

abbrev pub expr_step : Expr-F Form ArgTree Args ArmTree Arms Form Closure Expr Exprs Pairs → Expr
expr_step e = expr e.span e.form

abbrev pub exprs_step : Exprs-F Form ArgTree Args ArmTree Arms Form Closure Expr Exprs Pairs → Exprs
exprs_step es = exprs_of_trees es.exprs.items

abbrev pub pairs_step : Pairs-F Form ArgTree Args ArmTree Arms Form Closure Expr Exprs Pairs → Pairs
pairs_step ps = pairs_of_trees ps.pairs.items

-- an expression as a tree, and its parts
abbrev pub expr_of : CodeExpr → Expr
expr_of = fold-Expr Form ArgTree Args ArmTree Arms Form Closure Expr Exprs Pairs form_step arg_step args_step arm_step
    arms_step call_step closure_step expr_step exprs_step pairs_step

abbrev pub form_of : CodeForm → Form
form_of = fold-Form Form ArgTree Args ArmTree Arms Form Closure Expr Exprs Pairs form_step arg_step args_step arm_step
    arms_step call_step closure_step expr_step exprs_step pairs_step

abbrev pub exprs_of : CodeExprs → Exprs
exprs_of = fold-Exprs Form ArgTree Args ArmTree Arms Form Closure Expr Exprs Pairs form_step arg_step args_step
    arm_step arms_step call_step closure_step expr_step exprs_step pairs_step

abbrev pub pairs_of : CodePairs → Pairs
pairs_of = fold-Pairs Form ArgTree Args ArmTree Arms Form Closure Expr Exprs Pairs form_step arg_step args_step
    arm_step arms_step call_step closure_step expr_step exprs_step pairs_step

abbrev pub arm_of : CodeArm → ArmTree
arm_of = fold-Arm Form ArgTree Args ArmTree Arms Form Closure Expr Exprs Pairs form_step arg_step args_step arm_step
    arms_step call_step closure_step expr_step exprs_step pairs_step

abbrev pub arms_of : CodeArms → Arms
arms_of = fold-Arms Form ArgTree Args ArmTree Arms Form Closure Expr Exprs Pairs form_step arg_step args_step arm_step
    arms_step call_step closure_step expr_step exprs_step pairs_step

abbrev pub arg_of : CodeArg → ArgTree
arg_of = fold-Arg Form ArgTree Args ArmTree Arms Form Closure Expr Exprs Pairs form_step arg_step args_step arm_step
    arms_step call_step closure_step expr_step exprs_step pairs_step

abbrev pub args_of : CodeArgs → Args
args_of = fold-Args Form ArgTree Args ArmTree Arms Form Closure Expr Exprs Pairs form_step arg_step args_step arm_step
    arms_step call_step closure_step expr_step exprs_step pairs_step

abbrev pub call_of : CodeCall → Form
call_of = fold-Call Form ArgTree Args ArmTree Arms Form Closure Expr Exprs Pairs form_step arg_step args_step arm_step
    arms_step call_step closure_step expr_step exprs_step pairs_step

abbrev pub closure_of : CodeClosure → Closure
closure_of =
    fold-Closure Form ArgTree Args ArmTree Arms Form Closure Expr Exprs Pairs form_step arg_step args_step arm_step
    arms_step call_step closure_step expr_step exprs_step pairs_step

-- the same of what a vector holds
abbrev pub exprs_view : List CodeExpr → Exprs
exprs_view es = exprs_of_trees (map expr_of es)

abbrev pub pairs_view : List (List ℕ × CodeExpr) → Pairs
pairs_view ps = pairs_of_trees (map (λ p. (p.0, expr_of p.1)) ps)

abbrev pub arms_view : List CodeArm → Arms
arms_view as_ = arms_of_trees (map arm_of as_)

abbrev pub args_view : List CodeArg → Args
args_view as_ = args_of_trees (map arg_of as_)

-- a script
abbrev pub script_of : CodeScript → Script
script_of s = record { items = exprs_of s.items; patterns = s.patterns }
