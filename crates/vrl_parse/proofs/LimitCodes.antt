-- The codes of what is wrong with tokens.
use Rattle.std.proofs.Common.{◌≡◌, ℕ, Bool, true, false, ◌&&◌, ◌==◌, List, [], ◌∷◌, ◌++◌, if◌then◌else◌, Some, None, option_to_list, refl, sym, ◌∙◌, subst, arith}
use Rattle.std.specs.List.{Contains, list_all}
use Rattle.std.proofs.lemmas.Bool.{and_from, and_parts, eqb-true}
use Rattle.std.proofs.lemmas.List.Folds.{list_all-append}
use Rattle.vrl_diag.specs.declared.diagnostic.Diagnostic.{Diagnostic}
use Rattle.vrl_diag.specs.declared.diagnostic.Span.{Span}
use Rattle.vrl_syntax.specs.Limits.{expr_faults, form_faults, exprs_faults, pairs_faults, arms_faults, else_faults, args_faults, closure_faults, message_faults, target_faults, path_faults}
use Rattle.vrl_syntax.specs.Tree.{Expr, expr, Form, literal, array, object, read, query, group, block, conditional, negation, binary, assign, merge, both, call, return_of, abort_with, Exprs, no_exprs, exprs, Pairs, no_pairs, pair, Arms, no_arms, arm, Else, no_else, else_block, Args, no_args, arg, Closure, no_closure, closure, Message, no_message, message}
use Rattle.vrl_syntax.specs.Calls.{is_del}
use Rattle.vrl_syntax.specs.declared.root.Target.{Target}
use Rattle.vrl_syntax.specs.declared.root.Target.TheVariants as target
use Rattle.vrl_token.specs.TokenList.{TokenList}
use Rattle.vrl_parse.specs.Reading.{IsScriptFault, no_script, path_fault, parse_codes}

abbrev is_limit : Diagnostic → Bool
is_limit d = d.code == 1012

abbrev AreLimits : List Diagnostic → Type 0
AreLimits ds = list_all is_limit ds ≡ true

both_limits : (ds es : List Diagnostic) → AreLimits ds → AreLimits es → AreLimits (ds ++ es)
both_limits ds es one two = list_all-append is_limit ds es ∙ and_from _ _ one two

path_limits : (span : Span) (beyond : Bool) → AreLimits (option_to_list (if beyond then Some (record { code = 1012; span = span }) else None))
path_limits span true = refl
path_limits span false = refl

target_limits : (t : Target) → AreLimits (target_faults t)
target_limits target.Nowhere = refl
target_limits (target.Place span root path) = path_limits span _

deleted_limits : (e : Expr) → AreLimits (path_faults e)
deleted_limits (expr span (read root path)) = path_limits span _
deleted_limits e = refl

where_deleted : (deleted : Bool) (e : Expr) → AreLimits (if deleted then path_faults e else [])
where_deleted true e = deleted_limits e
where_deleted false e = refl

mutual
  expr_limits : (e : Expr) → AreLimits (expr_faults e)
  expr_limits (expr span f) = form_limits f

  form_limits : (f : Form) → AreLimits (form_faults f)
  form_limits (literal v) = refl
  form_limits (array es) = exprs_limits es
  form_limits (object ps) = pairs_limits ps
  form_limits (read root path) = refl
  form_limits (query e path) = expr_limits e
  form_limits (group e) = expr_limits e
  form_limits (block es) = exprs_limits es
  form_limits (conditional ps es) = both_limits (arms_faults ps) (else_faults es) (arms_limits ps) (else_limits es)
  form_limits (negation e) = expr_limits e
  form_limits (binary op l r) = both_limits (expr_faults l) (expr_faults r) (expr_limits l) (expr_limits r)
  form_limits (assign t e) = both_limits (target_faults t) (expr_faults e) (target_limits t) (expr_limits e)
  form_limits (merge t e) = both_limits (target_faults t) (expr_faults e) (target_limits t) (expr_limits e)
  form_limits (both t u e) = both_limits (target_faults t) (target_faults u ++ expr_faults e) (target_limits t) (both_limits (target_faults u) (expr_faults e) (target_limits u) (expr_limits e))
  form_limits (call name span bang gs c) = both_limits (args_faults (is_del name) gs) (closure_faults c) (args_limits (is_del name) gs) (closure_limits c)
  form_limits (return_of e) = expr_limits e
  form_limits (abort_with m) = message_limits m

  exprs_limits : (es : Exprs) → AreLimits (exprs_faults es)
  exprs_limits no_exprs = refl
  exprs_limits (exprs e es) = both_limits (expr_faults e) (exprs_faults es) (expr_limits e) (exprs_limits es)

  pairs_limits : (ps : Pairs) → AreLimits (pairs_faults ps)
  pairs_limits no_pairs = refl
  pairs_limits (pair key e ps) = both_limits (expr_faults e) (pairs_faults ps) (expr_limits e) (pairs_limits ps)

  arms_limits : (ps : Arms) → AreLimits (arms_faults ps)
  arms_limits no_arms = refl
  arms_limits (arm predicate es ps) = both_limits (expr_faults predicate) (exprs_faults es ++ arms_faults ps) (expr_limits predicate) (both_limits (exprs_faults es) (arms_faults ps) (exprs_limits es) (arms_limits ps))

  else_limits : (es : Else) → AreLimits (else_faults es)
  else_limits no_else = refl
  else_limits (else_block es) = exprs_limits es

  args_limits : (deleted : Bool) (gs : Args) → AreLimits (args_faults deleted gs)
  args_limits deleted no_args = refl
  args_limits deleted (arg name span e gs) =
      both_limits (if deleted then path_faults e else []) (expr_faults e ++ args_faults deleted gs) (where_deleted deleted e) (both_limits (expr_faults e) (args_faults deleted gs) (expr_limits e) (args_limits deleted gs))

  closure_limits : (c : Closure) → AreLimits (closure_faults c)
  closure_limits no_closure = refl
  closure_limits (closure names es span) = exprs_limits es

  message_limits : (m : Message) → AreLimits (message_faults m)
  message_limits no_message = refl
  message_limits (message e) = expr_limits e

-- a code of these paths is one that the parser gives
limit_code : (n : ℕ) → n ≡ 1012 → Contains parse_codes n
limit_code n is = (1, omega arith, sym is)

first_code : (ds : List Diagnostic) (d : Diagnostic) (es : List Diagnostic) → AreLimits ds → ds ≡ d ∷ es → Contains parse_codes d.code
first_code ds d es all is =
    let each : (is_limit d && list_all is_limit es) ≡ true = subst AreLimits is all in
    limit_code d.code (eqb-true d.code 1012 (and_parts (is_limit d) (list_all is_limit es) each).0)

pub wrong_code : (tokens : TokenList) (d : Diagnostic) → IsScriptFault tokens d → Contains parse_codes d.code
wrong_code tokens d (no_script is none place) = (0, omega arith, sym is)
wrong_code tokens d (path_fault {s = s} {ds = ds} reads faults) = first_code (exprs_faults s.items) d ds (exprs_limits s.items) faults
