-- A script's paths keep their limits or not, wherever they stand.
use Rattle.std.proofs.Common.{◌≡◌, Bool, true, false, ◌&&◌, ◌||◌, if◌then◌else◌, List, [], ◌∷◌, ◌++◌, length, nat_lt, Some, None, option_to_list, refl, sym, ap, ◌∙◌, true≢false}
use Rattle.std.specs.List.{list_any}
use Rattle.vrl_path.specs.Write.{depth_limit}
use Rattle.vrl_path.specs.declared.path.Step.{Step}
use Rattle.vrl_diag.specs.declared.diagnostic.Diagnostic.{Diagnostic}
use Rattle.vrl_diag.specs.declared.diagnostic.Span.{Span}
use Rattle.vrl_syntax.specs.Calls.{is_del}
use Rattle.vrl_syntax.specs.Limits.{args_faults, arms_faults, closure_faults, else_faults, expr_faults, exprs_faults, faults_at, form_faults, is_out_of_range, message_faults, pairs_faults, path_faults, target_faults}
use Rattle.vrl_syntax.specs.Tree.{Args, no_args, arg, Arms, no_arms, arm, Closure, no_closure, closure, Else, no_else, else_block, Expr, expr, Exprs, no_exprs, exprs, Form, literal, array, object, read, query, group, block, conditional, negation, binary, assign, merge, both, call, return_of, abort_with, Message, no_message, message, Pairs, no_pairs, pair}
use Rattle.vrl_syntax.specs.declared.root.Target.{Target}
use Rattle.vrl_syntax.specs.declared.root.Target.TheVariants as target
use Rattle.vrl_format.specs.Unplaced.{unplaced, unplaced_args, unplaced_arms, unplaced_closure, unplaced_else, unplaced_exprs, unplaced_form, unplaced_message, unplaced_pairs, unplaced_target}

-- nothing is wrong
abbrev none : List Diagnostic → Bool
none [] = true
none (d ∷ ds) = false

none_both : (xs ys : List Diagnostic) → none (xs ++ ys) ≡ (none xs && none ys)
none_both [] ys = refl
none_both (x ∷ xs) ys = refl

none_is : (xs : List Diagnostic) → none xs ≡ true → xs ≡ []
none_is [] is = refl
none_is (x ∷ xs) is = absurd (true≢false (sym is))

-- nothing is wrong with the one where nothing is with the other
abbrev Agree : List Diagnostic → List Diagnostic → Type 0
Agree xs ys = none xs ≡ none ys

both_agree : (xs ys zs ws : List Diagnostic) → Agree xs zs → Agree ys ws → Agree (xs ++ ys) (zs ++ ws)
both_agree xs ys zs ws one two = none_both xs ys ∙ (λ i. one i && two i) ∙ sym (none_both zs ws)

agree_if : (wrong : Bool) (d e : Diagnostic) → Agree (option_to_list (if wrong then Some d else None)) (option_to_list (if wrong then Some e else None))
agree_if true d e = refl
agree_if false d e = refl

paths_agree : (s t : Span) (path : List Step) → Agree (faults_at s path) (faults_at t path)
paths_agree s t path = agree_if (nat_lt depth_limit (length path) || list_any is_out_of_range path) (record { code = 1012; span = s }) (record { code = 1012; span = t })

target_agrees : (t : Target) → Agree (target_faults (unplaced_target t)) (target_faults t)
target_agrees target.Nowhere = refl
target_agrees (target.Place span root path) = paths_agree _ span path

path_agrees : (e : Expr) → Agree (path_faults (unplaced e)) (path_faults e)
path_agrees (expr span (read root path)) = paths_agree _ span path
path_agrees (expr span f) = refl

deleted_agrees : (deleted : Bool) (e : Expr) → Agree (if deleted then path_faults (unplaced e) else []) (if deleted then path_faults e else [])
deleted_agrees true e = path_agrees e
deleted_agrees false e = refl

mutual
  expr_agrees : (e : Expr) → Agree (expr_faults (unplaced e)) (expr_faults e)
  expr_agrees (expr span f) = form_agrees f

  form_agrees : (f : Form) → Agree (form_faults (unplaced_form f)) (form_faults f)
  form_agrees (literal v) = refl
  form_agrees (array es) = exprs_agree es
  form_agrees (object ps) = pairs_agree ps
  form_agrees (read root path) = refl
  form_agrees (query e path) = expr_agrees e
  form_agrees (group e) = expr_agrees e
  form_agrees (block es) = exprs_agree es
  form_agrees (conditional gs es) = both_agree _ _ (arms_faults gs) (else_faults es) (arms_agree gs) (else_agrees es)
  form_agrees (negation e) = expr_agrees e
  form_agrees (binary op l r) = both_agree _ _ (expr_faults l) (expr_faults r) (expr_agrees l) (expr_agrees r)
  form_agrees (assign t e) = both_agree _ _ (target_faults t) (expr_faults e) (target_agrees t) (expr_agrees e)
  form_agrees (merge t e) = both_agree _ _ (target_faults t) (expr_faults e) (target_agrees t) (expr_agrees e)
  form_agrees (both t u e) = both_agree _ _ (target_faults t) (target_faults u ++ expr_faults e) (target_agrees t)
      (both_agree _ _ (target_faults u) (expr_faults e) (target_agrees u) (expr_agrees e))
  form_agrees (call name span bang gs c) = both_agree _ _ (args_faults (is_del name) gs) (closure_faults c) (args_agree (is_del name) gs) (closure_agrees c)
  form_agrees (return_of e) = expr_agrees e
  form_agrees (abort_with m) = message_agrees m

  exprs_agree : (es : Exprs) → Agree (exprs_faults (unplaced_exprs es)) (exprs_faults es)
  exprs_agree no_exprs = refl
  exprs_agree (exprs e es) = both_agree _ _ (expr_faults e) (exprs_faults es) (expr_agrees e) (exprs_agree es)

  pairs_agree : (ps : Pairs) → Agree (pairs_faults (unplaced_pairs ps)) (pairs_faults ps)
  pairs_agree no_pairs = refl
  pairs_agree (pair key e ps) = both_agree _ _ (expr_faults e) (pairs_faults ps) (expr_agrees e) (pairs_agree ps)

  arms_agree : (gs : Arms) → Agree (arms_faults (unplaced_arms gs)) (arms_faults gs)
  arms_agree no_arms = refl
  arms_agree (arm e es gs) = both_agree _ _ (expr_faults e) (exprs_faults es ++ arms_faults gs) (expr_agrees e)
      (both_agree _ _ (exprs_faults es) (arms_faults gs) (exprs_agree es) (arms_agree gs))

  else_agrees : (es : Else) → Agree (else_faults (unplaced_else es)) (else_faults es)
  else_agrees no_else = refl
  else_agrees (else_block es) = exprs_agree es

  args_agree : (deleted : Bool) (gs : Args) → Agree (args_faults deleted (unplaced_args gs)) (args_faults deleted gs)
  args_agree deleted no_args = refl
  args_agree deleted (arg name span e gs) = both_agree _ _ (if deleted then path_faults e else []) (expr_faults e ++ args_faults deleted gs) (deleted_agrees deleted e)
      (both_agree _ _ (expr_faults e) (args_faults deleted gs) (expr_agrees e) (args_agree deleted gs))

  closure_agrees : (c : Closure) → Agree (closure_faults (unplaced_closure c)) (closure_faults c)
  closure_agrees no_closure = refl
  closure_agrees (closure names es span) = exprs_agree es

  message_agrees : (m : Message) → Agree (message_faults (unplaced_message m)) (message_faults m)
  message_agrees no_message = refl
  message_agrees (message e) = expr_agrees e

pub limits_kept : (s r : Exprs) → unplaced_exprs r ≡ unplaced_exprs s → exprs_faults s ≡ [] → exprs_faults r ≡ []
limits_kept s r same kept =
    none_is (exprs_faults r) (sym (exprs_agree r) ∙ ap (λ es. none (exprs_faults es)) same ∙ exprs_agree s ∙ ap none kept)
