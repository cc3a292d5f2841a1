use Rattle.std.proofs.Common.{◌≡◌, rules, refl, ap, add-one}
use Rattle.vrl_syntax.specs.ErrorAssignments.{in_args, in_arms, in_expr, in_exprs, in_pairs}
use Rattle.vrl_syntax.specs.View.{arg_of, args_view, arm_of, arms_view, expr_of, exprs_of, exprs_view, pairs_view}
use Rattle.vrl_syntax.specs.declared.tree.Arg.{out-Arg}
use Rattle.vrl_syntax.specs.declared.tree.Arm.{out-Arm}
use Rattle.vrl_syntax.specs.declared.tree.Form.{the_lemmas}
use Rattle.vrl_syntax.proofs.PartSizes.{args_size, arms_size, exprs_size, pairs_size}
use Rattle.vrl_syntax.proofs.Walked.{drop_one}
use Rattle.vrl_check.proofs.Repeated.{left_within, repeated_behind, repeated_so_far}
use Rattle.vrl_check.proofs.empties.+empties.Goals as goal

pub add_args-loop-arg-preserved : goal.add_args-loop-arg-preserved
add_args-loop-arg-preserved t c =
    let seen : (arg_of c.arg-item.result).2 ≡ expr_of (out-Arg c.arg-item.result).value = search (rules, the_lemmas) in
    let left = drop_one _ _ _ _ (add-one c.loop-arg.arg-index) c.loop-arg-test.true c.arg-item.is in
    record {
      all = repeated_so_far _ _ _ _ _ _ _ _ (ap (λ args. in_args (args_view args)) left) (ap in_expr seen) c.in_ok-add_expr.ensures c.loop-arg.invariant.all;
      within = left_within _ _ _ _ (ap (λ args. args_size (args_view args)) left) c.loop-arg.invariant.within;
    }

pub add_arms-loop-arm-preserved : goal.add_arms-loop-arm-preserved
add_arms-loop-arm-preserved t c =
    let arm = out-Arm c.arm-item.result in
    let predicate : (arm_of c.arm-item.result).0 ≡ expr_of arm.predicate = search (rules, the_lemmas) in
    let body : (arm_of c.arm-item.result).1 ≡ exprs_of arm.body = search (rules, the_lemmas) in
    let left = drop_one _ _ _ _ (add-one c.loop-arm.arm-index) c.loop-arm-test.true c.arm-item.is in
    let first = repeated_so_far _ _ _ _ _ _ _ _ (ap (λ arms. in_arms (arms_view arms)) left) (ap in_expr predicate) c.in_ok-add_expr.ensures c.loop-arm.invariant.all in
    record { all = repeated_so_far _ _ _ _ _ _ _ _ refl (ap in_exprs body) c.in_ok-add_exprs.ensures first; within = left_within _ _ _ _ (ap (λ arms. arms_size (arms_view arms)) left) c.loop-arm.invariant.within }

pub add_exprs-loop-expr-preserved : goal.add_exprs-loop-expr-preserved
add_exprs-loop-expr-preserved t c =
    let left = drop_one _ _ _ _ (add-one c.loop-expr.expr-index) c.loop-expr-test.true c.expr-item.is in
    record { all = repeated_so_far _ _ _ _ _ _ _ _ (ap (λ exprs. in_exprs (exprs_view exprs)) left) refl c.in_ok-add_expr.ensures c.loop-expr.invariant.all; within = left_within _ _ _ _ (ap (λ exprs. exprs_size (exprs_view exprs)) left) c.loop-expr.invariant.within }

pub add_pairs-loop-value-preserved : goal.add_pairs-loop-value-preserved
add_pairs-loop-value-preserved t c =
    let left = drop_one _ _ _ _ (add-one c.loop-value.value-index) c.loop-value-test.true c.loop-value-item.is in
    record { all = repeated_so_far _ _ _ _ _ _ _ _ (ap (λ pairs. in_pairs (pairs_view pairs)) left) refl c.in_ok-add_expr.ensures c.loop-value.invariant.all; within = left_within _ _ _ _ (ap (λ pairs. pairs_size (pairs_view pairs)) left) c.loop-value.invariant.within }

pub add_call-returns : goal.add_call-returns
add_call-returns t c = repeated_behind _ c.add_closure.result _ _ _ _ _ _ (search (rules, the_lemmas)) c.in_ok-add_args.ensures c.add_closure.ensures

pub add_expr-returns-in-Some : goal.add_expr-returns-in-Some
add_expr-returns-in-Some t c = repeated_behind _ c.add_exprs.result _ _ _ _ _ _ (search (rules, the_lemmas)) c.in_ok-add_arms-in-If.ensures c.add_exprs.ensures

pub add_expr-returns-in_ok-add_expr-in-Binary : goal.add_expr-returns-in_ok-add_expr-in-Binary
add_expr-returns-in_ok-add_expr-in-Binary t c = repeated_behind _ c.add_expr-in-Binary.result _ _ _ _ _ _ (search (rules, the_lemmas)) c.in_ok-add_expr-in-Binary.ensures c.add_expr-in-Binary.ensures

pub add_expr-returns-in_ok-push-in-Both : goal.add_expr-returns-in_ok-push-in-Both
add_expr-returns-in_ok-push-in-Both t c = repeated_behind _ c.add_expr-in-Both.result _ _ _ 1 _ _ (search (rules, the_lemmas)) c.in_ok-push-in-Both.ensures.items c.add_expr-in-Both.ensures
