use Rattle.std.proofs.Common.{◌≡◌, ◌∙◌, ◌++◌, rules, refl, ap, add-one, [], if◌then◌else◌}
use Rattle.vrl_syntax.specs.Tree.{Expr}
use Rattle.vrl_syntax.specs.View.{arg_of, args_of, args_view, arm_of, arms_of, arms_view, call_of, expr_of, exprs_of, exprs_view, pairs_of, pairs_view}
use Rattle.vrl_syntax.specs.Limits.{args_faults, arms_faults, expr_faults, exprs_faults, form_faults, pairs_faults, path_faults}
use Rattle.vrl_syntax.specs.declared.tree.Arg.{out-Arg}
use Rattle.vrl_syntax.specs.declared.tree.Arm.{out-Arm}
use Rattle.vrl_syntax.specs.declared.tree.Form.{the_lemmas}
use Rattle.vrl_syntax.proofs.Walked.{added_also, added_third, walked_on, walked_through, walked_twice}
use Rattle.vrl_syntax.proofs.limits.+limits.Goals as goal

pub add_args-loop-arg-preserved : goal.add_args-loop-arg-preserved
add_args-loop-arg-preserved t c =
    let seen : (arg_of c.arg-item.result).2 ≡ expr_of (out-Arg c.arg-item.result).value = search (rules, the_lemmas) in
    let deleted = λ (e : Expr). if c.args.deleted then path_faults e else [] in
    walked_twice (λ args. args_faults c.args.deleted (args_view args)) (λ a. deleted (arg_of a).2) (λ a. expr_faults (arg_of a).2) (λ x xs. refl) _ _ _ _ _ _ _ _ _ _ (add-one c.loop-arg.arg-index) c.loop-arg-test.true c.arg-item.is
    (ap deleted seen) (ap expr_faults seen) c.in_ok-add_deleted.ensures c.in_ok-add_expr.ensures c.loop-arg.invariant

pub add_arms-loop-arm-preserved : goal.add_arms-loop-arm-preserved
add_arms-loop-arm-preserved t c =
    let arm = out-Arm c.arm-item.result in
    let predicate : (arm_of c.arm-item.result).0 ≡ expr_of arm.predicate = search (rules, the_lemmas) in
    let body : (arm_of c.arm-item.result).1 ≡ exprs_of arm.body = search (rules, the_lemmas) in
    walked_twice (λ arms. arms_faults (arms_view arms)) (λ a. expr_faults (arm_of a).0) (λ a. exprs_faults (arm_of a).1) (λ x xs. refl) _ _ _ _ _ _ _ _ _ _ (add-one c.loop-arm.arm-index) c.loop-arm-test.true c.arm-item.is
    (ap expr_faults predicate) (ap exprs_faults body) c.in_ok-add_expr.ensures c.in_ok-add_exprs.ensures c.loop-arm.invariant

pub add_exprs-loop-expr-preserved : goal.add_exprs-loop-expr-preserved
add_exprs-loop-expr-preserved t c =
    walked_on (λ exprs. exprs_faults (exprs_view exprs)) (λ e. expr_faults (expr_of e)) (λ x xs. refl) _ _ _ _ _ _ _ _ (add-one c.loop-expr.expr-index) c.loop-expr-test.true c.expr-item.is refl c.in_ok-add_expr.ensures c.loop-expr.invariant

pub add_pairs-loop-value-preserved : goal.add_pairs-loop-value-preserved
add_pairs-loop-value-preserved t c =
    walked_on (λ pairs. pairs_faults (pairs_view pairs)) (λ p. expr_faults (expr_of p.1)) (λ x xs. refl) _ _ _ _ _ _ _ _ (add-one c.loop-value.value-index) c.loop-value-test.true c.loop-value-item.is refl c.in_ok-add_expr.ensures c.loop-value.invariant

pub add_args-returns : goal.add_args-returns
add_args-returns t c =
    let all : args_view c.deref-arg-items.result.now ≡ args_of c.args.args.now = search (rules, the_lemmas) in
    walked_through (λ args. args_faults c.args.deleted (args_view args)) _ _ _ _ c.loop-arg-test.false refl c.loop-arg.invariant ∙ ap (λ whole. c.args.faults.now.items ++ args_faults c.args.deleted whole) all

pub add_arms-returns : goal.add_arms-returns
add_arms-returns t c =
    let all : arms_view c.deref-arm-items.result.now ≡ arms_of c.args.arms.now = search (rules, the_lemmas) in
    walked_through (λ arms. arms_faults (arms_view arms)) _ _ _ _ c.loop-arm-test.false refl c.loop-arm.invariant ∙ ap (λ whole. c.args.faults.now.items ++ arms_faults whole) all

pub add_exprs-returns : goal.add_exprs-returns
add_exprs-returns t c =
    let all : exprs_view c.deref-expr-items.result.now ≡ exprs_of c.args.exprs.now = search (rules, the_lemmas) in
    walked_through (λ exprs. exprs_faults (exprs_view exprs)) _ _ _ _ c.loop-expr-test.false refl c.loop-expr.invariant ∙ ap (λ whole. c.args.faults.now.items ++ exprs_faults whole) all

pub add_pairs-returns : goal.add_pairs-returns
add_pairs-returns t c =
    let all : pairs_view c.deref-value-items.result.now ≡ pairs_of c.args.pairs.now = search (rules, the_lemmas) in
    walked_through (λ pairs. pairs_faults (pairs_view pairs)) _ _ _ _ c.loop-value-test.false refl c.loop-value.invariant ∙ ap (λ whole. c.args.faults.now.items ++ pairs_faults whole) all

pub add_call-returns-in-Some : goal.add_call-returns-in-Some
add_call-returns-in-Some t c =
    added_also c.add_exprs.result _ _ _ _ _ (form_faults (call_of c.args.call.now))
    c.in_ok-add_args.ensures c.add_exprs.ensures (search (rules, the_lemmas))

pub add_expr-returns-in-Some : goal.add_expr-returns-in-Some
add_expr-returns-in-Some t c =
    added_also c.add_exprs.result _ _ _ _ _ (expr_faults (expr_of c.args.expr.now))
    c.in_ok-add_arms-in-If.ensures c.add_exprs.ensures (search (rules, the_lemmas))

pub add_expr-returns-in_ok-add_expr-in-Binary : goal.add_expr-returns-in_ok-add_expr-in-Binary
add_expr-returns-in_ok-add_expr-in-Binary t c =
    added_also c.add_expr-in-Binary.result _ _ _ _ _ (expr_faults (expr_of c.args.expr.now))
    c.in_ok-add_expr-in-Binary.ensures c.add_expr-in-Binary.ensures (search (rules, the_lemmas))

pub add_expr-returns-in_ok-add_target-in-Both-2 : goal.add_expr-returns-in_ok-add_target-in-Both-2
add_expr-returns-in_ok-add_target-in-Both-2 t c =
    added_third c.add_expr-in-Both.result _ _ _ _ _ _ _ (expr_faults (expr_of c.args.expr.now))
    c.in_ok-add_target-in-Both.ensures c.in_ok-add_target-in-Both-2.ensures c.add_expr-in-Both.ensures (search (rules, the_lemmas))

pub add_expr-returns-in_ok-add_target-in-Assign : goal.add_expr-returns-in_ok-add_target-in-Assign
add_expr-returns-in_ok-add_target-in-Assign t c =
    added_also c.add_expr-in-Assign.result _ _ _ _ _ (expr_faults (expr_of c.args.expr.now))
    c.in_ok-add_target-in-Assign.ensures c.add_expr-in-Assign.ensures (search (rules, the_lemmas))
