use Rattle.std.proofs.Common.{◌≡◌, ◌∙◌, Bool, true, false, if◌then◌else◌, List, [], ◌++◌, rules, refl, ap, sym, add-one, append_assoc}
use Rattle.std.proofs.lemmas.List.{append-nil}
use Rattle.vrl_syntax.specs.View.{arg_of, args_of, args_view, arm_of, arms_of, arms_view, call_of, expr_of, exprs_of, exprs_view, pairs_of, pairs_view}
use Rattle.vrl_syntax.specs.Written.{args_write, argument_roots, arms_write, expr_writes, exprs_write, form_writes, pairs_write}
use Rattle.vrl_syntax.specs.declared.tree.Arg.{out-Arg}
use Rattle.vrl_syntax.specs.declared.tree.Arm.{out-Arm}
use Rattle.vrl_syntax.specs.declared.tree.Call.{out-Call}
use Rattle.vrl_syntax.specs.declared.tree.Form.{the_lemmas}
use Rattle.vrl_syntax.proofs.Walked.{added_also, added_third, walked_on, walked_through, walked_twice}
use Rattle.vrl_syntax.proofs.written.+written.Goals as goal
use Rattle.vrl_syntax.proofs.written.+written.Goals.{add_call-then-is_del+in_ok-add_deleted, add_call-else-is_del}

-- what is added where a test says so
where_so : {R : Type 0} (test : Bool) (before added after : List R) → test ≡ true → after ≡ before ++ added → after ≡ before ++ (if test then added else [])
where_so test before added after is adds = adds ∙ ap (λ b. before ++ (if b then added else [])) (sym is)

where_not : {R : Type 0} (test : Bool) (before added : List R) → test ≡ false → before ≡ before ++ (if test then added else [])
where_not test before added is = sym (append-nil before) ∙ ap (λ b. before ++ (if b then added else [])) (sym is)

pub add_args-loop-arg-preserved : goal.add_args-loop-arg-preserved
add_args-loop-arg-preserved t c =
    let seen : (arg_of c.arg-item.result).2 ≡ expr_of (out-Arg c.arg-item.result).value = search (rules, the_lemmas) in
    walked_on (λ args. args_write (args_view args)) (λ a. expr_writes (arg_of a).2) (λ x xs. refl) _ _ _ _ _ _ _ _ (add-one c.loop-arg.arg-index) c.loop-arg-test.true c.arg-item.is (ap expr_writes seen) c.in_ok-add_expr.ensures c.loop-arg.invariant

pub add_arms-loop-arm-preserved : goal.add_arms-loop-arm-preserved
add_arms-loop-arm-preserved t c =
    let arm = out-Arm c.arm-item.result in
    let predicate : (arm_of c.arm-item.result).0 ≡ expr_of arm.predicate = search (rules, the_lemmas) in
    let body : (arm_of c.arm-item.result).1 ≡ exprs_of arm.body = search (rules, the_lemmas) in
    walked_twice (λ arms. arms_write (arms_view arms)) (λ a. expr_writes (arm_of a).0) (λ a. exprs_write (arm_of a).1) (λ x xs. refl) _ _ _ _ _ _ _ _ _ _ (add-one c.loop-arm.arm-index) c.loop-arm-test.true c.arm-item.is
    (ap expr_writes predicate) (ap exprs_write body) c.in_ok-add_expr.ensures c.in_ok-add_exprs.ensures c.loop-arm.invariant

pub add_exprs-loop-expr-preserved : goal.add_exprs-loop-expr-preserved
add_exprs-loop-expr-preserved t c =
    walked_on (λ exprs. exprs_write (exprs_view exprs)) (λ e. expr_writes (expr_of e)) (λ x xs. refl) _ _ _ _ _ _ _ _ (add-one c.loop-expr.expr-index) c.loop-expr-test.true c.expr-item.is refl c.in_ok-add_expr.ensures c.loop-expr.invariant

pub add_pairs-loop-value-preserved : goal.add_pairs-loop-value-preserved
add_pairs-loop-value-preserved t c =
    walked_on (λ pairs. pairs_write (pairs_view pairs)) (λ p. expr_writes (expr_of p.1)) (λ x xs. refl) _ _ _ _ _ _ _ _ (add-one c.loop-value.value-index) c.loop-value-test.true c.loop-value-item.is refl c.in_ok-add_expr.ensures c.loop-value.invariant

pub add_args-returns : goal.add_args-returns
add_args-returns t c =
    let all : args_view c.deref-arg-items.result.now ≡ args_of c.args.args.now = search (rules, the_lemmas) in
    walked_through (λ args. args_write (args_view args)) _ _ _ _ c.loop-arg-test.false refl c.loop-arg.invariant ∙ ap (λ whole. c.args.roots.now.items ++ args_write whole) all

pub add_arms-returns : goal.add_arms-returns
add_arms-returns t c =
    let all : arms_view c.deref-arm-items.result.now ≡ arms_of c.args.arms.now = search (rules, the_lemmas) in
    walked_through (λ arms. arms_write (arms_view arms)) _ _ _ _ c.loop-arm-test.false refl c.loop-arm.invariant ∙ ap (λ whole. c.args.roots.now.items ++ arms_write whole) all

pub add_exprs-returns : goal.add_exprs-returns
add_exprs-returns t c =
    let all : exprs_view c.deref-expr-items.result.now ≡ exprs_of c.args.exprs.now = search (rules, the_lemmas) in
    walked_through (λ exprs. exprs_write (exprs_view exprs)) _ _ _ _ c.loop-expr-test.false refl c.loop-expr.invariant ∙ ap (λ whole. c.args.roots.now.items ++ exprs_write whole) all

pub add_pairs-returns : goal.add_pairs-returns
add_pairs-returns t c =
    let all : pairs_view c.deref-value-items.result.now ≡ pairs_of c.args.pairs.now = search (rules, the_lemmas) in
    walked_through (λ pairs. pairs_write (pairs_view pairs)) _ _ _ _ c.loop-value-test.false refl c.loop-value.invariant ∙ ap (λ whole. c.args.roots.now.items ++ pairs_write whole) all

pub add_call-returns-in-Some : goal.add_call-returns-in-Some
add_call-returns-in-Some t c =
    let deleted : c.if-is_del.roots.items ≡ c.args.roots.now.items ++ (if c.is_del.result then argument_roots (args_of (out-Call c.args.call.now).args) else []) = elim c.if-is_del.branch [
      | add_call-then-is_del+in_ok-add_deleted w ↦ rw w.roots-is (where_so c.is_del.result _ _ _ w.if-is_del.true w.in_ok-add_deleted.ensures)
      | add_call-else-is_del w ↦ rw w.roots-is (where_not c.is_del.result _ _ w.if-is_del.false)
    ] in
    added_third c.add_exprs.result _ _ _ _ _ _ _ (form_writes (call_of c.args.call.now)) deleted c.in_ok-add_args.ensures c.add_exprs.ensures (search (rules, the_lemmas))

pub add_call-returns-in-None : goal.add_call-returns-in-None
add_call-returns-in-None t c =
    let deleted : c.if-is_del.roots.items ≡ c.args.roots.now.items ++ (if c.is_del.result then argument_roots (args_of (out-Call c.args.call.now).args) else []) = elim c.if-is_del.branch [
      | add_call-then-is_del+in_ok-add_deleted w ↦ rw w.roots-is (where_so c.is_del.result _ _ _ w.if-is_del.true w.in_ok-add_deleted.ensures)
      | add_call-else-is_del w ↦ rw w.roots-is (where_not c.is_del.result _ _ w.if-is_del.false)
    ] in
    let args = args_of (out-Call c.args.call.now).args in
    let whole : form_writes (call_of c.args.call.now) ≡ (if c.is_del.result then argument_roots args else []) ++ args_write args = search (rules, the_lemmas) in
    c.in_ok-add_args.ensures ∙ ap (λ t. t ++ args_write args) deleted ∙ append_assoc _ _ (args_write args) ∙ ap (λ t. c.args.roots.now.items ++ t) (sym whole)

pub add_expr-returns-in-Some : goal.add_expr-returns-in-Some
add_expr-returns-in-Some t c =
    added_also c.add_exprs.result _ _ _ _ _ (expr_writes (expr_of c.args.expr.now))
    c.in_ok-add_arms-in-If.ensures c.add_exprs.ensures (search (rules, the_lemmas))

pub add_expr-returns-in_ok-add_expr-in-Binary : goal.add_expr-returns-in_ok-add_expr-in-Binary
add_expr-returns-in_ok-add_expr-in-Binary t c =
    added_also c.add_expr-in-Binary.result _ _ _ _ _ (expr_writes (expr_of c.args.expr.now))
    c.in_ok-add_expr-in-Binary.ensures c.add_expr-in-Binary.ensures (search (rules, the_lemmas))

pub add_expr-returns-in_ok-add_target-in-Both-2 : goal.add_expr-returns-in_ok-add_target-in-Both-2
add_expr-returns-in_ok-add_target-in-Both-2 t c =
    added_third c.add_expr-in-Both.result _ _ _ _ _ _ _ (expr_writes (expr_of c.args.expr.now))
    c.in_ok-add_target-in-Both.ensures c.in_ok-add_target-in-Both-2.ensures c.add_expr-in-Both.ensures (search (rules, the_lemmas))

pub add_expr-returns-in_ok-add_target-in-Assign : goal.add_expr-returns-in_ok-add_target-in-Assign
add_expr-returns-in_ok-add_target-in-Assign t c =
    added_also c.add_expr-in-Assign.result _ _ _ _ _ (expr_writes (expr_of c.args.expr.now))
    c.in_ok-add_target-in-Assign.ensures c.add_expr-in-Assign.ensures (search (rules, the_lemmas))
