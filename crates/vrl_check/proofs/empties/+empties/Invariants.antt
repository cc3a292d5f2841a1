use Rattle.std.proofs.Common.{◌≡◌, ◌≤◌, ◌+◌, ◌*◌, ◌++◌, drop, option_map}
use Rattle.vrl_syntax.specs.ErrorAssignments.{in_args, in_arms, in_exprs, in_pairs}
use Rattle.vrl_syntax.specs.View.{args_of, args_view, arms_of, arms_view, call_of, closure_in, closure_of, expr_of, exprs_of, exprs_view, pairs_of, pairs_view}
use Rattle.vrl_check.specs.Walking.{nulls}
use Rattle.vrl_syntax.proofs.PartSizes.{args_size, arms_size, closure_size, expr_size, exprs_size, form_size, pairs_size}
use Rattle.vrl_check.proofs.empties.+empties.Given as goal

abbrev pub decreases-add_args : goal.decreases-add_args
decreases-add_args l = 4 * args_size (args_of l.args.now) + 1

abbrev pub decreases-add_arms : goal.decreases-add_arms
decreases-add_arms l = 4 * arms_size (arms_of l.arms.now) + 2

abbrev pub decreases-add_call : goal.decreases-add_call
decreases-add_call l = 4 * form_size (call_of l.call.now) + 3

abbrev pub decreases-add_closure : goal.decreases-add_closure
decreases-add_closure l = 4 * closure_size (closure_in (option_map closure_of l.closure.now)) + 2

abbrev pub decreases-add_expr : goal.decreases-add_expr
decreases-add_expr l = 4 * expr_size (expr_of l.expr.now)

abbrev pub decreases-add_exprs : goal.decreases-add_exprs
decreases-add_exprs l = 4 * exprs_size (exprs_of l.exprs.now) + 1

abbrev pub decreases-add_pairs : goal.decreases-add_pairs
decreases-add_pairs l = 4 * pairs_size (pairs_of l.pairs.now) + 1

-- with those of the parts that are left, those so far are all; and what is left is no larger than the whole
abbrev pub invariant-add_args-loop-arg : goal.invariant-add_args-loop-arg
invariant-add_args-loop-arg l = record {
  all : l.empties.items ++ nulls (in_args (args_view (drop l.arg-index l.arg-items))) ≡ l.initial.empties.items ++ nulls (in_args (args_of l.args));
  within : args_size (args_view (drop l.arg-index l.arg-items)) ≤ args_size (args_of l.args);
}

abbrev pub invariant-add_arms-loop-arm : goal.invariant-add_arms-loop-arm
invariant-add_arms-loop-arm l = record {
  all : l.empties.items ++ nulls (in_arms (arms_view (drop l.arm-index l.arm-items))) ≡ l.initial.empties.items ++ nulls (in_arms (arms_of l.arms));
  within : arms_size (arms_view (drop l.arm-index l.arm-items)) ≤ arms_size (arms_of l.arms);
}

abbrev pub invariant-add_exprs-loop-expr : goal.invariant-add_exprs-loop-expr
invariant-add_exprs-loop-expr l = record {
  all : l.empties.items ++ nulls (in_exprs (exprs_view (drop l.expr-index l.expr-items))) ≡ l.initial.empties.items ++ nulls (in_exprs (exprs_of l.exprs));
  within : exprs_size (exprs_view (drop l.expr-index l.expr-items)) ≤ exprs_size (exprs_of l.exprs);
}

abbrev pub invariant-add_pairs-loop-value : goal.invariant-add_pairs-loop-value
invariant-add_pairs-loop-value l = record {
  all : l.empties.items ++ nulls (in_pairs (pairs_view (drop l.value-index l.value-items))) ≡ l.initial.empties.items ++ nulls (in_pairs (pairs_of l.pairs));
  within : pairs_size (pairs_view (drop l.value-index l.value-items)) ≤ pairs_size (pairs_of l.pairs);
}
