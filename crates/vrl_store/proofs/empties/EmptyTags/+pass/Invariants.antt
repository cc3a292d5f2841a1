use Rattle.std.proofs.Common.{◌≡◌, ◌≤◌, ◌+◌, ◌*◌, drop}
use Rattle.vrl_syntax.specs.ErrorAssignments.{in_args, in_arms, in_exprs, in_pairs}
use Rattle.vrl_syntax.specs.View.{args_of, args_view, arms_of, arms_view, call_of, expr_of, exprs_of, exprs_view, pairs_of, pairs_view}
use Rattle.vrl_syntax.proofs.PartSizes.{args_size, arms_size, expr_size, exprs_size, form_size, pairs_size}
use Rattle.vrl_store.proofs.empties.EmptyTags.+pass.Given as goal

abbrev pub decreases-pass_args : goal.decreases-pass_args
decreases-pass_args l = 4 * args_size (args_of l.args.now) + 1

abbrev pub decreases-pass_arms : goal.decreases-pass_arms
decreases-pass_arms l = 4 * arms_size (arms_of l.arms.now) + 2

abbrev pub decreases-pass_call : goal.decreases-pass_call
decreases-pass_call l = 4 * form_size (call_of l.call.now) + 2

abbrev pub decreases-pass_expr : goal.decreases-pass_expr
decreases-pass_expr l = 4 * expr_size (expr_of l.expr.now)

abbrev pub decreases-pass_exprs : goal.decreases-pass_exprs
decreases-pass_exprs l = 4 * exprs_size (exprs_of l.exprs.now) + 1

abbrev pub decreases-pass_pairs : goal.decreases-pass_pairs
decreases-pass_pairs l = 4 * pairs_size (pairs_of l.pairs.now) + 1

-- without those of the parts that are left, what is left now is what is left in the end; and what is left is no larger than the whole
abbrev pub invariant-pass_args-loop-arg : goal.invariant-pass_args-loop-arg
invariant-pass_args-loop-arg l = record {
  left : drop (in_args (args_view (drop l.arg-index l.arg-items))) l.self.left.now ≡ drop (in_args (args_of l.args)) l.fn.self.left.now;
  within : args_size (args_view (drop l.arg-index l.arg-items)) ≤ args_size (args_of l.args);
}

abbrev pub invariant-pass_arms-loop-arm : goal.invariant-pass_arms-loop-arm
invariant-pass_arms-loop-arm l = record {
  left : drop (in_arms (arms_view (drop l.arm-index l.arm-items))) l.self.left.now ≡ drop (in_arms (arms_of l.arms)) l.fn.self.left.now;
  within : arms_size (arms_view (drop l.arm-index l.arm-items)) ≤ arms_size (arms_of l.arms);
}

abbrev pub invariant-pass_exprs-loop-expr : goal.invariant-pass_exprs-loop-expr
invariant-pass_exprs-loop-expr l = record {
  left : drop (in_exprs (exprs_view (drop l.expr-index l.expr-items))) l.self.left.now ≡ drop (in_exprs (exprs_of l.exprs)) l.fn.self.left.now;
  within : exprs_size (exprs_view (drop l.expr-index l.expr-items)) ≤ exprs_size (exprs_of l.exprs);
}

abbrev pub invariant-pass_pairs-loop-value : goal.invariant-pass_pairs-loop-value
invariant-pass_pairs-loop-value l = record {
  left : drop (in_pairs (pairs_view (drop l.value-index l.value-items))) l.self.left.now ≡ drop (in_pairs (pairs_of l.pairs)) l.fn.self.left.now;
  within : pairs_size (pairs_view (drop l.value-index l.value-items)) ≤ pairs_size (pairs_of l.pairs);
}
