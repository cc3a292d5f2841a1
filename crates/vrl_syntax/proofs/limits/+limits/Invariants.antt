use Rattle.std.proofs.Common.{◌≡◌, ◌++◌, drop}
use Rattle.vrl_syntax.specs.View.{args_view, arms_view, exprs_view, pairs_view}
use Rattle.vrl_syntax.specs.Limits.{args_faults, arms_faults, exprs_faults, pairs_faults}
use Rattle.vrl_syntax.proofs.limits.+limits.Given as goal

-- with the faults of the parts that are left, those so far are all
abbrev pub invariant-add_args-loop-arg : goal.invariant-add_args-loop-arg
invariant-add_args-loop-arg l = l.faults.items ++ args_faults l.deleted (args_view (drop l.arg-index l.arg-items)) ≡ l.initial.faults.items ++ args_faults l.deleted (args_view l.arg-items)

abbrev pub invariant-add_arms-loop-arm : goal.invariant-add_arms-loop-arm
invariant-add_arms-loop-arm l = l.faults.items ++ arms_faults (arms_view (drop l.arm-index l.arm-items)) ≡ l.initial.faults.items ++ arms_faults (arms_view l.arm-items)

abbrev pub invariant-add_exprs-loop-expr : goal.invariant-add_exprs-loop-expr
invariant-add_exprs-loop-expr l = l.faults.items ++ exprs_faults (exprs_view (drop l.expr-index l.expr-items)) ≡ l.initial.faults.items ++ exprs_faults (exprs_view l.expr-items)

abbrev pub invariant-add_pairs-loop-value : goal.invariant-add_pairs-loop-value
invariant-add_pairs-loop-value l = l.faults.items ++ pairs_faults (pairs_view (drop l.value-index l.value-items)) ≡ l.initial.faults.items ++ pairs_faults (pairs_view l.value-items)
