use Rattle.std.proofs.Common.{◌≡◌, ◌++◌, drop}
use Rattle.vrl_syntax.specs.View.{args_view, arms_view, exprs_view, pairs_view}
use Rattle.vrl_syntax.specs.Written.{args_write, arms_write, exprs_write, pairs_write}
use Rattle.vrl_syntax.proofs.written.+written.Given as goal

-- with the roots of the parts that are left, those so far are all
abbrev pub invariant-add_args-loop-arg : goal.invariant-add_args-loop-arg
invariant-add_args-loop-arg l = l.roots.items ++ args_write (args_view (drop l.arg-index l.arg-items)) ≡ l.initial.roots.items ++ args_write (args_view l.arg-items)

abbrev pub invariant-add_arms-loop-arm : goal.invariant-add_arms-loop-arm
invariant-add_arms-loop-arm l = l.roots.items ++ arms_write (arms_view (drop l.arm-index l.arm-items)) ≡ l.initial.roots.items ++ arms_write (arms_view l.arm-items)

abbrev pub invariant-add_exprs-loop-expr : goal.invariant-add_exprs-loop-expr
invariant-add_exprs-loop-expr l = l.roots.items ++ exprs_write (exprs_view (drop l.expr-index l.expr-items)) ≡ l.initial.roots.items ++ exprs_write (exprs_view l.expr-items)

abbrev pub invariant-add_pairs-loop-value : goal.invariant-add_pairs-loop-value
invariant-add_pairs-loop-value l = l.roots.items ++ pairs_write (pairs_view (drop l.value-index l.value-items)) ≡ l.initial.roots.items ++ pairs_write (pairs_view l.value-items)
