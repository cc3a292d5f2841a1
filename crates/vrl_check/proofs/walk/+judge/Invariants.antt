use Rattle.std.proofs.Common.{◌+◌, ◌*◌, option_map, drop}
use Rattle.vrl_syntax.specs.View.{args_of, args_view, arm_of, arms_of, call_of, else_of, expr_of, exprs_of, form_of, pairs_of, exprs_view, pairs_view, arms_view}
use Rattle.vrl_syntax.proofs.PartSizes.{args_size, arms_size, closure_size, else_size, expr_size, exprs_size, form_size, pairs_size}
use Rattle.vrl_check.specs.Calling.{call_closure}
use Rattle.vrl_check.specs.Iterating.{closure_items}
use Rattle.vrl_check.proofs.Partway.{IsArrayPartway, IsObjectPartway, IsSequencePartway}
use Rattle.vrl_check.proofs.Arguments.{IsArgumentsPartway}
use Rattle.vrl_check.proofs.Arms.{AreJudged}
use Rattle.vrl_check.proofs.walk.+judge.Given as goal

-- first by what is left of the script, then by who calls whom for the same part
abbrev pub decreases-abort_with : goal.decreases-abort_with
decreases-abort_with l = 16 * expr_size (expr_of l.message.now) + 1

abbrev pub decreases-branches::add_arm : goal.decreases-branches::add_arm
decreases-branches::add_arm l = 16 * (expr_size (arm_of l.arm.now).0 + exprs_size (arm_of l.arm.now).1) + 5

abbrev pub decreases-array : goal.decreases-array
decreases-array l = 16 * exprs_size (exprs_of l.exprs.now) + 1

abbrev pub decreases-assignments::assignment : goal.decreases-assignments::assignment
decreases-assignments::assignment l = 16 * expr_size (expr_of l.value.now) + 1

abbrev pub decreases-operators::beside : goal.decreases-operators::beside
decreases-operators::beside l = 16 * expr_size (expr_of l.right.now) + 1

abbrev pub decreases-operators::binary : goal.decreases-operators::binary
decreases-operators::binary l = 16 * (expr_size (expr_of l.left.now) + expr_size (expr_of l.right.now)) + 10

abbrev pub decreases-block : goal.decreases-block
decreases-block l = 16 * exprs_size (exprs_of l.items.now) + 2

abbrev pub decreases-arguments : goal.decreases-arguments
decreases-arguments l = 16 * args_size (args_of l.args.now) + 1

abbrev pub decreases-call : goal.decreases-call
decreases-call l = 16 * form_size (call_of l.call.now) + 11

abbrev pub decreases-closures::closure_call : goal.decreases-closures::closure_call
decreases-closures::closure_call l = 16 * closure_size (call_closure l.call.now) + 10

abbrev pub decreases-closures::iterated : goal.decreases-closures::iterated
decreases-closures::iterated l = 16 * exprs_size (closure_items l.closure.now) + 9

abbrev pub decreases-closures::all_runs : goal.decreases-closures::all_runs
decreases-closures::all_runs l = 16 * exprs_size (closure_items l.closure.now) + 8

abbrev pub decreases-closures::first_try : goal.decreases-closures::first_try
decreases-closures::first_try l = 16 * exprs_size (closure_items l.closure.now) + 7

abbrev pub decreases-closures::second_try : goal.decreases-closures::second_try
decreases-closures::second_try l = 16 * exprs_size (closure_items l.closure.now) + 6

abbrev pub decreases-closures::third_try : goal.decreases-closures::third_try
decreases-closures::third_try l = 16 * exprs_size (closure_items l.closure.now) + 5

abbrev pub decreases-closures::one_try : goal.decreases-closures::one_try
decreases-closures::one_try l = 16 * exprs_size (closure_items l.closure.now) + 4

abbrev pub decreases-closures::body : goal.decreases-closures::body
decreases-closures::body l = 16 * exprs_size (closure_items l.closure.now) + 3

abbrev pub decreases-branches::coalescing : goal.decreases-branches::coalescing
decreases-branches::coalescing l = 16 * (expr_size (expr_of l.left.now) + expr_size (expr_of l.right.now)) + 5

abbrev pub decreases-branches::conditional : goal.decreases-branches::conditional
decreases-branches::conditional l = 16 * (arms_size (arms_of l.arms.now) + else_size (else_of (option_map exprs_of l.otherwise.now))) + 6

abbrev pub decreases-branches::conjunction : goal.decreases-branches::conjunction
decreases-branches::conjunction l = 16 * (expr_size (expr_of l.left.now) + expr_size (expr_of l.right.now)) + 5

abbrev pub decreases-branches::disjunction : goal.decreases-branches::disjunction
decreases-branches::disjunction l = 16 * (expr_size (expr_of l.left.now) + expr_size (expr_of l.right.now)) + 5

abbrev pub decreases-operators::equality : goal.decreases-operators::equality
decreases-operators::equality l = 16 * (expr_size (expr_of l.left.now) + expr_size (expr_of l.right.now)) + 5

abbrev pub decreases-assignments::error_assignment : goal.decreases-assignments::error_assignment
decreases-assignments::error_assignment l = 16 * expr_size (expr_of l.value.now) + 1

abbrev pub decreases-expr : goal.decreases-expr
decreases-expr l = 16 * expr_size (expr_of l.expr.now)

abbrev pub decreases-form : goal.decreases-form
decreases-form l = 16 * form_size (form_of l.form.now) + 15

abbrev pub decreases-operators::merge : goal.decreases-operators::merge
decreases-operators::merge l = 16 * (expr_size (expr_of l.left.now) + expr_size (expr_of l.right.now)) + 5

abbrev pub decreases-assignments::merge_assignment : goal.decreases-assignments::merge_assignment
decreases-assignments::merge_assignment l = 16 * expr_size (expr_of l.value.now) + 5

abbrev pub decreases-operators::merge_into : goal.decreases-operators::merge_into
decreases-operators::merge_into l = 16 * expr_size (expr_of l.value.now) + 3

abbrev pub decreases-operators::negation : goal.decreases-operators::negation
decreases-operators::negation l = 16 * expr_size (expr_of l.inner.now) + 1

abbrev pub decreases-object : goal.decreases-object
decreases-object l = 16 * pairs_size (pairs_of l.pairs.now) + 1

abbrev pub decreases-operators::of_table : goal.decreases-operators::of_table
decreases-operators::of_table l = 16 * (expr_size (expr_of l.left.now) + expr_size (expr_of l.right.now)) + 5

abbrev pub decreases-operators::operands : goal.decreases-operators::operands
decreases-operators::operands l = 16 * (expr_size (expr_of l.left.now) + expr_size (expr_of l.right.now)) + 4

abbrev pub decreases-branches::last_way : goal.decreases-branches::last_way
decreases-branches::last_way l = 16 * else_size (else_of (option_map exprs_of l.otherwise.now)) + 3

abbrev pub decreases-query : goal.decreases-query
decreases-query l = 16 * expr_size (expr_of l.inner.now) + 1

abbrev pub decreases-return_with : goal.decreases-return_with
decreases-return_with l = 16 * expr_size (expr_of l.value.now) + 1

abbrev pub decreases-sequence : goal.decreases-sequence
decreases-sequence l = 16 * exprs_size (exprs_of l.items.now) + 1

-- what is judged of the parts that are left, behind those so far, is judged of all
abbrev pub invariant-array-loop-item : goal.invariant-array-loop-item
invariant-array-loop-item l = IsArrayPartway l.initial.checker l.checker (exprs_of l.exprs) (exprs_view (drop l.item-index l.item-items)) l.ends l.kinds.items

-- what is judged of the fields that are left, behind those so far, is judged of all
abbrev pub invariant-object-loop-name : goal.invariant-object-loop-name
invariant-object-loop-name l = IsObjectPartway l.initial.checker l.checker (pairs_of l.pairs) (pairs_view (drop l.name-index l.name-items)) l.ends l.fields.items

-- what is judged of the items that are left, behind those so far, is judged of all
abbrev pub invariant-sequence-loop-item : goal.invariant-sequence-loop-item
invariant-sequence-loop-item l = IsSequencePartway l.initial.checker l.checker (exprs_of l.items) (exprs_view (drop l.item-index l.item-items)) l.last

-- what the arms that are left give from here, all of them give from the start
abbrev pub invariant-branches::conditional-loop-arm : goal.invariant-branches::conditional-loop-arm
invariant-branches::conditional-loop-arm l = AreJudged (arms_of l.arms) (else_of (option_map exprs_of l.otherwise)) (arms_view (drop l.arm-index l.arm-items)) l.initial.checker l.checker l.ways

-- what is judged of the arguments that are left, behind those so far, is judged of all
abbrev pub invariant-arguments-loop-arg : goal.invariant-arguments-loop-arg
invariant-arguments-loop-arg l = IsArgumentsPartway l.initial.checker l.checker (args_of l.args) (args_view (drop l.arg-index l.arg-items)) l.parts.items l.ends
