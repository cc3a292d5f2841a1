use Rattle.std.proofs.Common.{◌≡◌, ◌+◌, ◌*◌, length, map, option_map}
use Rattle.std.specs.Vec.Iter.{into_iter_items, into_iter_len}
use Rattle.vrl_syntax.specs.View.{args_of, args_view, arms_of, arms_view, call_of, closure_in, closure_of, else_of, expr_of, exprs_of, exprs_view, message_of, pairs_of, pairs_view}
use Rattle.vrl_syntax.proofs.PartSizes.{args_size, arms_size, closure_size, else_size, expr_size, exprs_size, form_size, message_size, pairs_size}
use Rattle.vrl_resolve.specs.Linked.{arm_of, linked_of}
use Rattle.vrl_resolve.proofs.Partway.{IsArgsPartway, IsArmsPartway, IsItemsPartway, IsObjectPartway, pair_in}
use Rattle.vrl_resolve.proofs.link.Linker.+link.Given as goal

-- first by what is left of the script, then by who calls whom for the same part
abbrev pub decreases-abort : goal.decreases-abort
decreases-abort l = 5 * message_size (message_of (option_map (λ part. expr_of part.value) l.message)) + 2

abbrev pub decreases-args : goal.decreases-args
decreases-args l = 5 * args_size (args_of l.args) + 1

abbrev pub decreases-arms : goal.decreases-arms
decreases-arms l = 5 * arms_size (arms_of l.arms) + 2

abbrev pub decreases-array : goal.decreases-array
decreases-array l = 5 * exprs_size (exprs_of l.parts) + 2

abbrev pub decreases-assign : goal.decreases-assign
decreases-assign l = 5 * expr_size (expr_of l.part.value) + 2

abbrev pub decreases-binary : goal.decreases-binary
decreases-binary l = 5 * (expr_size (expr_of l.left.value) + expr_size (expr_of l.right.value)) + 2

abbrev pub decreases-block : goal.decreases-block
decreases-block l = 5 * exprs_size (exprs_of l.items) + 2

abbrev pub decreases-both : goal.decreases-both
decreases-both l = 5 * expr_size (expr_of l.part.value) + 2

abbrev pub decreases-boxed : goal.decreases-boxed
decreases-boxed l = 5 * expr_size (expr_of l.part.value) + 1

abbrev pub decreases-body : goal.decreases-body
decreases-body l = 5 * closure_size (closure_in (option_map closure_of l.closure)) + 2

abbrev pub decreases-call : goal.decreases-call
decreases-call l = 5 * form_size (call_of l.call) + 4

abbrev pub decreases-iteration : goal.decreases-iteration
decreases-iteration l = 5 * form_size (call_of l.call) + 3

abbrev pub decreases-plain_call : goal.decreases-plain_call
decreases-plain_call l = 5 * form_size (call_of l.call) + 3

abbrev pub decreases-conditional : goal.decreases-conditional
decreases-conditional l = 5 * (arms_size (arms_of l.arms) + else_size (else_of (option_map exprs_of l.otherwise))) + 3

abbrev pub decreases-give_back : goal.decreases-give_back
decreases-give_back l = 5 * expr_size (expr_of l.part.value) + 2

abbrev pub decreases-items : goal.decreases-items
decreases-items l = 5 * exprs_size (exprs_of l.items) + 1

abbrev pub decreases-merge : goal.decreases-merge
decreases-merge l = 5 * expr_size (expr_of l.part.value) + 2

abbrev pub decreases-negation : goal.decreases-negation
decreases-negation l = 5 * expr_size (expr_of l.part.value) + 2

abbrev pub decreases-node : goal.decreases-node
decreases-node l = 5 * expr_size (expr_of l.expr)

abbrev pub decreases-object : goal.decreases-object
decreases-object l = 5 * pairs_size (pairs_of l.pairs) + 1

abbrev pub decreases-otherwise : goal.decreases-otherwise
decreases-otherwise l = 5 * else_size (else_of (option_map exprs_of l.otherwise)) + 2

abbrev pub decreases-query : goal.decreases-query
decreases-query l = 5 * expr_size (expr_of l.part.value) + 2

-- what was linked so far, and what is left
abbrev pub invariant-args-loop-arg : goal.invariant-args-loop-arg
invariant-args-loop-arg l = record {
  partway : IsArgsPartway l.fn.self l.self (args_of l.fn.args) (args_view (into_iter_items l.arg-iterator)) (map linked_of l.nodes.items);
  as_many : into_iter_len l.arg-iterator ≡ length (into_iter_items l.arg-iterator);
}

abbrev pub invariant-arms-loop-arm : goal.invariant-arms-loop-arm
invariant-arms-loop-arm l = record {
  partway : IsArmsPartway l.fn.self l.self (arms_of l.fn.arms) (arms_view (into_iter_items l.arm-iterator)) (map arm_of l.linked.items);
  as_many : into_iter_len l.arm-iterator ≡ length (into_iter_items l.arm-iterator);
}

abbrev pub invariant-items-loop-item : goal.invariant-items-loop-item
invariant-items-loop-item l = record {
  partway : IsItemsPartway l.fn.self l.self (exprs_of l.fn.items) (exprs_view (into_iter_items l.item-iterator)) (map linked_of l.nodes.items);
  as_many : into_iter_len l.item-iterator ≡ length (into_iter_items l.item-iterator);
}

abbrev pub invariant-object-loop-name : goal.invariant-object-loop-name
invariant-object-loop-name l = record {
  partway : IsObjectPartway l.fn.self l.self (pairs_of l.fn.pairs) (pairs_view (into_iter_items l.name-iterator)) (map pair_in l.nodes.items);
  as_many : into_iter_len l.name-iterator ≡ length (into_iter_items l.name-iterator);
}
