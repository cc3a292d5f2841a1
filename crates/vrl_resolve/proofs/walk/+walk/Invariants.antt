use Rattle.std.proofs.Common.{◌≡◌, ◌≤◌, ◌<◌, ◌+◌, ◌*◌, ◌^◌, [], ◌++◌, None, drop, length, map, List}
use Rattle.std.specs.Vec.Iter.{into_iter_items, into_iter_len}
use Rattle.vrl_value.specs.Tree.{Tree, array as array_tree, no_members, null, object as object_tree}
use Rattle.vrl_value.specs.View.{items_of, items_view, members_of, members_view, tree_of}
use Rattle.vrl_store.specs.Outcomes.{Ended}
use Rattle.vrl_resolve.specs.Calls.{iterated}
use Rattle.vrl_resolve.specs.Iterating.{body_in, made_in}
use Rattle.vrl_resolve.specs.Linked.{Linked, arms_view, call_of, else_view, iteration_of, linked_of, message_view, pairs_view, parts_of_list, parts_view}
use Rattle.vrl_resolve.specs.LinkedMeaning.{all_mean, arms_mean, else_means, form_in, pairs_mean}
use Rattle.vrl_resolve.specs.Walking.{names_in, setting_in, store_at, AllFitIn, ArmsFitIn, PairsFitIn}
use Rattle.vrl_resolve.proofs.LinkedSizes.{arms_size, else_size, linked_size, message_size, pairs_size, parts_size}
use Rattle.vrl_resolve.proofs.Turns.{IsOverFields, IsOverItems}
use Rattle.vrl_resolve.proofs.Walks.{items_before, IsPartway}
use Rattle.vrl_resolve.proofs.walk.+walk.Given as goal

-- first by what is left of the script, then by who calls whom for the same part
abbrev pub decreases-eval : goal.decreases-eval
decreases-eval l = 16 * linked_size (linked_of l.node.now) + 15

abbrev pub decreases-abort : goal.decreases-abort
decreases-abort l = 16 * message_size (message_view l.message.now) + 16

abbrev pub decreases-answer : goal.decreases-answer
decreases-answer l = 16 * parts_size (parts_view l.args.now) + 17

abbrev pub decreases-array : goal.decreases-array
decreases-array l = 16 * parts_size (parts_view l.parts.now) + 17

abbrev pub decreases-beside : goal.decreases-beside
decreases-beside l = 16 * linked_size (linked_of l.right.now) + 16

abbrev pub decreases-binary : goal.decreases-binary
decreases-binary l = 16 * (linked_size (linked_of l.left.now) + linked_size (linked_of l.right.now)) + 21

abbrev pub decreases-block : goal.decreases-block
decreases-block l = 16 * parts_size (parts_view l.body.now) + 17

abbrev pub decreases-call : goal.decreases-call
decreases-call l = 16 * linked_size (call_of l.call.now) + 14

abbrev pub decreases-coalescing : goal.decreases-coalescing
decreases-coalescing l = 16 * (linked_size (linked_of l.left.now) + linked_size (linked_of l.right.now)) + 20

abbrev pub decreases-conditional : goal.decreases-conditional
decreases-conditional l = 16 * (arms_size (arms_view l.arms.now) + else_size (else_view l.otherwise.now)) + 18

abbrev pub decreases-conjunction : goal.decreases-conjunction
decreases-conjunction l = 16 * (linked_size (linked_of l.left.now) + linked_size (linked_of l.right.now)) + 20

abbrev pub decreases-disjunction : goal.decreases-disjunction
decreases-disjunction l = 16 * (linked_size (linked_of l.left.now) + linked_size (linked_of l.right.now)) + 20

abbrev pub decreases-give_back : goal.decreases-give_back
decreases-give_back l = 16 * linked_size (linked_of l.part.now) + 16

abbrev pub decreases-holds : goal.decreases-holds
decreases-holds l = 16 * linked_size (linked_of l.node.now) + 16

abbrev pub decreases-items : goal.decreases-items
decreases-items l = 16 * parts_size (parts_view l.items.now) + 16

abbrev pub decreases-negation : goal.decreases-negation
decreases-negation l = 16 * linked_size (linked_of l.part.now) + 16

abbrev pub decreases-object : goal.decreases-object
decreases-object l = 16 * pairs_size (pairs_view l.pairs.now) + 16

abbrev pub decreases-query : goal.decreases-query
decreases-query l = 16 * linked_size (linked_of l.part.now) + 16

abbrev pub decreases-values : goal.decreases-values
decreases-values l = 16 * parts_size (parts_view l.nodes.now) + 16

abbrev pub decreases-assignments::assign : goal.decreases-assignments::assign
decreases-assignments::assign l = 16 * linked_size (linked_of l.part.now) + 16

abbrev pub decreases-assignments::both : goal.decreases-assignments::both
decreases-assignments::both l = 16 * linked_size (linked_of l.part.now) + 17

abbrev pub decreases-assignments::merge : goal.decreases-assignments::merge
decreases-assignments::merge l = 16 * linked_size (linked_of l.part.now) + 18

abbrev pub decreases-assignments::outcome : goal.decreases-assignments::outcome
decreases-assignments::outcome l = 16 * linked_size (linked_of l.part.now) + 16

abbrev pub decreases-closures::iterate : goal.decreases-closures::iterate
decreases-closures::iterate l = 16 * (parts_size (parts_view l.args.now) + parts_size (parts_view l.body.now)) + 21

abbrev pub decreases-closures::iteration : goal.decreases-closures::iteration
decreases-closures::iteration l = 16 * linked_size (iteration_of l.iteration.now) + 14

abbrev pub decreases-closures::over : goal.decreases-closures::over
decreases-closures::over l = 16 * parts_size (parts_view l.body.now) + 20

abbrev pub decreases-closures::over_fields : goal.decreases-closures::over_fields
decreases-closures::over_fields l = 16 * parts_size (parts_view l.body.now) + 19

abbrev pub decreases-closures::over_items : goal.decreases-closures::over_items
decreases-closures::over_items l = 16 * parts_size (parts_view l.body.now) + 19

abbrev pub decreases-closures::run : goal.decreases-closures::run
decreases-closures::run l = 16 * parts_size (parts_view l.body.now) + 18

abbrev pub decreases-closures::run_with : goal.decreases-closures::run_with
decreases-closures::run_with l = 16 * parts_size (parts_view l.body.now) + 17

-- the values of what is left, behind those so far, are those of all, whatever stands behind them
abbrev pub invariant-values-loop-node : goal.invariant-values-loop-node
invariant-values-loop-node l = record {
  so_far : IsPartway {A = List Linked → Ended} l.context l.initial.store l.store
      (λ more. all_mean (names_in l.context) (setting_in l.context) (parts_of_list (map linked_of (drop l.node-index l.nodes) ++ more)) (map tree_of l.values.items) (store_at l.context l.store))
      (λ more. all_mean (names_in l.context) (setting_in l.context) (parts_of_list (map linked_of l.nodes ++ more)) [] (store_at l.context l.initial.store));
  counted : length l.values.items ≡ l.node-index;
  fits : AllFitIn l.context (parts_view (drop l.node-index l.nodes));
  fewer : parts_size (parts_view (drop l.node-index l.nodes)) ≤ parts_size (parts_view l.nodes);
}

-- what is left means, before a last item, what all means
abbrev pub invariant-items-loop-item : goal.invariant-items-loop-item
invariant-items-loop-item l = record {
  so_far : IsPartway {A = Linked → Tree → Ended} l.context l.initial.store l.store
      (items_before l.context (map linked_of (drop l.item-index l.others)) (store_at l.context l.store))
      (λ last v. items_before l.context (map linked_of l.others) (store_at l.context l.initial.store) last null);
  fits : AllFitIn l.context (parts_view (drop l.item-index l.others));
  fewer : parts_size (parts_view (drop l.item-index l.others)) ≤ parts_size (parts_view l.others);
}

-- what is left means, behind the fields so far, what all means
abbrev pub invariant-object-loop-name : goal.invariant-object-loop-name
invariant-object-loop-name l = record {
  so_far : IsPartway l.context l.initial.store l.store
      (pairs_mean (names_in l.context) (setting_in l.context) (pairs_view (drop l.name-index l.pairs)) (members_of l.fields) (store_at l.context l.store))
      (pairs_mean (names_in l.context) (setting_in l.context) (pairs_view l.pairs) no_members (store_at l.context l.initial.store));
  fits : PairsFitIn l.context (pairs_view (drop l.name-index l.pairs));
  fewer : pairs_size (pairs_view (drop l.name-index l.pairs)) ≤ pairs_size (pairs_view l.pairs);
}

-- the arms that are left mean, behind those before them, what all mean
abbrev pub invariant-conditional-loop-arm : goal.invariant-conditional-loop-arm
invariant-conditional-loop-arm l = record {
  so_far : IsPartway l.context l.initial.store l.store
      (arms_mean (names_in l.context) (setting_in l.context) (arms_view (drop l.arm-index l.arms)) (λ after. else_means (names_in l.context) (setting_in l.context) (else_view l.otherwise) after) (store_at l.context l.store))
      (arms_mean (names_in l.context) (setting_in l.context) (arms_view l.arms) (λ after. else_means (names_in l.context) (setting_in l.context) (else_view l.otherwise) after) (store_at l.context l.initial.store));
  fits : ArmsFitIn l.context (arms_view (drop l.arm-index l.arms));
  fewer : arms_size (arms_view (drop l.arm-index l.arms)) ≤ arms_size (arms_view l.arms);
}

-- what is left gives, behind what was made so far, what all gives
abbrev pub invariant-closures::over_items-loop-item : goal.invariant-closures::over_items-loop-item
invariant-closures::over_items-loop-item l = record {
  so_far : IsOverItems l.context l.function (parts_view l.body) l.initial.store l.store l.place (items_view (into_iter_items l.item-iterator)) (map tree_of l.made.items)
      (iterated (form_in l.function) (body_in l.context l.function (parts_view l.body)) (array_tree (items_of l.fn.items)) None (store_at l.context l.initial.store));
  as_many : into_iter_len l.item-iterator ≡ length (into_iter_items l.item-iterator);
  small : l.place + length (into_iter_items l.item-iterator) < 2 ^ 63;
}

abbrev pub invariant-closures::over_fields-loop-name : goal.invariant-closures::over_fields-loop-name
invariant-closures::over_fields-loop-name l =
    IsOverFields l.context l.function (parts_view l.body) l.initial.store l.store (members_view l.name-iterator) (made_in l.function l.made (members_view l.name-iterator))
    (iterated (form_in l.function) (body_in l.context l.function (parts_view l.body)) (object_tree (members_of l.fn.fields)) None (store_at l.context l.initial.store))
