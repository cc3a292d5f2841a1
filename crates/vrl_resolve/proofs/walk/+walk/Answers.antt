use Rattle.std.proofs.Common.{List, [], None, Some, ap, ap₂, arith, false, length, length-append, map, option_map, take, refl, rules, subst, sym, true, ℕ, ◌+◌, ◌++◌, ◌∙◌, ◌∷◌, ◌≡◌}
use Rattle.std.specs.String.{string_bytes}
use Rattle.std.specs.Vec.Iter.{into_iter_items}
use Rattle.std.specs.declared.result.Result.TheVariants.{Ok}
use Rattle.std.proofs.lemmas.Result.{err_from_is_err_and}
use Rattle.vrl_store.specs.Operators.{applied}
use Rattle.vrl_store.specs.Outcomes.{Ended, banged_if, block_left, ends, error, on_error, on_value, value}
use Rattle.vrl_store.specs.Places.{target_value, writes_to}
use Rattle.vrl_store.specs.Results.{Ends, Stops}
use Rattle.vrl_store.specs.StoreView.{present_of}
use Rattle.vrl_store.specs.WellFormed.{IsWellFormed}
use Rattle.vrl_builtin.specs.TagSets.{allows}
use Rattle.vrl_binding.specs.Binding.{collections}
use Rattle.vrl_value.specs.Look.{item_at}
use Rattle.vrl_value.specs.Tag.{tag_of}
use Rattle.vrl_resolve.proofs.BodyNames.{bound_ready, bound_then, count_within, front_again, known_slot, may_be_given_back, one_name_ends, stays_again, two_names_end}
use Rattle.vrl_resolve.proofs.Gives.{gives_ends}
use Rattle.vrl_resolve.proofs.LinkedSizes.{arms_fewer, else_size, first_size, last_fewer, linked_size, message_size, pairs_fewer, parts_fewer}
use Rattle.vrl_resolve.proofs.NodeForms.{asked_as, ended_as, of_arm, of_boxed, of_call, of_iteration, told_as}
use Rattle.vrl_resolve.proofs.Partway.{none_left, one_gone}
use Rattle.vrl_resolve.proofs.Turns.{args_ready, collection_formed, field_values, fields_begin, fields_end, fields_stop, fields_turn, item_values, items_begin, items_end, items_stop, items_turn, iterate_ends, arrays_taken, none_given, is_container, objects_taken, other_is_refused, refused_ends, taken_ends}
use Rattle.vrl_resolve.proofs.WalkArms.{arm_fits, arm_passed, arm_taken, arms_end}
use Rattle.vrl_resolve.proofs.WalkCalls.{call_ends, call_stops, first_fit, given_are_of, given_formed, left_formed}
use Rattle.vrl_resolve.proofs.Walks.{after_error, after_stop, array_ends, array_stops, asks_both, assigned_ends, assigned_stops, before_end, before_next, before_start, before_stop, beside_ends, block_store, both_end, copy_told, ends_then, first_stops, items_before, known_base, last_fits, last_part, names_after, next_pair, next_part, pairs_end, pairs_next, parts_end, parts_next, parts_stop, ready_after, second_stops, stays_here, stays_then, told_anyhow, told_asked}
use Rattle.vrl_resolve.specs.Calls as called
use Rattle.vrl_resolve.specs.Calls.{acts, items_in, iterated}
use Rattle.vrl_resolve.specs.Fits.{AreKnownSlots}
use Rattle.vrl_resolve.specs.Iterating.{body_in, made_in, made_items, takes_arrays, Binds, IsFieldHeld}
use Rattle.vrl_resolve.specs.Linked.{abort_with, arms_view, array, assign, binary, block, both, call_of, conditional, else_block, else_view, iteration_of, linked_of, literal, merge, message, message_view, negation, object, pairs_view, Parts, parts_of_list, parts_view, query, read, return_of}
use Rattle.vrl_resolve.specs.LinkedMeaning.{all_mean, arms_mean, callee_in, else_means, form_in, items_mean, means, no_body, pairs_mean, target_of}
use Rattle.vrl_resolve.specs.Meaning.{both_assigned, combined}
use Rattle.vrl_resolve.specs.Walking.{AllFitIn, ElseFitsIn, EndsAsked, FitsIn, MessageFitsIn, PairsFitIn, Stays, meant, names_in, setting_in, store_at}
use Rattle.vrl_resolve.specs.declared.node.Arm.{out-Arm}
use Rattle.vrl_resolve.specs.declared.node.Call.{out-Call}
use Rattle.vrl_resolve.specs.declared.node.Form.{the_lemmas}
use Rattle.vrl_resolve.specs.declared.node.Iteration.{out-Iteration}
use Rattle.vrl_syntax.specs.Stores.{Store, store_kept}
use Rattle.vrl_value.specs.Tree.{array as items, no_items, no_members, null, object as members, put, string}
use Rattle.vrl_value.specs.View.{items_of, items_of_trees, items_view, members_of, members_view, tree_of}
use Rattle.vrl_value.specs.declared.value.Value.{the_lemmas as value_lemmas}
use Rattle.vrl_syntax.specs.declared.root.Op.TheVariants as ops
use Rattle.vrl_value.specs.declared.value.Tag.TheVariants as tags
use Rattle.vrl_value.specs.declared.value.Value.TheVariants as values
use Rattle.vrl_resolve.proofs.walk.+walk.Goals as goal

pub abort-eval-requires : goal.abort-eval-requires
abort-eval-requires t c =
    let here0 : c.deref.result.now ≡ c.in-Some.part.value = search rules in
    let is : message_view c.args.message.now ≡ message (linked_of c.deref.result.now) = ap message_view c.in-Some.is ∙ ap (λ n. message (linked_of n)) (sym here0) in
    (omega (arith, c.decreases, ap message_size is), (c.requires.ready, subst (MessageFitsIn c.args.context.now) is c.requires.fits))

pub answer-act-requires-clause-formed : goal.answer-act-requires-clause-formed
answer-act-requires-clause-formed t c = left_formed c.meanings_stay_well_formed.ensures c.args.context.now c.run_before-count.result c.args.args.now c.args.store.now c.values.new.store (map tree_of c.in_ok-run.run'.items) c.requires.fits c.requires.ready c.in_ok-run.ensures.ended

pub answer-act-requires-clause-of_args : goal.answer-act-requires-clause-of_args
answer-act-requires-clause-of_args t c = given_are_of c.args.context.now c.run_before-count.result c.args.args.now c.args.store.now c.values.new.store (map tree_of c.in_ok-run.run'.items) c.in_ok-run.ensures.ended

pub answer-act-requires-clause-run : goal.answer-act-requires-clause-run
answer-act-requires-clause-run t c = given_formed c.meanings_stay_well_formed.ensures c.args.context.now c.run_before-count.result c.args.args.now c.args.store.now c.values.new.store (map tree_of c.in_ok-run.run'.items) c.requires.fits c.requires.ready c.in_ok-run.ensures.ended

pub answer-returns-clause-ended : goal.answer-returns-clause-ended
answer-returns-clause-ended t c =
    let x = c.args.context.now in
    call_ends x c.run_before-count.result c.args.args.now c.args.callee.now c.in_ok-run.run'.items c.args.store.now c.values.new.store (store_at x c.act.new.store) c.act.result c.run_before-count.ensures.within c.run_before-count.ensures.plain c.in_ok-run.ensures.counted
    c.in_ok-run.ensures.ended c.act.ensures.ends

pub answer-returns-in_err-run-clause-ended : goal.answer-returns-in_err-run-clause-ended
answer-returns-in_err-run-clause-ended t c =
    let x = c.args.context.now in
    let told : Stops (on_value (all_mean (names_in x) (setting_in x) (parts_view c.args.args.now) [] (store_at x c.args.store.now)) (λ vs after. acts (setting_in x) (callee_in (names_in x) c.args.callee.now) no_body (items_in vs) after)) (store_at x c.values.new.store) c.in_err-run.field-0.0 =
    call_stops x c.run_before-count.result c.args.args.now c.args.callee.now c.args.store.now (store_at x c.values.new.store) c.in_err-run.field-0.0 c.in_err-run.ensures.ended in
    search rules

pub answer-values-requires : goal.answer-values-requires
answer-values-requires t c =
    let fewer = first_size c.run_before-count.result c.args.args.now in
    (omega (arith, c.decreases, fewer), (c.requires.ready, first_fit c.args.context.now c.run_before-count.result c.args.args.now c.requires.fits))

pub array-returns-clause-ended : goal.array-returns-clause-ended
array-returns-clause-ended t c =
    let x = c.args.context.now in
    let one : tree_of (values.List c.new.result) ≡ items (items_of c.new.result) = search (rules, value_lemmas) in
    array_ends x (map linked_of c.args.parts.now) c.args.store.now c.values.new.store (map tree_of c.in_ok-values.values.items) c.in_ok-values.ensures.ended
    ∙ ap (λ v. ends (value v) (store_at x c.values.new.store)) (sym (one ∙ ap items c.new.ensures))

pub array-returns-in_err-values-clause-ended : goal.array-returns-in_err-values-clause-ended
array-returns-in_err-values-clause-ended t c =
    let x = c.args.context.now in
    let told : Stops (meant x (array (parts_view c.args.parts.now)) c.args.store.now) (store_at x c.values.new.store) c.in_err-values.field-0.0 =
    array_stops x (map linked_of c.args.parts.now) c.args.store.now (store_at x c.values.new.store) c.in_err-values.field-0.0 c.in_err-values.ensures.ended in
    search rules

pub array-values-requires : goal.array-values-requires
array-values-requires t c =
    (omega (arith, c.decreases), (c.requires.ready, c.requires.fits))

pub beside-eval-requires : goal.beside-eval-requires
beside-eval-requires t c =
    (omega (arith, c.decreases), (c.requires.ready, c.requires.fits))

pub binary-beside-requires : goal.binary-beside-requires
binary-beside-requires t c = (
  omega (arith, c.decreases),
  (
    ready_after c.args.context.now c.args.store.now c.eval.new.store (linked_of c.args.left.now) (value (tree_of c.in_ok-left-in_default.left)) c.meanings_stay_well_formed.ensures c.requires.left c.in_ok-left-in_default.ensures.ended c.requires.ready c.in_ok-left-in_default.ensures.stays,
    c.requires.right,
  ),
)

pub binary-coalescing-requires : goal.binary-coalescing-requires
binary-coalescing-requires t c =
    (omega (arith, c.decreases), (c.requires.ready, (c.requires.left, c.requires.right)))

pub binary-conjunction-requires : goal.binary-conjunction-requires
binary-conjunction-requires t c =
    (omega (arith, c.decreases), (c.requires.ready, (c.requires.left, c.requires.right)))

pub binary-disjunction-requires : goal.binary-disjunction-requires
binary-disjunction-requires t c =
    (omega (arith, c.decreases), (c.requires.ready, (c.requires.left, c.requires.right)))

pub binary-eval-requires : goal.binary-eval-requires
binary-eval-requires t c =
    (omega (arith, c.decreases), (c.requires.ready, c.requires.left))

pub binary-returns-in_ok-left-in_default : goal.binary-returns-in_ok-left-in_default
binary-returns-in_ok-left-in_default t c =
    let x = c.args.context.now in
    let left = meant x (linked_of c.args.left.now) c.args.store.now in
    let right : Store → Ended = λ after. means (names_in x) (setting_in x) (linked_of c.args.right.now) after in
    let asks = asks_both c.args.op left right c.in_default.not-Coalesce c.in_default.not-Or c.in_default.not-And in
    record {
      ended = beside_ends c.args.op left right (tree_of c.in_ok-left-in_default.left) (store_at x c.eval.new.store) (store_at x c.beside.new.store) c.beside.result asks c.in_ok-left-in_default.ensures.ended c.beside.ensures.ended;
      stays = stays_then c.args.store.now c.eval.new.store c.beside.new.store c.in_ok-left-in_default.ensures.stays c.beside.ensures.stays;
    }

pub binary-returns-in-Some : goal.binary-returns-in-Some
binary-returns-in-Some t c =
    let x = c.args.context.now in
    let right : Store → Ended = λ after. means (names_in x) (setting_in x) (linked_of c.args.right.now) after in
    let asks = asks_both c.args.op (meant x (linked_of c.args.left.now) c.args.store.now) right c.in_default.not-Coalesce c.in_default.not-Or c.in_default.not-And in
    record {
      ended = subst (λ e. Ends e (store_at x c.args.store.now) c.in-Some.value) (sym asks) c.in-Some.ensures;
      stays = stays_here c.args.store.now;
    }

pub block-items-value-requires : goal.block-items-value-requires
block-items-value-requires t c =
    (omega (arith, c.decreases), (c.requires.ready, c.requires.fits))

pub block-returns-clause-ended : goal.block-returns-clause-ended
block-returns-clause-ended t c =
    let x = c.args.context.now in
    let before = c.args.store.now in
    let middle = c.items-value.new.store in
    let m = items_mean (names_in x) (setting_in x) null (parts_view c.args.body.now) (store_at x before) in
    let left = c.leave.ensures.left (names_in x) (names_after (names_in x) before middle c.requires.ready.names c.items-value.ensures.stays) in
    let store = block_store x before middle c.leave.new.self c.count-count.result c.requires.ready c.items-value.ensures.stays c.count-count.ensures left in
    subst (λ s. EndsAsked c.args.is_asked (block_left (store_at x before) m) s c.items-value.result) store
    (ends_then c.args.is_asked (store_kept (store_at x before)) m (store_at x middle) c.items-value.result c.items-value.ensures.ended)

pub call-answer-value-requires : goal.call-answer-value-requires
call-answer-value-requires t c =
    let is = of_call c.args.call.now c.deref.result.now (search rules) in
    let fits = subst (FitsIn c.args.context.now) is c.requires.fits in
    (omega (arith, c.decreases, ap linked_size is), (c.requires.ready, (fits.0, fits.1)))

pub call-returns-then-call-clause-ended : goal.call-returns-then-call-clause-ended
call-returns-then-call-clause-ended t c =
    let x = c.args.context.now in
    let a = out-Call c.args.call.now in
    let is = of_call c.args.call.now c.deref.result.now (search rules) in
    let e = on_value (all_mean (names_in x) (setting_in x) (parts_view c.deref.result.now) [] (store_at x c.args.store.now)) (λ vs after. acts (setting_in x) (callee_in (names_in x) a.callee) no_body (items_in vs) after) in
    let t = store_at x c.answer-value.new.store in
    ended_as x c.args.store.now c.answer-value.new.store c.banged.result is
    (subst (λ b. Ends (banged_if b e) t c.banged.result) (sym c.if-call.true) (c.banged.ensures.ends e t c.answer-value.ensures.ended))

pub coalescing-eval-requires : goal.coalescing-eval-requires
coalescing-eval-requires t c =
    let x = c.args.context.now in
    let told = rw c.in-None.is at (c.in_ok-value.ensures.ends (meant x (linked_of c.args.left.now) c.args.store.now) (store_at x c.eval-value.new.store) (told_asked (meant x (linked_of c.args.left.now) c.args.store.now) (store_at x c.eval-value.new.store) c.eval-value.result c.eval-value.ensures.ended)) in (
      omega (arith, c.decreases),
      (
        ready_after x c.args.store.now c.eval-value.new.store (linked_of c.args.left.now) (error told.0) c.meanings_stay_well_formed.ensures c.requires.left told.1 c.requires.ready c.eval-value.ensures.stays,
        c.requires.right,
      ),
    )

pub coalescing-eval-value-requires : goal.coalescing-eval-value-requires
coalescing-eval-value-requires t c =
    (omega (arith, c.decreases), (c.requires.ready, c.requires.left))

pub coalescing-returns-in-None-clause-ended : goal.coalescing-returns-in-None-clause-ended
coalescing-returns-in-None-clause-ended t c =
    let x = c.args.context.now in
    let told = rw c.in-None.is at (c.in_ok-value.ensures.ends (meant x (linked_of c.args.left.now) c.args.store.now) (store_at x c.eval-value.new.store) (told_asked (meant x (linked_of c.args.left.now) c.args.store.now) (store_at x c.eval-value.new.store) c.eval-value.result c.eval-value.ensures.ended)) in
    after_error (meant x (linked_of c.args.left.now) c.args.store.now) (λ text after. means (names_in x) (setting_in x) (linked_of c.args.right.now) after) told.0 (store_at x c.eval-value.new.store) (store_at x c.eval.new.store) c.eval.result told.1 (told_asked (means (names_in x) (setting_in x) (linked_of c.args.right.now) (store_at x c.eval-value.new.store)) (store_at x c.eval.new.store) c.eval.result c.eval.ensures.ended)

pub coalescing-returns-in-Some-clause-ended : goal.coalescing-returns-in-Some-clause-ended
coalescing-returns-in-Some-clause-ended t c =
    let x = c.args.context.now in
    let told = rw c.in-Some.is at (c.in_ok-value.ensures.ends (meant x (linked_of c.args.left.now) c.args.store.now) (store_at x c.eval-value.new.store) (told_asked (meant x (linked_of c.args.left.now) c.args.store.now) (store_at x c.eval-value.new.store) c.eval-value.result c.eval-value.ensures.ended)) in
    ap (λ e. on_error e (λ text after. means (names_in x) (setting_in x) (linked_of c.args.right.now) after)) told

pub coalescing-returns-in_err-value-clause-ended : goal.coalescing-returns-in_err-value-clause-ended
coalescing-returns-in_err-value-clause-ended t c =
    let x = c.args.context.now in
    let left = meant x (linked_of c.args.left.now) c.args.store.now in
    let next : List ℕ → Store → Ended = λ text after. means (names_in x) (setting_in x) (linked_of c.args.right.now) after in
    let given : Stops (on_error left next) (store_at x c.eval-value.new.store) c.in_err-value.field-0.0 = c.in_err-value.ensures.ends left (store_at x c.eval-value.new.store) (told_asked (meant x (linked_of c.args.left.now) c.args.store.now) (store_at x c.eval-value.new.store) c.eval-value.result c.eval-value.ensures.ended) next in
    search rules

pub conditional-block-requires : goal.conditional-block-requires
conditional-block-requires t c =
    let l = c.loop-arm in
    let x = c.args.context.now in
    let a = out-Arm c.arm-item.result in
    let is = of_arm c.arm-item.result c.deref.result.now (search rules) in
    let fits = arm_fits x c.args.arms.now l.arm-index c.arm-item.result (linked_of a.predicate) (parts_view c.deref.result.now) c.loop-arm-test.true c.arm-item.is is l.invariant.fits in
    let size = arms_fewer c.args.arms.now l.arm-index c.arm-item.result (linked_of a.predicate) (parts_view c.deref.result.now) c.loop-arm-test.true c.arm-item.is is in
    let told = c.in_ok-holds.ensures.ended in (
      omega (arith, c.decreases, l.invariant.fewer, size),
      (
        ready_after x l.store c.holds.new.store (linked_of a.predicate) (value told.0) c.meanings_stay_well_formed.ensures fits.0 told.1.0 l.invariant.so_far.ready c.in_ok-holds.ensures.stays,
        fits.1.0,
      ),
    )

pub conditional-block-requires-in-Some : goal.conditional-block-requires-in-Some
conditional-block-requires-in-Some t c =
    let l = c.loop-arm in
    let here : c.deref-in-Some.result.now ≡ c.in-Some.items.items = search rules in
    let is : else_view c.args.otherwise.now ≡ else_block (parts_view c.deref-in-Some.result.now) = ap else_view c.in-Some.is ∙ ap (λ ns. else_block (parts_view ns)) (sym here) in
    (omega (arith, c.decreases, ap else_size is), (l.invariant.so_far.ready, subst (ElseFitsIn c.args.context.now) is c.requires.otherwise))

pub conditional-holds-requires : goal.conditional-holds-requires
conditional-holds-requires t c =
    let l = c.loop-arm in
    let x = c.args.context.now in
    let a = out-Arm c.arm-item.result in
    let is = of_arm c.arm-item.result a.body.items refl in
    let fits = arm_fits x c.args.arms.now l.arm-index c.arm-item.result (linked_of a.predicate) (parts_view a.body.items) c.loop-arm-test.true c.arm-item.is is l.invariant.fits in
    let size = arms_fewer c.args.arms.now l.arm-index c.arm-item.result (linked_of a.predicate) (parts_view a.body.items) c.loop-arm-test.true c.arm-item.is is in
    (omega (arith, c.decreases, l.invariant.fewer, size), (l.invariant.so_far.ready, fits.0))

pub conditional-loop-arm-preserved : goal.conditional-loop-arm-preserved
conditional-loop-arm-preserved t c =
    let l = c.loop-arm in
    let x = c.args.context.now in
    let a = out-Arm c.arm-item.result in
    let is = of_arm c.arm-item.result a.body.items refl in
    let told = c.in_ok-holds.ensures.ended in
    let otherwise : Store → Ended = λ after. else_means (names_in x) (setting_in x) (else_view c.args.otherwise.now) after in
    let next = arm_passed c.meanings_stay_well_formed.ensures x c.args.store.now l.store c.holds.new.store c.args.arms.now l.arm-index c.arm-item.result (linked_of a.predicate) (parts_view a.body.items) otherwise (arms_mean (names_in x) (setting_in x) (arms_view c.args.arms.now) otherwise (store_at x c.args.store.now)) c.in_ok-holds.field-0 told.0
    c.loop-arm-test.true c.arm-item.is is l.invariant.fits l.invariant.so_far told.1.0 told.1.1 c.if-branch.false c.in_ok-holds.ensures.stays in
    let size = arms_fewer c.args.arms.now l.arm-index c.arm-item.result (linked_of a.predicate) (parts_view a.body.items) c.loop-arm-test.true c.arm-item.is is in
    record { so_far = next.0; fits = next.1; fewer = omega (arith, l.invariant.fewer, size) }

pub conditional-returns-in-None-clause-ended : goal.conditional-returns-in-None-clause-ended
conditional-returns-in-None-clause-ended t c =
    let l = c.loop-arm in
    let x = c.args.context.now in
    let otherwise : Store → Ended = λ after. else_means (names_in x) (setting_in x) (else_view c.args.otherwise.now) after in
    let is : tree_of values.Null ≡ null = search (rules, value_lemmas) in
    let whole = arms_mean (names_in x) (setting_in x) (arms_view c.args.arms.now) otherwise (store_at x c.args.store.now) in
    told_anyhow c.args.is_asked whole (store_at x l.store) (Ok values.Null)
    (arms_end x c.args.store.now l.store c.args.arms.now l.arm-index otherwise _ c.loop-arm-test.false l.invariant.so_far
    ∙ ap (λ o. else_means (names_in x) (setting_in x) (else_view o) (store_at x l.store)) c.in-None.is ∙ ap (λ v. ends (value v) (store_at x l.store)) (sym is))

pub conditional-returns-then-branch-clause-ended : goal.conditional-returns-then-branch-clause-ended
conditional-returns-then-branch-clause-ended t c =
    let l = c.loop-arm in
    let x = c.args.context.now in
    let a = out-Arm c.arm-item.result in
    let is = of_arm c.arm-item.result c.deref.result.now (search rules) in
    let told = c.in_ok-holds.ensures.ended in
    let otherwise : Store → Ended = λ after. else_means (names_in x) (setting_in x) (else_view c.args.otherwise.now) after in
    arm_taken x c.args.store.now l.store c.holds.new.store c.args.arms.now l.arm-index c.arm-item.result (linked_of a.predicate) (parts_view c.deref.result.now) otherwise (arms_mean (names_in x) (setting_in x) (arms_view c.args.arms.now) otherwise (store_at x c.args.store.now)) c.in_ok-holds.field-0 told.0 (store_at x c.block.new.store) c.args.is_asked c.block.result
    c.loop-arm-test.true c.arm-item.is is l.invariant.so_far told.1.0 told.1.1 c.if-branch.true c.block.ensures.ended

pub conjunction-eval-requires : goal.conjunction-eval-requires
conjunction-eval-requires t c =
    (omega (arith, c.decreases), (c.requires.ready, c.requires.left))

pub conjunction-eval-requires-2 : goal.conjunction-eval-requires-2
conjunction-eval-requires-2 t c = (
  omega (arith, c.decreases),
  (
    ready_after c.args.context.now c.args.store.now c.eval.new.store (linked_of c.args.left.now) (value (tree_of c.in_ok-value.value)) c.meanings_stay_well_formed.ensures c.requires.left c.in_ok-value.ensures.ended c.requires.ready c.in_ok-value.ensures.stays,
    c.requires.right,
  ),
)

pub disjunction-eval-requires : goal.disjunction-eval-requires
disjunction-eval-requires t c =
    (omega (arith, c.decreases), (c.requires.ready, c.requires.left))

pub disjunction-eval-requires-then-is_falsy : goal.disjunction-eval-requires-then-is_falsy
disjunction-eval-requires-then-is_falsy t c = (
  omega (arith, c.decreases),
  (
    ready_after c.args.context.now c.args.store.now c.eval.new.store (linked_of c.args.left.now) (value (tree_of c.in_ok-value.value)) c.meanings_stay_well_formed.ensures c.requires.left c.in_ok-value.ensures.ended c.requires.ready c.in_ok-value.ensures.stays,
    c.requires.right,
  ),
)

pub disjunction-returns-then-is_falsy-clause-ended : goal.disjunction-returns-then-is_falsy-clause-ended
disjunction-returns-then-is_falsy-clause-ended t c =
    let x = c.args.context.now in
    let right = means (names_in x) (setting_in x) (linked_of c.args.right.now) (store_at x c.eval.new.store) in
    let told = told_asked right (store_at x c.eval-then-is_falsy.new.store) c.eval-then-is_falsy.result c.eval-then-is_falsy.ensures.ended in
    search rules

pub eval-abort-requires : goal.eval-abort-requires
eval-abort-requires t c =
    let is : linked_of c.args.node.now ≡ abort_with (message_view c.in-Abort.message) = search (rules, the_lemmas) in
    let fits = subst (FitsIn c.args.context.now) is c.requires.fits in
    (omega (arith, c.decreases, ap linked_size is), (c.requires.ready, fits))

pub eval-array-requires : goal.eval-array-requires
eval-array-requires t c =
    let is = of_boxed (linked_of c.args.node.now) (λ n. array (parts_view n)) c.deref.result.now c.in-Array.parts.items (search rules) (search (rules, the_lemmas)) in
    let fits = subst (FitsIn c.args.context.now) is c.requires.fits in
    (omega (arith, c.decreases, ap linked_size is), (c.requires.ready, fits))

pub eval-assign-requires : goal.eval-assign-requires
eval-assign-requires t c =
    let is = of_boxed (linked_of c.args.node.now) (λ n. assign c.in-Assign.target (linked_of n)) c.deref-in-Assign.result.now c.in-Assign.part.value (search rules) (search (rules, the_lemmas)) in
    let fits = subst (FitsIn c.args.context.now) is c.requires.fits in
    (omega (arith, c.decreases, ap linked_size is), (c.requires.ready, (fits.0, fits.1)))

pub eval-binary-requires : goal.eval-binary-requires
eval-binary-requires t c =
    let here0 : c.deref-in-Binary.result.now ≡ c.in-Binary.left.value = search rules in
    let here1 : c.deref-in-Binary-2.result.now ≡ c.in-Binary.right.value = search rules in
    let at_box : linked_of c.args.node.now ≡ binary c.in-Binary.op (linked_of c.in-Binary.left.value) (linked_of c.in-Binary.right.value) = search (rules, the_lemmas) in
    let is : linked_of c.args.node.now ≡ binary c.in-Binary.op (linked_of c.deref-in-Binary.result.now) (linked_of c.deref-in-Binary-2.result.now) = at_box ∙ ap₂ (λ n m. binary c.in-Binary.op (linked_of n) (linked_of m)) (sym here0) (sym here1) in
    let fits = subst (FitsIn c.args.context.now) is c.requires.fits in
    (omega (arith, c.decreases, ap linked_size is), (c.requires.ready, (fits.0, fits.1)))

pub eval-block-requires : goal.eval-block-requires
eval-block-requires t c =
    let is = of_boxed (linked_of c.args.node.now) (λ n. block (parts_view n)) c.deref-in-Block.result.now c.in-Block.items.items (search rules) (search (rules, the_lemmas)) in
    let fits = subst (FitsIn c.args.context.now) is c.requires.fits in
    (omega (arith, c.decreases, ap linked_size is), (c.requires.ready, fits))

pub eval-both-requires : goal.eval-both-requires
eval-both-requires t c =
    let is = of_boxed (linked_of c.args.node.now) (λ n. both c.in-Both.ok c.in-Both.err c.in-Both.tag (linked_of n)) c.deref-in-Both.result.now c.in-Both.part.value (search rules) (search (rules, the_lemmas)) in
    let fits = subst (FitsIn c.args.context.now) is c.requires.fits in
    (omega (arith, c.decreases, ap linked_size is), (c.requires.ready, (fits.0, (fits.1.0, fits.1.1))))

pub eval-call-requires : goal.eval-call-requires
eval-call-requires t c =
    let is = of_boxed (linked_of c.args.node.now) (λ n. call_of n) c.deref-in-Call.result.now c.in-Call.called.value (search rules) (search (rules, the_lemmas)) in
    let fits = subst (FitsIn c.args.context.now) is c.requires.fits in
    (omega (arith, c.decreases, ap linked_size is), (c.requires.ready, fits))

pub eval-conditional-requires : goal.eval-conditional-requires
eval-conditional-requires t c =
    let is = of_boxed (linked_of c.args.node.now) (λ n. conditional (arms_view n) (else_view c.in-If.otherwise)) c.deref-in-If.result.now c.in-If.arms.items (search rules) (search (rules, the_lemmas)) in
    let fits = subst (FitsIn c.args.context.now) is c.requires.fits in
    (omega (arith, c.decreases, ap linked_size is), (c.requires.ready, (fits.0, fits.1)))

pub eval-give_back-requires : goal.eval-give_back-requires
eval-give_back-requires t c =
    let is = of_boxed (linked_of c.args.node.now) (λ n. return_of (linked_of n)) c.deref-in-Return.result.now c.in-Return.part.value (search rules) (search (rules, the_lemmas)) in
    let fits = subst (FitsIn c.args.context.now) is c.requires.fits in
    (omega (arith, c.decreases, ap linked_size is), (c.requires.ready, fits))

pub eval-merge-requires : goal.eval-merge-requires
eval-merge-requires t c =
    let is = of_boxed (linked_of c.args.node.now) (λ n. merge c.in-Merge.target (linked_of n)) c.deref-in-Merge.result.now c.in-Merge.part.value (search rules) (search (rules, the_lemmas)) in
    let fits = subst (FitsIn c.args.context.now) is c.requires.fits in
    (omega (arith, c.decreases, ap linked_size is), (c.requires.ready, (fits.0, fits.1)))

pub eval-negation-requires : goal.eval-negation-requires
eval-negation-requires t c =
    let is = of_boxed (linked_of c.args.node.now) (λ n. negation (linked_of n)) c.deref-in-Not.result.now c.in-Not.part.value (search rules) (search (rules, the_lemmas)) in
    let fits = subst (FitsIn c.args.context.now) is c.requires.fits in
    (omega (arith, c.decreases, ap linked_size is), (c.requires.ready, fits))

pub eval-object-requires : goal.eval-object-requires
eval-object-requires t c =
    let is = of_boxed (linked_of c.args.node.now) (λ n. object (pairs_view n)) c.deref-in-Object.result.now c.in-Object.pairs.items (search rules) (search (rules, the_lemmas)) in
    let fits = subst (FitsIn c.args.context.now) is c.requires.fits in
    (omega (arith, c.decreases, ap linked_size is), (c.requires.ready, fits))

pub eval-query-requires : goal.eval-query-requires
eval-query-requires t c =
    let is = of_boxed (linked_of c.args.node.now) (λ n. query (linked_of n) c.in-Query.path) c.deref-in-Query.result.now c.in-Query.part.value (search rules) (search (rules, the_lemmas)) in
    let fits = subst (FitsIn c.args.context.now) is c.requires.fits in
    (omega (arith, c.decreases, ap linked_size is), (c.requires.ready, fits))

pub eval-read-requires : goal.eval-read-requires
eval-read-requires t c =
    let is : linked_of c.args.node.now ≡ read c.in-Read.place = search (rules, the_lemmas) in
    record { base = known_base c.args.context.now c.args.store.now c.in-Read.place.base c.requires.ready.names (subst (FitsIn c.args.context.now) is c.requires.fits) }

pub eval-returns-in-Abort-clause-ended : goal.eval-returns-in-Abort-clause-ended
eval-returns-in-Abort-clause-ended t c =
    let is : linked_of c.args.node.now ≡ abort_with (message_view c.in-Abort.message) = search (rules, the_lemmas) in
    told_as c.args.context.now c.args.store.now c.abort.new.store c.args.is_asked c.abort.result is c.abort.ensures.ended

pub eval-returns-in-Array-clause-ended : goal.eval-returns-in-Array-clause-ended
eval-returns-in-Array-clause-ended t c =
    let is = of_boxed (linked_of c.args.node.now) (λ n. array (parts_view n)) c.deref.result.now c.in-Array.parts.items (search rules) (search (rules, the_lemmas)) in
    told_as c.args.context.now c.args.store.now c.array.new.store c.args.is_asked c.array.result is c.array.ensures.ended

pub eval-returns-in-Assign-clause-ended : goal.eval-returns-in-Assign-clause-ended
eval-returns-in-Assign-clause-ended t c =
    let is = of_boxed (linked_of c.args.node.now) (λ n. assign c.in-Assign.target (linked_of n)) c.deref-in-Assign.result.now c.in-Assign.part.value (search rules) (search (rules, the_lemmas)) in
    asked_as c.args.context.now c.args.store.now c.assign.new.store c.args.is_asked c.assign.result is c.assign.ensures.ended

pub eval-returns-in-Binary-clause-ended : goal.eval-returns-in-Binary-clause-ended
eval-returns-in-Binary-clause-ended t c =
    let here0 : c.deref-in-Binary.result.now ≡ c.in-Binary.left.value = search rules in
    let here1 : c.deref-in-Binary-2.result.now ≡ c.in-Binary.right.value = search rules in
    let at_box : linked_of c.args.node.now ≡ binary c.in-Binary.op (linked_of c.in-Binary.left.value) (linked_of c.in-Binary.right.value) = search (rules, the_lemmas) in
    let is : linked_of c.args.node.now ≡ binary c.in-Binary.op (linked_of c.deref-in-Binary.result.now) (linked_of c.deref-in-Binary-2.result.now) = at_box ∙ ap₂ (λ n m. binary c.in-Binary.op (linked_of n) (linked_of m)) (sym here0) (sym here1) in
    told_as c.args.context.now c.args.store.now c.binary.new.store c.args.is_asked c.binary.result is c.binary.ensures.ended

pub eval-returns-in-Block-clause-ended : goal.eval-returns-in-Block-clause-ended
eval-returns-in-Block-clause-ended t c =
    let is = of_boxed (linked_of c.args.node.now) (λ n. block (parts_view n)) c.deref-in-Block.result.now c.in-Block.items.items (search rules) (search (rules, the_lemmas)) in
    asked_as c.args.context.now c.args.store.now c.block.new.store c.args.is_asked c.block.result is c.block.ensures.ended

pub eval-returns-in-Both-clause-ended : goal.eval-returns-in-Both-clause-ended
eval-returns-in-Both-clause-ended t c =
    let is = of_boxed (linked_of c.args.node.now) (λ n. both c.in-Both.ok c.in-Both.err c.in-Both.tag (linked_of n)) c.deref-in-Both.result.now c.in-Both.part.value (search rules) (search (rules, the_lemmas)) in
    asked_as c.args.context.now c.args.store.now c.both.new.store c.args.is_asked c.both.result is c.both.ensures.ended

pub eval-returns-in-Call-clause-ended : goal.eval-returns-in-Call-clause-ended
eval-returns-in-Call-clause-ended t c =
    let is = of_boxed (linked_of c.args.node.now) (λ n. call_of n) c.deref-in-Call.result.now c.in-Call.called.value (search rules) (search (rules, the_lemmas)) in
    told_as c.args.context.now c.args.store.now c.call.new.store c.args.is_asked c.call.result is c.call.ensures.ended

pub eval-returns-in-If-clause-ended : goal.eval-returns-in-If-clause-ended
eval-returns-in-If-clause-ended t c =
    let is = of_boxed (linked_of c.args.node.now) (λ n. conditional (arms_view n) (else_view c.in-If.otherwise)) c.deref-in-If.result.now c.in-If.arms.items (search rules) (search (rules, the_lemmas)) in
    asked_as c.args.context.now c.args.store.now c.conditional.new.store c.args.is_asked c.conditional.result is c.conditional.ensures.ended

pub eval-returns-in-Merge-clause-ended : goal.eval-returns-in-Merge-clause-ended
eval-returns-in-Merge-clause-ended t c =
    let is = of_boxed (linked_of c.args.node.now) (λ n. merge c.in-Merge.target (linked_of n)) c.deref-in-Merge.result.now c.in-Merge.part.value (search rules) (search (rules, the_lemmas)) in
    asked_as c.args.context.now c.args.store.now c.merge.new.store c.args.is_asked c.merge.result is c.merge.ensures.ended

pub eval-returns-in-Not-clause-ended : goal.eval-returns-in-Not-clause-ended
eval-returns-in-Not-clause-ended t c =
    let is = of_boxed (linked_of c.args.node.now) (λ n. negation (linked_of n)) c.deref-in-Not.result.now c.in-Not.part.value (search rules) (search (rules, the_lemmas)) in
    told_as c.args.context.now c.args.store.now c.negation.new.store c.args.is_asked c.negation.result is c.negation.ensures.ended

pub eval-returns-in-Object-clause-ended : goal.eval-returns-in-Object-clause-ended
eval-returns-in-Object-clause-ended t c =
    let is = of_boxed (linked_of c.args.node.now) (λ n. object (pairs_view n)) c.deref-in-Object.result.now c.in-Object.pairs.items (search rules) (search (rules, the_lemmas)) in
    told_as c.args.context.now c.args.store.now c.object.new.store c.args.is_asked c.object.result is c.object.ensures.ended

pub eval-returns-in-Query-clause-ended : goal.eval-returns-in-Query-clause-ended
eval-returns-in-Query-clause-ended t c =
    let is = of_boxed (linked_of c.args.node.now) (λ n. query (linked_of n) c.in-Query.path) c.deref-in-Query.result.now c.in-Query.part.value (search rules) (search (rules, the_lemmas)) in
    told_as c.args.context.now c.args.store.now c.query.new.store c.args.is_asked c.query.result is c.query.ensures.ended

pub eval-returns-in-Return-clause-ended : goal.eval-returns-in-Return-clause-ended
eval-returns-in-Return-clause-ended t c =
    let is = of_boxed (linked_of c.args.node.now) (λ n. return_of (linked_of n)) c.deref-in-Return.result.now c.in-Return.part.value (search rules) (search (rules, the_lemmas)) in
    told_as c.args.context.now c.args.store.now c.give_back.new.store c.args.is_asked c.give_back.result is c.give_back.ensures.ended

pub eval-returns-in_ok-asked_copy-in-Literal-clause-ended : goal.eval-returns-in_ok-asked_copy-in-Literal-clause-ended
eval-returns-in_ok-asked_copy-in-Literal-clause-ended t c =
    let x = c.args.context.now in
    let is : linked_of c.args.node.now ≡ literal (tree_of c.in-Literal.value) = search (rules, the_lemmas) in
    copy_told c.args.is_asked (meant x (linked_of c.args.node.now) c.args.store.now) (tree_of c.in-Literal.value) c.in_ok-asked_copy-in-Literal.field-0 (store_at x c.args.store.now)
    (ap (λ n. meant x n c.args.store.now) is) c.in_ok-asked_copy-in-Literal.ensures.copy

pub eval-returns-in_ok-asked_copy-in-Read-clause-ended : goal.eval-returns-in_ok-asked_copy-in-Read-clause-ended
eval-returns-in_ok-asked_copy-in-Read-clause-ended t c =
    let x = c.args.context.now in
    let is : linked_of c.args.node.now ≡ read c.in-Read.place = search (rules, the_lemmas) in
    copy_told c.args.is_asked (meant x (linked_of c.args.node.now) c.args.store.now) (tree_of c.read.result.now) c.in_ok-asked_copy-in-Read.field-0 (store_at x c.args.store.now)
    (ap (λ n. meant x n c.args.store.now) is ∙ ap (λ v. ends (value v) (store_at x c.args.store.now)) (sym (c.read.ensures (names_in x) c.requires.ready.names))) c.in_ok-asked_copy-in-Read.ensures.copy

pub eval-iteration-requires : goal.eval-iteration-requires
eval-iteration-requires t c =
    let is = of_boxed (linked_of c.args.node.now) (λ n. iteration_of n) c.deref-in-Iteration.result.now c.in-Iteration.called.value (search rules) (search (rules, the_lemmas)) in
    let fits = subst (FitsIn c.args.context.now) is c.requires.fits in
    (omega (arith, c.decreases, ap linked_size is), (c.requires.ready, fits))

pub eval-returns-in-Iteration-clause-ended : goal.eval-returns-in-Iteration-clause-ended
eval-returns-in-Iteration-clause-ended t c =
    let is = of_boxed (linked_of c.args.node.now) (λ n. iteration_of n) c.deref-in-Iteration.result.now c.in-Iteration.called.value (search rules) (search (rules, the_lemmas)) in
    told_as c.args.context.now c.args.store.now c.iteration.new.store c.args.is_asked c.iteration.result is c.iteration.ensures.ended

pub give_back-eval-requires : goal.give_back-eval-requires
give_back-eval-requires t c =
    (omega (arith, c.decreases), (c.requires.ready, c.requires.fits))

pub holds-eval-requires : goal.holds-eval-requires
holds-eval-requires t c =
    (omega (arith, c.decreases), (c.requires.ready, c.requires.fits))

pub items-eval-requires : goal.items-eval-requires
items-eval-requires t c =
    let l = c.loop-item in
    let others = c.in-Some.others.now in
    let split : c.args.items.now ≡ others ++ c.in-Some.last.now ∷ [] = search rules in
    let next = next_part others l.item-index c.item-item.result c.loop-item-test.true c.item-item.is in
    let fits = subst (λ ns. AllFitIn c.args.context.now (parts_of_list ns)) next l.invariant.fits in
    let size = parts_fewer others l.item-index c.item-item.result c.loop-item-test.true c.item-item.is in
    let whole = last_fewer c.args.items.now others c.in-Some.last.now split in
    (omega (arith, c.decreases, l.invariant.fewer, size, whole), (l.invariant.so_far.ready, fits.0))

pub items-eval-requires-2 : goal.items-eval-requires-2
items-eval-requires-2 t c =
    let x = c.args.context.now in
    let others = c.in-Some.others.now in
    let last = c.in-Some.last.now in
    let split : c.args.items.now ≡ others ++ last ∷ [] = search rules in
    let fits = last_fits x (map linked_of others) (linked_of last) (subst (AllFitIn x) (last_part c.args.items.now others last split) c.requires.fits) in
    (omega (arith, c.decreases, last_fewer c.args.items.now others last split), (c.loop-item.invariant.so_far.ready, fits.1))

pub items-loop-item-init : goal.items-loop-item-init
items-loop-item-init t c =
    let x = c.args.context.now in
    let others = c.in-Some.others.now in
    let last = c.in-Some.last.now in
    let split : c.args.items.now ≡ others ++ last ∷ [] = search rules in
    let fits = last_fits x (map linked_of others) (linked_of last) (subst (AllFitIn x) (last_part c.args.items.now others last split) c.requires.fits) in
    record { so_far = before_start x c.args.store.now (map linked_of others) c.requires.ready; fits = fits.0; fewer = omega arith }

pub items-loop-item-preserved : goal.items-loop-item-preserved
items-loop-item-preserved t c =
    let l = c.loop-item in
    let x = c.args.context.now in
    let others = c.in-Some.others.now in
    let told = c.in_ok-eval.ensures.ended in
    let next = before_next c.meanings_stay_well_formed.ensures x c.args.store.now l.store c.eval.new.store others l.item-index c.item-item.result told.0
    (λ last v. items_before x (map linked_of others) (store_at x c.args.store.now) last null) c.loop-item-test.true c.item-item.is
    l.invariant.fits l.invariant.so_far told.1 c.in_ok-eval.ensures.stays in
    let size = parts_fewer others l.item-index c.item-item.result c.loop-item-test.true c.item-item.is in
    record { so_far = next.0; fits = next.1; fewer = omega (arith, l.invariant.fewer, size) }

pub items-returns-clause-ended : goal.items-returns-clause-ended
items-returns-clause-ended t c =
    let l = c.loop-item in
    let x = c.args.context.now in
    let others = c.in-Some.others.now in
    let last = c.in-Some.last.now in
    let split : c.args.items.now ≡ others ++ last ∷ [] = search rules in
    let before : Parts → Ended = λ ns. items_mean (names_in x) (setting_in x) null ns (store_at x c.args.store.now) in
    let whole : before (parts_view c.args.items.now) ≡ meant x (linked_of last) l.store = ap before (last_part c.args.items.now others last split)
    ∙ before_end x c.args.store.now l.store others l.item-index (λ n v. items_before x (map linked_of others) (store_at x c.args.store.now) n null) c.loop-item-test.false l.invariant.so_far (linked_of last) null in
    subst (λ e. EndsAsked c.args.is_asked e (store_at x c.eval-2.new.store) c.eval-2.result) (sym whole) c.eval-2.ensures.ended

pub items-returns-in_err-eval-clause-ended : goal.items-returns-in_err-eval-clause-ended
items-returns-in_err-eval-clause-ended t c =
    let l = c.loop-item in
    let x = c.args.context.now in
    let others = c.in-Some.others.now in
    let last = c.in-Some.last.now in
    let split : c.args.items.now ≡ others ++ last ∷ [] = search rules in
    let stop = c.in_err-eval.field-0.0 in
    let told : Stops (items_mean (names_in x) (setting_in x) null (parts_view c.args.items.now) (store_at x c.args.store.now)) (store_at x c.eval.new.store) stop =
    subst (λ ns. Stops (items_mean (names_in x) (setting_in x) null ns (store_at x c.args.store.now)) (store_at x c.eval.new.store) stop) (sym (last_part c.args.items.now others last split))
    (before_stop x c.args.store.now l.store others l.item-index c.item-item.result (λ n v. items_before x (map linked_of others) (store_at x c.args.store.now) n null) (store_at x c.eval.new.store) stop
    c.loop-item-test.true c.item-item.is l.invariant.so_far c.in_err-eval.ensures.ended (linked_of last) null) in
    search rules

pub items-returns-in_default-clause-ended : goal.items-returns-in_default-clause-ended
items-returns-in_default-clause-ended t c =
    let x = c.args.context.now in
    let here = store_at x c.args.store.now in
    let none = none_left c.args.items.now (length c.args.items.now) refl c.in_default.ensures.cases in
    let is : tree_of values.Null ≡ null = search (rules, value_lemmas) in
    let before : Parts → Ended = λ ns. items_mean (names_in x) (setting_in x) null ns here in
    told_anyhow c.args.is_asked (before (parts_view c.args.items.now)) here (Ok values.Null) (ap (λ ns. before (parts_view ns)) none ∙ ap (λ v. ends (value v) here) (sym is))

pub negation-eval-requires : goal.negation-eval-requires
negation-eval-requires t c =
    (omega (arith, c.decreases), (c.requires.ready, c.requires.fits))

pub object-eval-requires : goal.object-eval-requires
object-eval-requires t c =
    let l = c.loop-name in
    let next = next_pair c.args.pairs.now l.name-index c.loop-name-item.result c.loop-name-test.true c.loop-name-item.is in
    let fits = subst (PairsFitIn c.args.context.now) next l.invariant.fits in
    let size = pairs_fewer c.args.pairs.now l.name-index c.loop-name-item.result c.loop-name-test.true c.loop-name-item.is in
    (omega (arith, c.decreases, l.invariant.fewer, size), (l.invariant.so_far.ready, fits.0))

pub object-loop-name-preserved : goal.object-loop-name-preserved
object-loop-name-preserved t c =
    let l = c.loop-name in
    let named = c.in_ok-insert.ensures.ok ∙ ap (λ name. put name (tree_of c.in_ok-value.value) (members_of l.fields)) c.in_ok-copy.ensures in
    let next = pairs_next c.meanings_stay_well_formed.ensures c.args.context.now c.args.store.now l.store c.eval.new.store c.args.pairs.now l.name-index c.loop-name-item.result (members_of l.fields) _ (tree_of c.in_ok-value.value) (pairs_mean (names_in c.args.context.now) (setting_in c.args.context.now) (pairs_view c.args.pairs.now) no_members (store_at c.args.context.now c.args.store.now)) c.loop-name-test.true c.loop-name-item.is
    l.invariant.fits l.invariant.so_far c.in_ok-value.ensures.ended c.in_ok-value.ensures.stays named in
    let size = pairs_fewer c.args.pairs.now l.name-index c.loop-name-item.result c.loop-name-test.true c.loop-name-item.is in
    record { so_far = next.0; fits = next.1; fewer = omega (arith, l.invariant.fewer, size) }

pub object-returns-clause-ended : goal.object-returns-clause-ended
object-returns-clause-ended t c =
    let l = c.loop-name in
    let is : tree_of (values.Object l.fields) ≡ members (members_of l.fields) = search (rules, value_lemmas) in
    pairs_end c.args.context.now c.args.store.now l.store c.args.pairs.now l.name-index (members_of l.fields) (tree_of (values.Object l.fields)) _ c.loop-name-test.false is l.invariant.so_far

pub query-eval-requires : goal.query-eval-requires
query-eval-requires t c =
    (omega (arith, c.decreases), (c.requires.ready, c.requires.fits))

pub values-eval-requires : goal.values-eval-requires
values-eval-requires t c =
    let l = c.loop-node in
    let next = next_part c.args.nodes.now l.node-index c.node-item.result c.loop-node-test.true c.node-item.is in
    let fits = subst (λ ns. AllFitIn c.args.context.now (parts_of_list ns)) next l.invariant.fits in
    let size = parts_fewer c.args.nodes.now l.node-index c.node-item.result c.loop-node-test.true c.node-item.is in
    (omega (arith, c.decreases, l.invariant.fewer, size), (l.invariant.so_far.ready, fits.0))

pub values-loop-node-preserved : goal.values-loop-node-preserved
values-loop-node-preserved t c =
    let l = c.loop-node in
    let next = parts_next c.meanings_stay_well_formed.ensures c.args.context.now c.args.store.now l.store c.eval.new.store c.args.nodes.now l.node-index c.node-item.result l.values.items c.push.new.self.items c.in_ok-value.value (λ more. all_mean (names_in c.args.context.now) (setting_in c.args.context.now) (parts_of_list (map linked_of c.args.nodes.now ++ more)) [] (store_at c.args.context.now c.args.store.now)) c.loop-node-test.true c.node-item.is
    l.invariant.fits l.invariant.so_far c.in_ok-value.ensures.ended c.in_ok-value.ensures.stays c.in_ok-push.ensures.items in
    let longer = ap length c.in_ok-push.ensures.items ∙ length-append l.values.items (c.in_ok-value.value ∷ []) in
    let counted = l.invariant.counted in
    let size = parts_fewer c.args.nodes.now l.node-index c.node-item.result c.loop-node-test.true c.node-item.is in
    record { so_far = next.0; counted = omega arith; fits = next.1; fewer = omega (arith, l.invariant.fewer, size) }

pub values-returns-clause-ended : goal.values-returns-clause-ended
values-returns-clause-ended t c =
    let l = c.loop-node in
    parts_end c.args.context.now c.args.store.now l.store c.args.nodes.now l.node-index (map tree_of l.values.items) _ c.loop-node-test.false l.invariant.so_far

pub values-returns-in_err-value-clause-ended : goal.values-returns-in_err-value-clause-ended
values-returns-in_err-value-clause-ended t c =
    let l = c.loop-node in
    let x = c.args.context.now in
    let p = err_from_is_err_and c.from_residual-in_err-value.result c.from_residual-in_err-value.ensures.1 in
    rw (p.1, p.2) (λ more. parts_stop x c.args.store.now l.store c.args.nodes.now l.node-index c.node-item.result (map tree_of l.values.items) _ _ c.in_err-value.field-0.0 c.loop-node-test.true c.node-item.is l.invariant.so_far c.in_err-value.ensures.ended more)

pub assignments::assign-eval-requires : goal.assignments::assign-eval-requires
assignments::assign-eval-requires t c =
    (omega (arith, c.decreases), (c.requires.ready, c.requires.fits))

pub assignments::assign-returns-in_err-write_to-clause-ended : goal.assignments::assign-returns-in_err-write_to-clause-ended
assignments::assign-returns-in_err-write_to-clause-ended t c =
    let x = c.args.context.now in
    let after = c.eval.new.store in
    let are = names_after (names_in x) c.args.store.now after c.requires.ready.names c.in_ok-value.ensures.stays in
    let told : Stops (meant x (assign c.args.target.now (linked_of c.args.part.now)) c.args.store.now) (store_at x c.write_to.new.store) c.in_err-write_to.field-0.0 =
    assigned_stops (target_of (names_in x) c.args.target.now) (meant x (linked_of c.args.part.now) c.args.store.now) (tree_of c.in_ok-value.value) (store_at x after) (store_at x c.write_to.new.store) c.in_err-write_to.field-0.0 c.in_ok-value.ensures.ended (c.in_err-write_to.ensures.written (names_in x) are) in
    search rules

pub assignments::assign-returns-clause-ended : goal.assignments::assign-returns-clause-ended
assignments::assign-returns-clause-ended t c =
    let x = c.args.context.now in
    let after = c.eval.new.store in
    let are = names_after (names_in x) c.args.store.now after c.requires.ready.names c.in_ok-value.ensures.stays in
    assigned_ends c.args.is_asked (target_of (names_in x) c.args.target.now) (meant x (linked_of c.args.part.now) c.args.store.now) (tree_of c.in_ok-value.value) c.in_ok-copy.copy (store_at x after) (store_at x c.write_to.new.store) c.in_ok-value.ensures.ended c.in_ok-copy.ensures.copy (c.in_ok-write_to.ensures.written (names_in x) are)

pub assignments::both-outcome-requires : goal.assignments::both-outcome-requires
assignments::both-outcome-requires t c =
    (omega (arith, c.decreases), (c.requires.ready, c.requires.fits))

pub assignments::both-returns-in_err-value-clause-ended : goal.assignments::both-returns-in_err-value-clause-ended
assignments::both-returns-in_err-value-clause-ended t c =
    let x = c.args.context.now in
    let T = target_of (names_in x) c.args.ok.now in
    let U = target_of (names_in x) c.args.err.now in
    let given = meant x (linked_of c.args.part.now) c.args.store.now in
    let told : Stops (meant x (both c.args.ok.now c.args.err.now c.args.tag (linked_of c.args.part.now)) c.args.store.now) (store_at x c.outcome.new.store) c.in_err-value.field-0.0 =
    c.in_err-value.ensures.ended T U in
    search rules

pub assignments::both-returns-in_err-write_to-2-clause-ended : goal.assignments::both-returns-in_err-write_to-2-clause-ended
assignments::both-returns-in_err-write_to-2-clause-ended t c =
    let x = c.args.context.now in
    let T = target_of (names_in x) c.args.ok.now in
    let U = target_of (names_in x) c.args.err.now in
    let given = meant x (linked_of c.args.part.now) c.args.store.now in
    let are = names_after (names_in x) c.args.store.now c.outcome.new.store c.requires.ready.names c.in_ok-value.ensures.stays in
    let are_then = names_after (names_in x) c.outcome.new.store c.write_to.new.store are c.in_ok-write_to.ensures.stays in
    let told : Stops (meant x (both c.args.ok.now c.args.err.now c.args.tag (linked_of c.args.part.now)) c.args.store.now) (store_at x c.write_to-2.new.store) c.in_err-write_to-2.field-0.0 =
    second_stops T U (both_assigned T U c.args.tag given.outcome given.store) (tree_of c.in_ok-value.value) (tree_of c.in_ok-value.error) (store_at x c.outcome.new.store) (store_at x c.write_to.new.store) (store_at x c.write_to-2.new.store) c.in_err-write_to-2.field-0.0 (c.in_ok-value.ensures.ended T U) (c.in_ok-write_to.ensures.written (names_in x) are) (c.in_err-write_to-2.ensures.written (names_in x) are_then) in
    search rules

pub assignments::both-returns-in_err-write_to-clause-ended : goal.assignments::both-returns-in_err-write_to-clause-ended
assignments::both-returns-in_err-write_to-clause-ended t c =
    let x = c.args.context.now in
    let T = target_of (names_in x) c.args.ok.now in
    let U = target_of (names_in x) c.args.err.now in
    let given = meant x (linked_of c.args.part.now) c.args.store.now in
    let are = names_after (names_in x) c.args.store.now c.outcome.new.store c.requires.ready.names c.in_ok-value.ensures.stays in
    let told : Stops (meant x (both c.args.ok.now c.args.err.now c.args.tag (linked_of c.args.part.now)) c.args.store.now) (store_at x c.write_to.new.store) c.in_err-write_to.field-0.0 =
    first_stops T U (both_assigned T U c.args.tag given.outcome given.store) (tree_of c.in_ok-value.value) (tree_of c.in_ok-value.error) (store_at x c.outcome.new.store) (store_at x c.write_to.new.store) c.in_err-write_to.field-0.0 (c.in_ok-value.ensures.ended T U) (c.in_err-write_to.ensures.written (names_in x) are) in
    search rules

pub assignments::both-returns-clause-ended : goal.assignments::both-returns-clause-ended
assignments::both-returns-clause-ended t c =
    let x = c.args.context.now in
    let T = target_of (names_in x) c.args.ok.now in
    let U = target_of (names_in x) c.args.err.now in
    let given = meant x (linked_of c.args.part.now) c.args.store.now in
    let are = names_after (names_in x) c.args.store.now c.outcome.new.store c.requires.ready.names c.in_ok-value.ensures.stays in
    let are_then = names_after (names_in x) c.outcome.new.store c.write_to.new.store are c.in_ok-write_to.ensures.stays in
    both_end c.args.is_asked T U (both_assigned T U c.args.tag given.outcome given.store) (tree_of c.in_ok-value.value) (tree_of c.in_ok-value.error) c.in_ok-copy.copy (store_at x c.outcome.new.store) (store_at x c.write_to.new.store) (store_at x c.write_to-2.new.store) (c.in_ok-value.ensures.ended T U) c.in_ok-copy.ensures.copy (c.in_ok-write_to.ensures.written (names_in x) are) (c.in_ok-write_to-2.ensures.written (names_in x) are_then)

pub assignments::merge-beside-requires : goal.assignments::merge-beside-requires
assignments::merge-beside-requires t c =
    (omega (arith, c.decreases), (c.requires.ready, c.requires.fits))

pub assignments::merge-returns-clause-ended : goal.assignments::merge-returns-clause-ended
assignments::merge-returns-clause-ended t c =
    let x = c.args.context.now in
    let T = target_of (names_in x) c.args.target.now in
    let given = meant x (linked_of c.args.part.now) c.args.store.now in
    let current = c.in_ok-current.ensures.value (names_in x) c.requires.ready.names in
    let made = subst (λ v. on_value given (λ w end. ends (applied ops.Merge v w) end) ≡ ends (value (tree_of c.in_ok-value.value)) (store_at x c.beside.new.store)) current c.in_ok-value.ensures.ended in
    let are = names_after (names_in x) c.args.store.now c.beside.new.store c.requires.ready.names c.in_ok-value.ensures.stays in
    assigned_ends c.args.is_asked T (combined ops.Merge (ends (value (target_value T (store_at x c.args.store.now))) (store_at x c.args.store.now)) (λ end. means (names_in x) (setting_in x) (linked_of c.args.part.now) end)) (tree_of c.in_ok-value.value) c.in_ok-copy.copy (store_at x c.beside.new.store) (store_at x c.write_to.new.store) made c.in_ok-copy.ensures.copy (c.in_ok-write_to.ensures.written (names_in x) are)

pub assignments::merge-returns-in_err-value-clause-ended : goal.assignments::merge-returns-in_err-value-clause-ended
assignments::merge-returns-in_err-value-clause-ended t c =
    let x = c.args.context.now in
    let T = target_of (names_in x) c.args.target.now in
    let given = meant x (linked_of c.args.part.now) c.args.store.now in
    let current = c.in_ok-current.ensures.value (names_in x) c.requires.ready.names in
    let made = subst (λ v. Stops (on_value given (λ w end. ends (applied ops.Merge v w) end)) (store_at x c.beside.new.store) c.in_err-value.field-0.0) current c.in_err-value.ensures.ended in
    let told : Stops (meant x (merge c.args.target.now (linked_of c.args.part.now)) c.args.store.now) (store_at x c.beside.new.store) c.in_err-value.field-0.0 =
    after_stop (combined ops.Merge (ends (value (target_value T (store_at x c.args.store.now))) (store_at x c.args.store.now)) (λ end. means (names_in x) (setting_in x) (linked_of c.args.part.now) end)) (λ v after. writes_to T v after (λ end. ends (value v) end)) (store_at x c.beside.new.store) c.in_err-value.field-0.0 made in
    search rules

pub assignments::merge-returns-in_err-write_to-clause-ended : goal.assignments::merge-returns-in_err-write_to-clause-ended
assignments::merge-returns-in_err-write_to-clause-ended t c =
    let x = c.args.context.now in
    let T = target_of (names_in x) c.args.target.now in
    let given = meant x (linked_of c.args.part.now) c.args.store.now in
    let current = c.in_ok-current.ensures.value (names_in x) c.requires.ready.names in
    let made = subst (λ v. on_value given (λ w end. ends (applied ops.Merge v w) end) ≡ ends (value (tree_of c.in_ok-value.value)) (store_at x c.beside.new.store)) current c.in_ok-value.ensures.ended in
    let are = names_after (names_in x) c.args.store.now c.beside.new.store c.requires.ready.names c.in_ok-value.ensures.stays in
    let told : Stops (meant x (merge c.args.target.now (linked_of c.args.part.now)) c.args.store.now) (store_at x c.write_to.new.store) c.in_err-write_to.field-0.0 =
    assigned_stops T (combined ops.Merge (ends (value (target_value T (store_at x c.args.store.now))) (store_at x c.args.store.now)) (λ end. means (names_in x) (setting_in x) (linked_of c.args.part.now) end)) (tree_of c.in_ok-value.value) (store_at x c.beside.new.store) (store_at x c.write_to.new.store) c.in_err-write_to.field-0.0 made (c.in_err-write_to.ensures.written (names_in x) are) in
    search rules

pub assignments::outcome-eval-given-requires : goal.assignments::outcome-eval-given-requires
assignments::outcome-eval-given-requires t c =
    (omega (arith, c.decreases), (c.requires.ready, c.requires.fits))

pub assignments::outcome-returns-clause-ended : goal.assignments::outcome-returns-clause-ended
assignments::outcome-returns-clause-ended t c =
    let x = c.args.context.now in
    let m = meant x (linked_of c.args.part.now) c.args.store.now in
    let after = store_at x c.eval-given.new.store in
    c.both_values.ensures.gives m after (told_asked m after c.eval-given.result c.eval-given.ensures.ended)

pub closures::iterate-over-requires : goal.closures::iterate-over-requires
closures::iterate-over-requires t c =
    let x = c.args.context.now in
    let law = c.meanings_stay_well_formed.ensures in
    let run = c.in_ok-run.run'.items in
    let found : item_at 0 (items_of_trees (map tree_of run)) ≡ Some (tree_of c.in-Some.collection) = sym c.first_of.ensures ∙ ap (option_map tree_of) c.in-Some.is in (
      omega (arith, c.decreases),
      (
        args_ready law x c.args.args.now c.args.store.now c.values.new.store run c.requires.args c.requires.ready c.in_ok-run.ensures.stays c.in_ok-run.ensures.ended,
        (c.requires.slots, (c.requires.body, collection_formed law x c.args.args.now c.args.store.now c.values.new.store run (tree_of c.in-Some.collection) c.requires.args c.requires.ready c.in_ok-run.ensures.ended found)),
      ),
    )

pub closures::iterate-returns-in-None-clause-ended : goal.closures::iterate-returns-in-None-clause-ended
closures::iterate-returns-in-None-clause-ended t c =
    let x = c.args.context.now in
    let body = body_in x c.args.function (parts_view c.args.body.now) in
    let run = c.in_ok-run.run'.items in
    let found : item_at 0 (items_of_trees (map tree_of run)) ≡ None = sym c.first_of.ensures ∙ ap (option_map tree_of) c.in-None.is in
    let is : tree_of values.Null ≡ null = search (rules, value_lemmas) in
    let ended = none_given c.args.function body (store_at x c.values.new.store) ∙ ap (λ v. ends (value v) (store_at x c.values.new.store)) (sym is) in
    iterate_ends x c.args.function body c.args.args.now run None c.args.store.now c.values.new.store (store_at x c.values.new.store) (Ok values.Null) c.in_ok-run.ensures.ended found ended

pub closures::iterate-returns-in-Some-clause-ended : goal.closures::iterate-returns-in-Some-clause-ended
closures::iterate-returns-in-Some-clause-ended t c =
    let x = c.args.context.now in
    let body = body_in x c.args.function (parts_view c.args.body.now) in
    let run = c.in_ok-run.run'.items in
    let found : item_at 0 (items_of_trees (map tree_of run)) ≡ Some (tree_of c.in-Some.collection) = sym c.first_of.ensures ∙ ap (option_map tree_of) c.in-Some.is in
    iterate_ends x c.args.function body c.args.args.now run (Some (tree_of c.in-Some.collection)) c.args.store.now c.values.new.store (store_at x c.over.new.store) c.over.result c.in_ok-run.ensures.ended found c.over.ensures.ended

pub closures::iterate-returns-in_err-run-clause-ended : goal.closures::iterate-returns-in_err-run-clause-ended
closures::iterate-returns-in_err-run-clause-ended t c =
    let x = c.args.context.now in
    let body = body_in x c.args.function (parts_view c.args.body.now) in
    let m = all_mean (names_in x) (setting_in x) (parts_view c.args.args.now) [] (store_at x c.args.store.now) in
    let told : Stops (on_value m (λ vs after. acts (setting_in x) (called.iteration (form_in c.args.function)) body (items_in vs) after)) (store_at x c.values.new.store) c.in_err-run.field-0.0 =
    after_stop m (λ vs after. acts (setting_in x) (called.iteration (form_in c.args.function)) body (items_in vs) after) (store_at x c.values.new.store) c.in_err-run.field-0.0
    (array_stops x (map linked_of c.args.args.now) c.args.store.now (store_at x c.values.new.store) c.in_err-run.field-0.0 c.in_err-run.ensures.ended) in
    search rules

pub closures::iterate-values-requires : goal.closures::iterate-values-requires
closures::iterate-values-requires t c =
    (omega (arith, c.decreases), (c.requires.ready, c.requires.args))

pub closures::iterate-returns-in-Some-clause-stays : goal.closures::iterate-returns-in-Some-clause-stays
closures::iterate-returns-in-Some-clause-stays t c = stays_then c.args.store.now c.values.new.store c.over.new.store c.in_ok-run.ensures.stays c.over.ensures.stays

pub closures::iteration-iterate-value-requires : goal.closures::iteration-iterate-value-requires
closures::iteration-iterate-value-requires t c =
    let is = of_iteration c.args.iteration.now c.deref.result.now c.deref-2.result.now (search rules) (search rules) in
    let fits = subst (FitsIn c.args.context.now) is c.requires.fits in
    (omega (arith, c.decreases, ap linked_size is), (c.requires.ready, (fits.0, (fits.1.0, fits.1.1))))

pub closures::iteration-returns-clause-ended : goal.closures::iteration-returns-clause-ended
closures::iteration-returns-clause-ended t c =
    let x = c.args.context.now in
    let a = out-Iteration c.args.iteration.now in
    let is = of_iteration c.args.iteration.now c.deref.result.now c.deref-2.result.now (search rules) (search rules) in
    let e = on_value (all_mean (names_in x) (setting_in x) (parts_view c.deref.result.now) [] (store_at x c.args.store.now)) (λ vs after. acts (setting_in x) (called.iteration (form_in a.function)) (body_in x a.function (parts_view c.deref-2.result.now)) (items_in vs) after) in
    let t = store_at x c.iterate-value.new.store in
    ended_as x c.args.store.now c.iterate-value.new.store c.iterate-value.result is (subst (λ b. Ends (banged_if b e) t c.iterate-value.result) (sym c.if-iteration.false) c.iterate-value.ensures.ended)

pub closures::iteration-returns-then-iteration-clause-ended : goal.closures::iteration-returns-then-iteration-clause-ended
closures::iteration-returns-then-iteration-clause-ended t c =
    let x = c.args.context.now in
    let a = out-Iteration c.args.iteration.now in
    let is = of_iteration c.args.iteration.now c.deref.result.now c.deref-2.result.now (search rules) (search rules) in
    let e = on_value (all_mean (names_in x) (setting_in x) (parts_view c.deref.result.now) [] (store_at x c.args.store.now)) (λ vs after. acts (setting_in x) (called.iteration (form_in a.function)) (body_in x a.function (parts_view c.deref-2.result.now)) (items_in vs) after) in
    let t = store_at x c.iterate-value.new.store in
    ended_as x c.args.store.now c.iterate-value.new.store c.banged.result is
    (subst (λ b. Ends (banged_if b e) t c.banged.result) (sym c.if-iteration.true) (c.banged.ensures.ends e t c.iterate-value.ensures.ended))

pub closures::over-over_fields-requires : goal.closures::over-over_fields-requires
closures::over-over_fields-requires t c =
    let x = c.args.context.now in
    let is : tree_of c.args.collection ≡ members (members_of c.in-Object.fields) = search (rules, value_lemmas) in
    (omega (arith, c.decreases), (c.requires.ready, (c.requires.slots, (c.requires.fits, subst (IsWellFormed (length (setting_in x).sources)) is c.requires.formed))))

pub closures::over-over_items-requires : goal.closures::over-over_items-requires
closures::over-over_items-requires t c =
    let x = c.args.context.now in
    let is : tree_of c.args.collection ≡ items (items_of c.in-List.items) = search (rules, value_lemmas) in
    let takes : takes_arrays c.args.function ≡ true = search rules in
    (omega (arith, c.decreases), (c.requires.ready, (c.requires.slots, (c.requires.fits, (takes, subst (IsWellFormed (length (setting_in x).sources)) is c.requires.formed)))))

pub closures::over-returns-else-not-takes_arrays-clause-ended : goal.closures::over-returns-else-not-takes_arrays-clause-ended
closures::over-returns-else-not-takes_arrays-clause-ended t c =
    let x = c.args.context.now in
    let f = c.args.function in
    let ts = items_of c.in-List.items in
    let is : tree_of c.args.collection ≡ items ts = search (rules, value_lemmas) in
    let takes : takes_arrays f ≡ true = search rules in
    taken_ends f (body_in x f (parts_view c.args.body.now)) (items ts) (tree_of c.args.collection) (store_at x c.args.store.now) (store_at x c.over_items.new.store) c.over_items.result is
    (ap (λ v. allows (collections (form_in f)) (tag_of v)) is ∙ arrays_taken f ts ∙ takes) c.over_items.ensures.ended

pub closures::over-returns-in-Object-clause-ended : goal.closures::over-returns-in-Object-clause-ended
closures::over-returns-in-Object-clause-ended t c =
    let x = c.args.context.now in
    let f = c.args.function in
    let ms = members_of c.in-Object.fields in
    let is : tree_of c.args.collection ≡ members ms = search (rules, value_lemmas) in
    taken_ends f (body_in x f (parts_view c.args.body.now)) (members ms) (tree_of c.args.collection) (store_at x c.args.store.now) (store_at x c.over_fields.new.store) c.over_fields.result is
    (ap (λ v. allows (collections (form_in f)) (tag_of v)) is ∙ objects_taken f ms) c.over_fields.ensures.ended

pub closures::over-returns-then-not-takes_arrays-clause-ended : goal.closures::over-returns-then-not-takes_arrays-clause-ended
closures::over-returns-then-not-takes_arrays-clause-ended t c =
    let x = c.args.context.now in
    let f = c.args.function in
    let ts = items_of c.in-List.items in
    let is : tree_of c.args.collection ≡ items ts = search (rules, value_lemmas) in
    let refused : takes_arrays f ≡ false = search rules in
    refused_ends f (body_in x f (parts_view c.args.body.now)) (tree_of c.args.collection) tags.List (store_at x c.args.store.now) c.refuse.result (ap tag_of (sym is))
    (ap (λ v. allows (collections (form_in f)) (tag_of v)) is ∙ arrays_taken f ts ∙ refused) c.refuse.ensures

pub closures::over-returns-in_default-clause-ended : goal.closures::over-returns-in_default-clause-ended
closures::over-returns-in_default-clause-ended t c =
    let x = c.args.context.now in
    let f = c.args.function in
    let plain : is_container (tree_of c.args.collection) ≡ false = search (rules, value_lemmas) in
    refused_ends f (body_in x f (parts_view c.args.body.now)) (tree_of c.args.collection) c.tag.result (store_at x c.args.store.now) c.refuse-in_default.result c.tag.ensures
    (other_is_refused f (tree_of c.args.collection) plain) c.refuse-in_default.ensures

pub closures::over_fields-loop-name-init : goal.closures::over_fields-loop-name-init
closures::over_fields-loop-name-init t c =
    let it = c.into_iter-name-iterator.result in
    let made = c.no_fields-made.result in
    let same : members_view it ≡ members_of c.args.fields = search rules in
    fields_begin c.args.context.now c.args.function (parts_view c.args.body.now) c.args.store.now (members_of c.args.fields) (members_view it) (members_of made.fields) made.are_named c.requires.ready c.requires.formed same
    c.no_fields-made.ensures.fields c.no_fields-made.ensures.named

pub closures::over_fields-loop-name-preserved : goal.closures::over_fields-loop-name-preserved
closures::over_fields-loop-name-preserved t c =
    let l = c.loop-name in
    let x = c.args.context.now in
    let f = c.args.function in
    let left = c.next.new.self in
    let k = string_bytes c.in-Some.name in
    let part = tree_of c.in-Some.part in
    let binds = subst (λ name. Binds f (string name) part c.in_ok-bindings.bindings) c.new.ensures c.in_ok-bindings.ensures.binds in
    let kept = subst (λ name. IsFieldHeld f name part c.in_ok-bindings.held) c.new.ensures c.in_ok-bindings.ensures.held in
    fields_turn c.meanings_stay_well_formed.ensures x f (parts_view c.args.body.now) c.args.store.now l.store c.run.new.store (members_view l.name-iterator) (members_view left) k part c.in_ok-given.given c.is_body_asked.result l.made c.put_field.new.made _
    c.in_ok-bindings.bindings c.in_ok-bindings.held c.requires.fits l.invariant (ap members_view c.in-Some.ensures.steps) binds c.is_body_asked.ensures c.in_ok-given.ensures.ended c.in_ok-given.ensures.stays kept c.in_ok-put_field.ensures.taken

pub closures::over_fields-returns-clause-stays : goal.closures::over_fields-returns-clause-stays
closures::over_fields-returns-clause-stays t c = c.loop-name.invariant.so_far.stays

pub closures::over_fields-returns-in_err-given-clause-stays : goal.closures::over_fields-returns-in_err-given-clause-stays
closures::over_fields-returns-in_err-given-clause-stays t c = stays_then c.args.store.now c.loop-name.store c.run.new.store c.loop-name.invariant.so_far.stays c.in_err-given.ensures.stays

pub closures::over_fields-returns-in_err-put_field-clause-stays : goal.closures::over_fields-returns-in_err-put_field-clause-stays
closures::over_fields-returns-in_err-put_field-clause-stays t c = stays_then c.args.store.now c.loop-name.store c.run.new.store c.loop-name.invariant.so_far.stays c.in_ok-given.ensures.stays

pub closures::over_fields-returns-in_err-bindings-clause-stays : goal.closures::over_fields-returns-in_err-bindings-clause-stays
closures::over_fields-returns-in_err-bindings-clause-stays t c = c.loop-name.invariant.so_far.stays

pub closures::over_fields-returns-clause-ended : goal.closures::over_fields-returns-clause-ended
closures::over_fields-returns-clause-ended t c =
    let l = c.loop-name in
    let x = c.args.context.now in
    let none : l.name-iterator ≡ [] = search rules in
    let made = made_in c.args.function l.made no_members [] in
    let whole = fields_end x c.args.function (parts_view c.args.body.now) c.args.store.now l.store (members_view l.name-iterator) l.made _ l.invariant (ap members_view none) in
    subst (λ e. Ends e (store_at x l.store) c.finish_fields.result) (sym whole) (gives_ends made (store_at x l.store) c.finish_fields.result c.finish_fields.ensures.gives)

pub closures::over_fields-returns-in_err-given-clause-ended : goal.closures::over_fields-returns-in_err-given-clause-ended
closures::over_fields-returns-in_err-given-clause-ended t c =
    let l = c.loop-name in
    let x = c.args.context.now in
    let f = c.args.function in
    let body = body_in x f (parts_view c.args.body.now) in
    let left = c.next.new.self in
    let k = string_bytes c.in-Some.name in
    let part = tree_of c.in-Some.part in
    let binds = subst (λ name. Binds f (string name) part c.in_ok-bindings.bindings) c.new.ensures c.in_ok-bindings.ensures.binds in
    let whole = iterated (form_in f) body (members (members_of c.args.fields)) None (store_at x c.args.store.now) in
    let told : Stops whole (store_at x c.run.new.store) c.in_err-given.field-0.0 =
    fields_stop x f (parts_view c.args.body.now) c.args.store.now l.store (members_view l.name-iterator) (members_view left) k part _ whole c.in_ok-bindings.bindings (store_at x c.run.new.store) c.in_err-given.field-0.0
    l.invariant (ap members_view c.in-Some.ensures.steps) binds c.in_err-given.ensures.ended in
    search rules

pub closures::over_fields-run-requires : goal.closures::over_fields-run-requires
closures::over_fields-run-requires t c =
    let l = c.loop-name in
    let x = c.args.context.now in
    let f = c.args.function in
    let left = c.next.new.self in
    let k = string_bytes c.in-Some.name in
    let part = tree_of c.in-Some.part in
    let binds = subst (λ name. Binds f (string name) part c.in_ok-bindings.bindings) c.new.ensures c.in_ok-bindings.ensures.binds in (
      omega (arith, c.decreases),
      (
        l.invariant.so_far.ready,
        (
          subst (AreKnownSlots (length (names_in x))) (sym binds.variables) c.requires.slots,
          (
            field_values x f (parts_view c.args.body.now) c.args.store.now l.store (members_view l.name-iterator) (members_view left) k part _ _ c.in_ok-bindings.bindings l.invariant (ap members_view c.in-Some.ensures.steps) binds,
            c.requires.fits,
          ),
        ),
      ),
    )

pub closures::over_items-item_bindings-requires : goal.closures::over_items-item_bindings-requires
closures::over_items-item_bindings-requires t c =
    let steps = c.in-Some.ensures.steps in
    let longer = ap length steps.0 in
    omega (arith, c.loop-item.invariant.small, longer)

pub closures::over_items-loop-item-init : goal.closures::over_items-loop-item-init
closures::over_items-loop-item-init t c =
    let it = c.into_iter-item-iterator in
    let same = it.ensures.into_iter_gives.0 in
    let longer = ap length same in
    record {
      so_far = items_begin c.args.context.now c.args.function (parts_view c.args.body.now) c.args.store.now 0 (items_of c.args.items) _ _ c.requires.takes c.requires.ready c.requires.formed
          (ap items_view same ∙ c.values_in-items.ensures.values) refl (ap (map tree_of) c.new-made.ensures.items);
      as_many = search rules;
      small = omega (arith, c.values_in-items.ensures.small, longer);
    }

pub closures::over_items-loop-item-preserved : goal.closures::over_items-loop-item-preserved
closures::over_items-loop-item-preserved t c =
    let l = c.loop-item in
    let x = c.args.context.now in
    let ns = parts_view c.args.body.now in
    let left = into_iter_items c.next.new.self in
    let steps = c.in-Some.ensures.steps in
    let longer = ap length steps.0 in
    record {
      so_far = items_turn c.meanings_stay_well_formed.ensures x c.args.function ns c.args.store.now l.store c.run.new.store l.place (l.place + 1) _ (items_view left) (tree_of c.in-Some.item) c.in_ok-given.given c.is_body_asked.result (map tree_of l.made.items)
          (map tree_of c.push_item.new.made.items) _ c.in_ok-bindings.bindings c.in_ok-bindings.held c.requires.fits l.invariant.so_far (ap items_view steps.0) (omega arith) c.in_ok-bindings.ensures.binds c.is_body_asked.ensures c.in_ok-given.ensures.ended c.in_ok-given.ensures.stays
          c.in_ok-bindings.ensures.held c.in_ok-push_item.ensures.taken;
      as_many = one_gone (into_iter_items l.item-iterator) left c.in-Some.item _ _ steps.0 steps.1 l.invariant.as_many;
      small = omega (arith, l.invariant.small, longer);
    }

pub closures::over_items-overflow_add-place : goal.closures::over_items-overflow_add-place
closures::over_items-overflow_add-place t c = omega (arith, c.loop-item.invariant.small)

pub closures::over_items-returns-clause-stays : goal.closures::over_items-returns-clause-stays
closures::over_items-returns-clause-stays t c = c.loop-item.invariant.so_far.so_far.stays

pub closures::over_items-returns-in_err-given-clause-stays : goal.closures::over_items-returns-in_err-given-clause-stays
closures::over_items-returns-in_err-given-clause-stays t c = stays_then c.args.store.now c.loop-item.store c.run.new.store c.loop-item.invariant.so_far.so_far.stays c.in_err-given.ensures.stays

pub closures::over_items-returns-in_err-push_item-clause-stays : goal.closures::over_items-returns-in_err-push_item-clause-stays
closures::over_items-returns-in_err-push_item-clause-stays t c = stays_then c.args.store.now c.loop-item.store c.run.new.store c.loop-item.invariant.so_far.so_far.stays c.in_ok-given.ensures.stays

pub closures::over_items-returns-in_err-bindings-clause-stays : goal.closures::over_items-returns-in_err-bindings-clause-stays
closures::over_items-returns-in_err-bindings-clause-stays t c = c.loop-item.invariant.so_far.so_far.stays

pub closures::over_items-returns-clause-ended : goal.closures::over_items-returns-clause-ended
closures::over_items-returns-clause-ended t c =
    let l = c.loop-item in
    let x = c.args.context.now in
    let none = none_left (into_iter_items l.item-iterator) _ l.invariant.as_many c.in-None.ensures.steps.0 in
    let made = made_items c.args.function (map tree_of l.made.items) no_items [] in
    let whole = items_end x c.args.function (parts_view c.args.body.now) c.args.store.now l.store l.place _ (map tree_of l.made.items) _ l.invariant.so_far (ap items_view none) in
    subst (λ e. Ends e (store_at x l.store) c.finish_items.result) (sym whole) (gives_ends made (store_at x l.store) c.finish_items.result c.finish_items.ensures.gives)

pub closures::over_items-returns-in_err-given-clause-ended : goal.closures::over_items-returns-in_err-given-clause-ended
closures::over_items-returns-in_err-given-clause-ended t c =
    let l = c.loop-item in
    let x = c.args.context.now in
    let f = c.args.function in
    let body = body_in x f (parts_view c.args.body.now) in
    let left = into_iter_items c.next.new.self in
    let whole = iterated (form_in f) body (items (items_of c.args.items)) None (store_at x c.args.store.now) in
    let told : Stops whole (store_at x c.run.new.store) c.in_err-given.field-0.0 =
    items_stop x f (parts_view c.args.body.now) c.args.store.now l.store l.place _ (items_view left) (tree_of c.in-Some.item) (map tree_of l.made.items) whole c.in_ok-bindings.bindings (store_at x c.run.new.store) c.in_err-given.field-0.0
    l.invariant.so_far (ap items_view c.in-Some.ensures.steps.0) c.in_ok-bindings.ensures.binds c.in_err-given.ensures.ended in
    search rules

pub closures::over_items-run-requires : goal.closures::over_items-run-requires
closures::over_items-run-requires t c =
    let l = c.loop-item in
    let x = c.args.context.now in
    let left = into_iter_items c.next.new.self in (
      omega (arith, c.decreases),
      (
        l.invariant.so_far.so_far.ready,
        (
          subst (AreKnownSlots (length (names_in x))) (sym c.in_ok-bindings.ensures.binds.variables) c.requires.slots,
          (
            item_values x c.args.function (parts_view c.args.body.now) c.args.store.now l.store l.place _ (items_view left) (tree_of c.in-Some.item) (map tree_of l.made.items) _ c.in_ok-bindings.bindings l.invariant.so_far
                (ap items_view c.in-Some.ensures.steps.0) c.in_ok-bindings.ensures.binds,
            c.requires.fits,
          ),
        ),
      ),
    )

pub closures::run-bind-requires : goal.closures::run-bind-requires
closures::run-bind-requires t c = known_slot c.args.context.now c.in-Two.first c.args.store.now c.requires.ready (rw c.in-Two.is at c.requires.slots).0

pub closures::run-returns-in-One-clause-ended : goal.closures::run-returns-in-One-clause-ended
closures::run-returns-in-One-clause-ended t c = rw c.in-One.is c.run_with.ensures.ended

pub closures::run-returns-in_ok-hidden-in-Two-clause-ended : goal.closures::run-returns-in_ok-hidden-in-Two-clause-ended
closures::run-returns-in_ok-hidden-in-Two-clause-ended t c =
    let x = c.args.context.now in
    let before = c.args.store.now in
    let bound = c.bind.new.store in
    let middle = c.run_with-given.new.store in
    let stays = bound_then before bound middle c.in_ok-hidden-in-Two.ensures.front c.in_ok-hidden-in-Two.ensures.as_many c.run_with-given.ensures.stays in
    rw c.in-Two.is (two_names_end x c.in-Two.first c.in-Two.second (tree_of c.in-Two.key) (tree_of c.in-Two.value) (parts_view c.args.body.now) c.in_ok-hidden-in-Two.hidden before bound middle c.unbind.new.store c.count-count.result c.args.is_asked c.run_with-given.result
    c.requires.ready stays c.count-count.ensures c.in_ok-hidden-in-Two.ensures.hidden (c.in_ok-hidden-in-Two.ensures.bound (names_in x) c.requires.ready.names) c.run_with-given.ensures.ended
    (c.unbind.ensures.left (names_in x) (names_after (names_in x) before middle c.requires.ready.names stays)))

pub closures::run-returns-in_ok-hidden-in-Two-clause-stays : goal.closures::run-returns-in_ok-hidden-in-Two-clause-stays
closures::run-returns-in_ok-hidden-in-Two-clause-stays t c =
    let stays = bound_then c.args.store.now c.bind.new.store c.run_with-given.new.store c.in_ok-hidden-in-Two.ensures.front c.in_ok-hidden-in-Two.ensures.as_many c.run_with-given.ensures.stays in
    stays_again c.args.store.now c.run_with-given.new.store c.unbind.new.store c.count-count.result stays c.count-count.ensures c.unbind.ensures.present c.unbind.ensures.as_many

pub closures::run-unbind-requires-clause-there : goal.closures::run-unbind-requires-clause-there
closures::run-unbind-requires-clause-there t c =
    let stays = bound_then c.args.store.now c.bind.new.store c.run_with-given.new.store c.in_ok-hidden-in-Two.ensures.front c.in_ok-hidden-in-Two.ensures.as_many c.run_with-given.ensures.stays in
    may_be_given_back c.in-Two.first c.in_ok-hidden-in-Two.hidden c.args.store.now (take c.count-count.result (present_of c.run_with-given.new.store)) c.in_ok-hidden-in-Two.ensures.hidden (front_again c.args.store.now c.run_with-given.new.store c.count-count.result stays c.count-count.ensures)

pub closures::run-unbind-requires-clause-within : goal.closures::run-unbind-requires-clause-within
closures::run-unbind-requires-clause-within t c =
    let stays = bound_then c.args.store.now c.bind.new.store c.run_with-given.new.store c.in_ok-hidden-in-Two.ensures.front c.in_ok-hidden-in-Two.ensures.as_many c.run_with-given.ensures.stays in
    count_within c.args.store.now c.run_with-given.new.store c.count-count.result stays c.count-count.ensures

pub closures::run-run_with-given-requires : goal.closures::run-run_with-given-requires
closures::run-run_with-given-requires t c =
    let x = c.args.context.now in
    let before = c.args.store.now in
    let bound = c.bind.new.store in
    let stays : Stays before bound = record { front = c.in_ok-hidden-in-Two.ensures.front; as_many = c.in_ok-hidden-in-Two.ensures.as_many } in
    let slots = rw c.in-Two.is at c.requires.slots in
    let formed = rw c.in-Two.is at c.requires.values in
    (omega (arith, c.decreases), (bound_ready x c.in-Two.first (tree_of c.in-Two.key) before bound c.requires.ready stays formed.0 c.in_ok-hidden-in-Two.ensures.bound, (slots.1.0, (formed.1.0, c.requires.fits))))

pub closures::run-run_with-requires : goal.closures::run-run_with-requires
closures::run-run_with-requires t c =
    let slots = rw c.in-One.is at c.requires.slots in
    let formed = rw c.in-One.is at c.requires.values in
    (omega (arith, c.decreases), (c.requires.ready, (slots.0, (formed.0, c.requires.fits))))

pub closures::run_with-bind-requires : goal.closures::run_with-bind-requires
closures::run_with-bind-requires t c = known_slot c.args.context.now c.args.slot c.args.store.now c.requires.ready c.requires.slot

pub closures::run_with-items-given-requires : goal.closures::run_with-items-given-requires
closures::run_with-items-given-requires t c =
    let x = c.args.context.now in
    let stays : Stays c.args.store.now c.bind.new.store = record { front = c.in_ok-hidden.ensures.front; as_many = c.in_ok-hidden.ensures.as_many } in
    (omega (arith, c.decreases), (bound_ready x c.args.slot (tree_of c.args.value) c.args.store.now c.bind.new.store c.requires.ready stays c.requires.value c.in_ok-hidden.ensures.bound, c.requires.fits))

pub closures::run_with-returns-clause-ended : goal.closures::run_with-returns-clause-ended
closures::run_with-returns-clause-ended t c =
    let x = c.args.context.now in
    let before = c.args.store.now in
    let bound = c.bind.new.store in
    let middle = c.items-given.new.store in
    let stays = bound_then before bound middle c.in_ok-hidden.ensures.front c.in_ok-hidden.ensures.as_many c.items-given.ensures.stays in
    one_name_ends x c.args.slot (tree_of c.args.value) (parts_view c.args.body.now) c.in_ok-hidden.hidden before bound middle c.unbind.new.store c.count-count.result c.args.is_asked c.items-given.result
    c.requires.ready stays c.count-count.ensures c.in_ok-hidden.ensures.hidden (c.in_ok-hidden.ensures.bound (names_in x) c.requires.ready.names) c.items-given.ensures.ended
    (c.unbind.ensures.left (names_in x) (names_after (names_in x) before middle c.requires.ready.names stays))

pub closures::run_with-returns-clause-stays : goal.closures::run_with-returns-clause-stays
closures::run_with-returns-clause-stays t c =
    let stays = bound_then c.args.store.now c.bind.new.store c.items-given.new.store c.in_ok-hidden.ensures.front c.in_ok-hidden.ensures.as_many c.items-given.ensures.stays in
    stays_again c.args.store.now c.items-given.new.store c.unbind.new.store c.count-count.result stays c.count-count.ensures c.unbind.ensures.present c.unbind.ensures.as_many

pub closures::run_with-unbind-requires-clause-there : goal.closures::run_with-unbind-requires-clause-there
closures::run_with-unbind-requires-clause-there t c =
    let stays = bound_then c.args.store.now c.bind.new.store c.items-given.new.store c.in_ok-hidden.ensures.front c.in_ok-hidden.ensures.as_many c.items-given.ensures.stays in
    may_be_given_back c.args.slot c.in_ok-hidden.hidden c.args.store.now (take c.count-count.result (present_of c.items-given.new.store)) c.in_ok-hidden.ensures.hidden (front_again c.args.store.now c.items-given.new.store c.count-count.result stays c.count-count.ensures)

pub closures::run_with-unbind-requires-clause-within : goal.closures::run_with-unbind-requires-clause-within
closures::run_with-unbind-requires-clause-within t c =
    let stays = bound_then c.args.store.now c.bind.new.store c.items-given.new.store c.in_ok-hidden.ensures.front c.in_ok-hidden.ensures.as_many c.items-given.ensures.stays in
    count_within c.args.store.now c.items-given.new.store c.count-count.result stays c.count-count.ensures
