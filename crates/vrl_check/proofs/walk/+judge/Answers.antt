use Rattle.std.proofs.Common.{◌≡◌, ◌++◌, ◌∷◌, [], Some, None, false, true, All, rules, sym, ◌∙◌, subst, arith, ap, option_map, refl, ◌+◌, drop, length, vec_len, IfOk}
use Rattle.std.proofs.lemmas.Bool.{true≢false}
use Rattle.std.proofs.lemmas.Result.{IfOk-weaker}
use Rattle.vrl_syntax.specs.Tree.{expr, abort_with, arg, array, assign, binary, block, both, call, conditional, group, literal, merge, message, negation, no_message, object, query, read, return_of, span_of}
use Rattle.vrl_syntax.specs.View.{arg_of, args_of, args_view, call_of, closure_in, closure_of, expr_of, form_of, arms_of, else_of, exprs_of, pairs_of, exprs_view, pairs_view, arm_of, arms_view}
use Rattle.vrl_syntax.specs.declared.tree.Arg.{out-Arg}
use Rattle.vrl_syntax.specs.declared.tree.Arm.{out-Arm}
use Rattle.vrl_syntax.specs.declared.tree.Call.{out-Call}
use Rattle.vrl_syntax.specs.declared.tree.Form.{the_lemmas}
use Rattle.vrl_check.specs.Walking.{ExprCanBeJudged, IsArmBehind, IsGivenAs, ItemsCanBeJudged, ElseCanBeJudged, IsElseAs}
use Rattle.vrl_check.proofs.Capable.{form_can, abort_can, arguments_can, array_can, assign_can, binary_can, block_can, both_can, conditional_can, group_can, merge_can, negation_can, object_can, query_can, return_can, seen_can}
use Rattle.vrl_check.proofs.Forms.{expr_passed, expr_reached, block_given, group_given, query_given, block_passed, block_reached, in_block, negation_given, here_are, operands_given, beside_given, both_common, equality_given, operands_are, table_given, merge_given, merge_into_given, merge_into_judged, place_are}
use Rattle.vrl_syntax.proofs.PartSizes.{expr_size, form_size, arms_size, else_size, exprs_size}
use Rattle.vrl_value.specs.View.{tree_of}
use Rattle.vrl_check.proofs.Partway.{can_at, else_at, form_at, items_at, array_can_next, array_common, array_first, array_given, array_next, next_item, no_item_left, array_fewer, next_pair, no_pair_left, object_can_next, object_common, object_first, object_given, object_next, object_fewer, sequence_can_next, sequence_common, sequence_end, sequence_first, sequence_next, sequence_fewer}
use Rattle.vrl_judge.proofs.Results.{by_both}
use Rattle.vrl_state.specs.States.{IsRootKind}
use Rattle.vrl_syntax.specs.Calls.{for_names, form_named, takes_closure}
use Rattle.vrl_binding.specs.Binding.{binding, collection_parameters, keywords_of}
use Rattle.vrl_judge.specs.Closures.{first_try as first}
use Rattle.vrl_judge.specs.Judging.{AreEnds, HasJudged, IsMoved, IsReported, IsWay}
use Rattle.vrl_judge.specs.Rules.{if_state, Judgement}
use Rattle.vrl_check.specs.Calling.{call_args, call_bang, call_closure, call_name}
use Rattle.vrl_check.specs.Iterating.{body_in, closure_items, closure_names, closure_span, AreRuns}
use Rattle.vrl_check.specs.Judgement.{of_closure_call, Gives}
use Rattle.vrl_check.specs.OpenRules.{language_rules}
use Rattle.vrl_check.proofs.CallsAllowed.{keywords_told}
use Rattle.vrl_check.proofs.CallsFound.{call_seen}
use Rattle.vrl_check.proofs.CallsJudged.{codes_are}
use Rattle.vrl_check.proofs.CallsWanted.{closure_called, closure_kept, closure_sized, no_code, right_call, right_shape, shape_counted, wrong_code, wrong_or_none}
use Rattle.vrl_check.proofs.Iterated.{closure_call_judged, iterated_judged, names_roots, wrong_call_judged}
use Rattle.vrl_check.proofs.Tries.{all_runs, as_stable, as_unstable, body_at, body_passed, body_reached, in_body, last_try, place_kept, second_stable, second_unstable, third_stable, third_unstable, tried_judged, tries_behind}
use Rattle.vrl_check.proofs.Branching.{conjunction_judged, stands_here, disjunction_judged, coalescing_judged, return_judged, abort_judged}
use Rattle.vrl_check.proofs.Told.{expr_ends, block_ends, expr_root}
use Rattle.vrl_check.proofs.Arguments.{argument_can_next, argument_common, argument_fewer, arguments_are, arguments_first, arguments_given, arguments_next, arguments_told, call_given, next_arg, no_arg_left}
use Rattle.vrl_check.proofs.Arms.{conditional_judged, first_arms, last_ends, more_arms, next_arm, next_can, no_arm_left, ways_behind, ways_here, AreJudged, arm_judged, middle_here, ways_in}
use Rattle.vrl_check.proofs.Assigning.{assignment_judged, error_judged, judged_present, merge_judged, nowhere_judged, place_stands, settled_present}
use Rattle.vrl_syntax.specs.declared.root.Op.TheVariants as ops
use Rattle.vrl_check.proofs.walk.+judge.Goals as goal

pub expr-form-requires : goal.expr-form-requires
expr-form-requires t c =
    let e = c.args.expr.now in
    let is : expr_of e ≡ expr e.span (form_of e.form) = search (rules, the_lemmas) in
    (omega (arith, c.decreases, ap expr_size is), form_can e.span (form_of e.form) (subst (ExprCanBeJudged c.args.checker.now.patterns.now) is c.requires))

pub expr-returns-then-is_dead : goal.expr-returns-then-is_dead
expr-returns-then-is_dead t c =
    IfOk-weaker c.pass.result _ _ (λ finding has. expr_passed (expr_of c.args.expr.now) _ _ finding (c.is_dead.ensures.0 c.if-is_dead.true) has) c.pass.ensures

pub expr-returns : goal.expr-returns
expr-returns t c =
    let e = c.args.expr.now in
    let is : expr_of e ≡ expr e.span (form_of e.form) = search (rules, the_lemmas) in
    IfOk-weaker c.settled.result _ _
    (λ finding settles. expr_reached (expr_of e) e.span (form_of e.form) _ _ c.in_ok-finding.finding finding is (λ dead. true≢false (sym (c.is_dead.ensures.1 dead) ∙ c.if-is_dead.false)) c.in_ok-finding.ensures settles)
    c.settled.ensures

pub form-returns-in-Literal : goal.form-returns-in-Literal
form-returns-in-Literal t c =
    let is : form_of c.args.form.now ≡ literal (tree_of c.in-Literal.value) = search (rules, the_lemmas) in
    rw is (IfOk-weaker c.literal.result _ _ (λ finding given. given c.args.span) c.literal.ensures)

pub form-array-requires : goal.form-array-requires
form-array-requires t c =
    let is : form_of c.args.form.now ≡ array (exprs_of c.in-Array.exprs) = search (rules, the_lemmas) in
    (omega (arith, c.decreases, ap form_size is), array_can _ (seen_can is c.requires))

pub form-returns-in-Array : goal.form-returns-in-Array
form-returns-in-Array t c =
    let is : form_of c.args.form.now ≡ array (exprs_of c.in-Array.exprs) = search (rules, the_lemmas) in
    rw is (IfOk-weaker c.array.result _ _ (λ finding given. given c.args.span) c.array.ensures)

pub form-object-requires : goal.form-object-requires
form-object-requires t c =
    let is : form_of c.args.form.now ≡ object (pairs_of c.in-Map.pairs) = search (rules, the_lemmas) in
    (omega (arith, c.decreases, ap form_size is), object_can _ (seen_can is c.requires))

pub form-returns-in-Map : goal.form-returns-in-Map
form-returns-in-Map t c =
    let is : form_of c.args.form.now ≡ object (pairs_of c.in-Map.pairs) = search (rules, the_lemmas) in
    rw is (IfOk-weaker c.object.result _ _ (λ finding given. given c.args.span) c.object.ensures)

pub form-returns-in-Read : goal.form-returns-in-Read
form-returns-in-Read t c =
    let is : form_of c.args.form.now ≡ read c.in-Read.root c.in-Read.path = search (rules, the_lemmas) in
    rw is (c.read.ensures.given)

pub form-query-requires : goal.form-query-requires
form-query-requires t c =
    let is : form_of c.args.form.now ≡ query (expr_of c.deref.result.now) c.in-Query.path = search (rules, the_lemmas) in
    (omega (arith, c.decreases, ap form_size is), query_can _ _ (seen_can is c.requires))

pub form-returns-in-Query : goal.form-returns-in-Query
form-returns-in-Query t c =
    let is : form_of c.args.form.now ≡ query (expr_of c.deref.result.now) c.in-Query.path = search (rules, the_lemmas) in
    rw is (IfOk-weaker c.query.result _ _ (λ finding given. given c.args.span) c.query.ensures)

pub form-expr-requires : goal.form-expr-requires
form-expr-requires t c =
    let is : form_of c.args.form.now ≡ group (expr_of c.deref-in-Group.result.now) = search (rules, the_lemmas) in
    (omega (arith, c.decreases, ap form_size is), group_can _ (seen_can is c.requires))

pub form-returns-in-Group : goal.form-returns-in-Group
form-returns-in-Group t c =
    let is : form_of c.args.form.now ≡ group (expr_of c.deref-in-Group.result.now) = search (rules, the_lemmas) in
    rw is (IfOk-weaker c.expr.result _ _ (λ finding judged. group_given (expr_of c.deref-in-Group.result.now) c.args.checker.now c.expr.new.checker finding judged c.args.span) c.expr.ensures)

pub form-block-requires : goal.form-block-requires
form-block-requires t c =
    let is : form_of c.args.form.now ≡ block (exprs_of c.in-Block.items) = search (rules, the_lemmas) in
    (omega (arith, c.decreases, ap form_size is), block_can _ (seen_can is c.requires))

pub form-returns-in-Block : goal.form-returns-in-Block
form-returns-in-Block t c =
    let is : form_of c.args.form.now ≡ block (exprs_of c.in-Block.items) = search (rules, the_lemmas) in
    rw is (IfOk-weaker c.block.result _ _ (λ finding judged. block_given (exprs_of c.in-Block.items) c.args.checker.now c.block.new.checker finding judged c.args.span) c.block.ensures)

pub form-conditional-requires : goal.form-conditional-requires
form-conditional-requires t c =
    let is : form_of c.args.form.now ≡ conditional (arms_of c.in-If.arms) (else_of (option_map exprs_of c.in-If.otherwise)) = search (rules, the_lemmas) in
    (omega (arith, c.decreases, ap form_size is), conditional_can _ _ (seen_can is c.requires))

pub form-returns-in-If : goal.form-returns-in-If
form-returns-in-If t c =
    let is : form_of c.args.form.now ≡ conditional (arms_of c.in-If.arms) (else_of (option_map exprs_of c.in-If.otherwise)) = search (rules, the_lemmas) in
    rw is (IfOk-weaker c.conditional.result _ _ (λ finding given. given c.args.span) c.conditional.ensures)

pub form-negation-requires : goal.form-negation-requires
form-negation-requires t c =
    let is : form_of c.args.form.now ≡ negation (expr_of c.deref-in-Not.result.now) = search (rules, the_lemmas) in
    (omega (arith, c.decreases, ap form_size is), negation_can _ (seen_can is c.requires))

pub form-returns-in-Not : goal.form-returns-in-Not
form-returns-in-Not t c =
    let is : form_of c.args.form.now ≡ negation (expr_of c.deref-in-Not.result.now) = search (rules, the_lemmas) in
    rw is (c.negation.ensures)

pub form-binary-requires : goal.form-binary-requires
form-binary-requires t c =
    let is : form_of c.args.form.now ≡ binary c.in-Binary.op (expr_of c.deref-in-Binary.result.now) (expr_of c.deref-in-Binary-2.result.now) = search (rules, the_lemmas) in
    (omega (arith, c.decreases, ap form_size is), binary_can _ _ _ (seen_can is c.requires))

pub form-returns-in-Binary : goal.form-returns-in-Binary
form-returns-in-Binary t c =
    let is : form_of c.args.form.now ≡ binary c.in-Binary.op (expr_of c.deref-in-Binary.result.now) (expr_of c.deref-in-Binary-2.result.now) = search (rules, the_lemmas) in
    rw is (c.binary.ensures)

pub form-assignment-requires : goal.form-assignment-requires
form-assignment-requires t c =
    let is : form_of c.args.form.now ≡ assign c.in-Assign.target (expr_of c.deref-in-Assign.result.now) = search (rules, the_lemmas) in
    (omega (arith, c.decreases, ap form_size is), assign_can _ _ (seen_can is c.requires))

pub form-returns-in-Assign : goal.form-returns-in-Assign
form-returns-in-Assign t c =
    let is : form_of c.args.form.now ≡ assign c.in-Assign.target (expr_of c.deref-in-Assign.result.now) = search (rules, the_lemmas) in
    rw is (c.assignment.ensures)

pub form-merge_assignment-requires : goal.form-merge_assignment-requires
form-merge_assignment-requires t c =
    let is : form_of c.args.form.now ≡ merge c.in-Merge.target (expr_of c.deref-in-Merge.result.now) = search (rules, the_lemmas) in
    (omega (arith, c.decreases, ap form_size is), merge_can _ _ (seen_can is c.requires))

pub form-returns-in-Merge : goal.form-returns-in-Merge
form-returns-in-Merge t c =
    let is : form_of c.args.form.now ≡ merge c.in-Merge.target (expr_of c.deref-in-Merge.result.now) = search (rules, the_lemmas) in
    rw is (c.merge_assignment.ensures)

pub form-error_assignment-requires : goal.form-error_assignment-requires
form-error_assignment-requires t c =
    let is : form_of c.args.form.now ≡ both c.in-Both.ok c.in-Both.err (expr_of c.deref-in-Both.result.now) = search (rules, the_lemmas) in
    (omega (arith, c.decreases, ap form_size is), both_can _ _ _ (seen_can is c.requires))

pub form-returns-in-Both : goal.form-returns-in-Both
form-returns-in-Both t c =
    let is : form_of c.args.form.now ≡ both c.in-Both.ok c.in-Both.err (expr_of c.deref-in-Both.result.now) = search (rules, the_lemmas) in
    rw is (c.error_assignment.ensures)

pub form-return_with-requires : goal.form-return_with-requires
form-return_with-requires t c =
    let is : form_of c.args.form.now ≡ return_of (expr_of c.deref-in-Return.result.now) = search (rules, the_lemmas) in
    (omega (arith, c.decreases, ap form_size is), return_can _ (seen_can is c.requires))

pub form-returns-in-Return : goal.form-returns-in-Return
form-returns-in-Return t c =
    let is : form_of c.args.form.now ≡ return_of (expr_of c.deref-in-Return.result.now) = search (rules, the_lemmas) in
    rw is (c.return_with.ensures)

pub form-returns-in-Abort-None : goal.form-returns-in-Abort-None
form-returns-in-Abort-None t c =
    let is : form_of c.args.form.now ≡ abort_with no_message = search (rules, the_lemmas) in
    rw is (IfOk-weaker c.abort.result _ _ (λ finding given. given c.args.span) c.abort.ensures)

pub form-abort_with-requires : goal.form-abort_with-requires
form-abort_with-requires t c =
    let is : form_of c.args.form.now ≡ abort_with (message (expr_of c.deref-in-Abort-Some.result.now)) = search (rules, the_lemmas) in
    (omega (arith, c.decreases, ap form_size is), abort_can _ (seen_can is c.requires))

pub form-returns-in-Abort-Some : goal.form-returns-in-Abort-Some
form-returns-in-Abort-Some t c =
    let is : form_of c.args.form.now ≡ abort_with (message (expr_of c.deref-in-Abort-Some.result.now)) = search (rules, the_lemmas) in
    rw is (IfOk-weaker c.abort_with.result _ _ (λ finding given. given c.args.span) c.abort_with.ensures)

pub form-call-requires : goal.form-call-requires
form-call-requires t c =
    let is : form_of c.args.form.now ≡ call_of c.deref-in-Call.result.now = search (rules, the_lemmas) in
    (omega (arith, c.decreases, ap form_size is), seen_can is c.requires)

pub form-returns-in-Call : goal.form-returns-in-Call
form-returns-in-Call t c =
    let is : form_of c.args.form.now ≡ call_of c.deref-in-Call.result.now = search (rules, the_lemmas) in
    rw is (c.call.ensures)

pub array-loop-item-init : goal.array-loop-item-init
array-loop-item-init t c =
    array_first c.args.checker.now (exprs_of c.args.exprs.now) (exprs_view c.as_slice-item-items.result.now) _ _ c.as_slice-item-items.ensures c.none-ends.ensures c.new-kinds.ensures.items c.requires

pub array-expr-requires : goal.array-expr-requires
array-expr-requires t c =
    let l = c.loop-item in
    let next = next_item c.as_slice-item-items.result.now l.item-index c.item-item.result c.loop-item-test.true c.item-item.is in
    let fewer = array_fewer _ _ _ _ _ _ _ _ next l.invariant in
    (omega (arith, c.decreases, fewer), array_can_next _ _ _ _ _ _ _ _ next l.invariant)

pub array-absorb_inner-requires : goal.array-absorb_inner-requires
array-absorb_inner-requires t c =
    let l = c.loop-item in
    array_common _ l.checker c.expr.new.checker _ _ (expr_of c.item-item.result) _ c.in_ok-part.part _ l.invariant c.in_ok-part.ensures

pub array-loop-item-preserved : goal.array-loop-item-preserved
array-loop-item-preserved t c =
    let l = c.loop-item in
    let all = c.as_slice-item-items.result.now in
    let next = next_item all l.item-index c.item-item.result c.loop-item-test.true c.item-item.is in
    array_next _ l.checker c.expr.new.checker _ _ (exprs_view (drop (l.item-index + 1) all)) (expr_of c.item-item.result) _ _ c.in_ok-part.part _ _ next (c.in_ok-push.ensures.items ∙ ap (λ K. l.kinds.items ++ (K ∷ [])) c.in_ok-inner.ensures.kind) l.invariant c.in_ok-part.ensures c.in_ok-inner.ensures.joined (c.in_ok-inner.ensures.scopes _)

pub array-returns : goal.array-returns
array-returns t c =
    let l = c.loop-item in
    array_given _ _ _ _ _ _ _ (no_item_left c.as_slice-item-items.result.now l.item-index c.loop-item-test.false) l.invariant c.in_ok-kind.ensures

pub object-loop-name-init : goal.object-loop-name-init
object-loop-name-init t c =
    object_first c.args.checker.now (pairs_of c.args.pairs.now) (pairs_view c.as_slice-name-items.result.now) _ _ c.as_slice-name-items.ensures c.none-ends.ensures c.new-fields.ensures.items c.requires

pub object-expr-requires : goal.object-expr-requires
object-expr-requires t c =
    let l = c.loop-name in
    let next = next_pair c.as_slice-name-items.result.now l.name-index c.loop-name-item.result c.loop-name-test.true c.loop-name-item.is in
    let fewer = object_fewer _ _ _ _ _ _ _ _ _ next l.invariant in
    (omega (arith, c.decreases, fewer), object_can_next _ _ _ _ _ _ _ _ _ next l.invariant)

pub object-absorb_inner-requires : goal.object-absorb_inner-requires
object-absorb_inner-requires t c =
    let l = c.loop-name in
    object_common _ l.checker c.expr.new.checker _ _ (expr_of c.loop-name-item.result.1) _ c.in_ok-part.part _ l.invariant c.in_ok-part.ensures

pub object-loop-name-preserved : goal.object-loop-name-preserved
object-loop-name-preserved t c =
    let l = c.loop-name in
    let all = c.as_slice-name-items.result.now in
    let next = next_pair all l.name-index c.loop-name-item.result c.loop-name-test.true c.loop-name-item.is in
    let more = c.in_ok-add_field.ensures ∙ ap (λ K. l.fields.items ++ ((c.loop-name-item.result.0, K) ∷ [])) c.in_ok-inner.ensures.kind in
    object_next _ l.checker c.expr.new.checker _ _ (pairs_view (drop (l.name-index + 1) all)) c.loop-name-item.result.0 (expr_of c.loop-name-item.result.1) _ _ c.in_ok-part.part _ _ next more l.invariant c.in_ok-part.ensures c.in_ok-inner.ensures.joined (c.in_ok-inner.ensures.scopes _)

pub object-returns : goal.object-returns
object-returns t c =
    let l = c.loop-name in
    object_given _ _ _ _ _ _ _ (no_pair_left c.as_slice-name-items.result.now l.name-index c.loop-name-test.false) l.invariant c.in_ok-kind.ensures

pub query-returns : goal.query-returns
query-returns t c =
    IfOk-weaker c.read_off.result _ _ (λ finding off. query_given (expr_of c.args.inner.now) c.args.path.now c.args.checker.now c.expr.new.checker c.in_ok-part.part finding c.in_ok-part.ensures off) c.read_off.ensures

pub block-returns-then-is_dead : goal.block-returns-then-is_dead
block-returns-then-is_dead t c =
    IfOk-weaker c.pass_items.result _ _ (λ finding has. block_passed (exprs_of c.args.items.now) _ _ finding (c.is_dead.ensures.0 c.if-is_dead.true) has) c.pass_items.ensures

pub block-end_block-requires : goal.block-end_block-requires
block-end_block-requires t c =
    in_block (exprs_of c.args.items.now) c.args.checker.now _ _ c.in_ok-part.part (λ dead. true≢false (sym (c.is_dead.ensures.1 dead) ∙ c.if-is_dead.false)) c.in_ok-enter.ensures.entered c.in_ok-part.ensures

pub block-returns : goal.block-returns
block-returns t c =
    IfOk-weaker c.end_block.result _ _
    (λ finding ends. block_reached (exprs_of c.args.items.now) c.args.checker.now _ _ _ c.in_ok-part.part finding (λ dead. true≢false (sym (c.is_dead.ensures.1 dead) ∙ c.if-is_dead.false)) c.in_ok-enter.ensures.entered refl refl refl refl refl c.in_ok-part.ensures ends)
    c.end_block.ensures

pub sequence-loop-item-init : goal.sequence-loop-item-init
sequence-loop-item-init t c =
    sequence_first c.args.checker.now (exprs_of c.args.items.now) (exprs_view c.as_slice-item-items.result.now) c.value-last.result c.in_ok-scalar.field-0 c.as_slice-item-items.ensures c.value-last.ensures.kind c.value-last.ensures.ends c.in_ok-scalar.ensures c.requires

pub sequence-expr-requires : goal.sequence-expr-requires
sequence-expr-requires t c =
    let l = c.loop-item in
    let next = next_item c.as_slice-item-items.result.now l.item-index c.item-item.result c.loop-item-test.true c.item-item.is in
    let fewer = sequence_fewer _ _ _ _ _ _ _ next l.invariant in
    (omega (arith, c.decreases, fewer), sequence_can_next _ _ _ _ _ _ _ next l.invariant)

pub sequence-go_on-requires : goal.sequence-go_on-requires
sequence-go_on-requires t c =
    let l = c.loop-item in
    sequence_common _ l.checker c.expr.new.checker _ _ (expr_of c.item-item.result) _ c.in_ok-part.part l.invariant c.in_ok-part.ensures

pub sequence-loop-item-preserved : goal.sequence-loop-item-preserved
sequence-loop-item-preserved t c =
    let l = c.loop-item in
    let all = c.as_slice-item-items.result.now in
    let next = next_item all l.item-index c.item-item.result c.loop-item-test.true c.item-item.is in
    sequence_next _ l.checker c.expr.new.checker _ _ (exprs_view (drop (l.item-index + 1) all)) (expr_of c.item-item.result) _ _ c.in_ok-part.part next l.invariant c.in_ok-part.ensures c.in_ok-go_on.ensures.kind c.in_ok-go_on.ensures.joined (c.in_ok-go_on.ensures.scopes _)

pub sequence-returns : goal.sequence-returns
sequence-returns t c =
    let l = c.loop-item in
    sequence_end _ _ _ _ _ (no_item_left c.as_slice-item-items.result.now l.item-index c.loop-item-test.false) l.invariant

pub operators::binary-returns-in-Coalesce : goal.operators::binary-returns-in-Coalesce
operators::binary-returns-in-Coalesce t c =
    rw c.in-Coalesce.is (c.coalescing.ensures)

pub operators::binary-returns-in-Or : goal.operators::binary-returns-in-Or
operators::binary-returns-in-Or t c =
    rw c.in-Or.is (IfOk-weaker c.disjunction.result _ _ (λ finding given. given c.args.span) c.disjunction.ensures)

pub operators::binary-returns-in-And : goal.operators::binary-returns-in-And
operators::binary-returns-in-And t c =
    rw c.in-And.is (IfOk-weaker c.conjunction.result _ _ (λ finding given. given c.args.span) c.conjunction.ensures)

pub operators::binary-returns-in-Merge : goal.operators::binary-returns-in-Merge
operators::binary-returns-in-Merge t c =
    rw c.in-Merge.is (IfOk-weaker c.merge.result _ _ (λ finding given. given c.args.span) c.merge.ensures)

pub operators::negation-returns : goal.operators::negation-returns
operators::negation-returns t c =
    IfOk-weaker c.negated.result _ _
    (λ finding negates. negation_given c.args.span (expr_of c.args.inner.now) c.args.checker.now c.expr.new.checker c.negated.new.self c.in_ok-part.part finding c.in_ok-part.ensures negates)
    c.negated.ensures

pub operators::operands-beside-requires : goal.operators::operands-beside-requires
operators::operands-beside-requires t c =
    (omega (arith, c.decreases), (can_at c.args.checker.now c.expr.new.checker (expr_of c.args.right.now) c.in_ok-left.ensures.2.gathered.patterns c.requires.right, here_are c.args.checker.now c.expr.new.checker c.in_ok-left.left c.in_ok-left.ensures.0 c.in_ok-left.ensures.2))

pub operators::operands-returns : goal.operators::operands-returns
operators::operands-returns t c =
    IfOk-weaker c.beside.result _ _
    (λ parts beside. operands_given (expr_of c.args.left.now) (expr_of c.args.right.now) c.args.checker.now c.expr.new.checker c.beside.new.checker c.in_ok-left.left parts c.in_ok-left.ensures beside)
    c.beside.ensures

pub operators::beside-paired-requires : goal.operators::beside-paired-requires
operators::beside-paired-requires t c =
    both_common c.args.checker.now c.expr.new.checker c.args.left c.in_ok-right.right (expr_of c.args.right.now) c.requires.ends c.in_ok-right.ensures

pub operators::beside-returns : goal.operators::beside-returns
operators::beside-returns t c =
    IfOk-weaker c.paired.result _ _
    (λ parts paired. beside_given (expr_of c.args.right.now) c.args.checker.now c.expr.new.checker c.args.left c.in_ok-right.right c.is_other-left_no_object.result parts c.is_other-left_no_object.ensures c.in_ok-right.ensures paired)
    c.paired.ensures

pub operators::equality-returns : goal.operators::equality-returns
operators::equality-returns t c =
    IfOk-weaker c.equated.result _ _
    (λ finding equates. equality_given c.args.span c.args.op (expr_of c.args.left.now) (expr_of c.args.right.now) c.args.checker.now c.operands.new.checker c.equated.new.self c.is_chained.result c.in_ok-parts.parts finding c.requires.op c.is_chained.ensures c.in_ok-parts.ensures equates)
    c.equated.ensures

pub operators::of_table-combined-requires : goal.operators::of_table-combined-requires
operators::of_table-combined-requires t c =
    operands_are (expr_of c.args.left.now) (expr_of c.args.right.now) c.args.checker.now c.operands.new.checker c.in_ok-parts.parts c.in_ok-parts.ensures

pub operators::of_table-returns : goal.operators::of_table-returns
operators::of_table-returns t c =
    IfOk-weaker c.combined.result _ _
    (λ finding combines. table_given c.args.span c.args.op c.args.table (expr_of c.args.left.now) (expr_of c.args.right.now) c.args.checker.now c.operands.new.checker c.combined.new.self c.is_chained.result c.in_ok-parts.parts finding c.requires.op c.is_chained.ensures c.in_ok-parts.ensures combines)
    c.combined.ensures

pub operators::merge-returns : goal.operators::merge-returns
operators::merge-returns t c =
    let left_is : c.args.left.now.span ≡ span_of (expr_of c.args.left.now) = search (rules, the_lemmas) in
    let right_is : c.args.right.now.span ≡ span_of (expr_of c.args.right.now) = search (rules, the_lemmas) in
    IfOk-weaker c.merged.result _ _
    (λ finding merges. merge_given (expr_of c.args.left.now) (expr_of c.args.right.now) c.args.left.now.span c.args.right.now.span c.args.checker.now c.operands.new.checker c.merged.new.self c.in_ok-parts.parts finding left_is right_is c.in_ok-parts.ensures merges)
    c.merged.ensures

pub operators::merge_into-beside-requires : goal.operators::merge_into-beside-requires
operators::merge_into-beside-requires t c =
    (omega (arith, c.decreases), (can_at c.args.checker.now c.read.new.checker (expr_of c.args.value.now) c.in_ok-read.ensures.judged.1.gathered.patterns c.requires, place_are c.args.checker.now c.read.new.checker c.in_ok-read.read c.in_ok-left.left c.in_ok-read.ensures.judged.0 c.in_ok-read.ensures.judged.1 c.in_ok-left.ensures))

pub operators::merge_into-returns-clause-given : goal.operators::merge_into-returns-clause-given
operators::merge_into-returns-clause-given t c =
    let right_is : c.args.value.now.span ≡ span_of (expr_of c.args.value.now) = search (rules, the_lemmas) in
    IfOk-weaker c.merged.result _ _
    (λ finding merges. merge_into_given (expr_of c.args.value.now) c.args.place c.args.value.now.span c.args.root.now c.args.path.now c.args.checker.now c.read.new.checker c.beside.new.checker c.merged.new.self c.in_ok-read.read c.in_ok-left.left c.in_ok-parts.parts finding right_is c.in_ok-read.ensures.given c.in_ok-left.ensures c.in_ok-parts.ensures merges)
    c.merged.ensures

pub operators::merge_into-returns-clause-judged : goal.operators::merge_into-returns-clause-judged
operators::merge_into-returns-clause-judged t c =
    IfOk-weaker c.merged.result _ _
    (λ finding merges. merge_into_judged (expr_of c.args.value.now) c.args.place c.args.value.now.span c.args.checker.now c.read.new.checker c.beside.new.checker c.merged.new.self c.in_ok-read.read c.in_ok-left.left c.in_ok-parts.parts finding c.in_ok-read.ensures.judged.0 c.in_ok-read.ensures.judged.1 c.in_ok-left.ensures c.in_ok-parts.ensures merges)
    c.merged.ensures

pub branches::conjunction-left_of_and-requires : goal.branches::conjunction-left_of_and-requires
branches::conjunction-left_of_and-requires t c =
    expr_ends (expr_of c.args.left.now) c.args.checker.now c.expr.new.checker c.in_ok-part.part c.in_ok-part.ensures

pub branches::conjunction-expr-requires-2 : goal.branches::conjunction-expr-requires-2
branches::conjunction-expr-requires-2 t c =
    let same = c.in_ok-side.ensures.side.moved.patterns ∙ c.in_ok-part.ensures.2.gathered.patterns in
    (omega (arith, c.decreases), can_at c.args.checker.now c.left_of_and.new.self (expr_of c.args.right.now) same c.requires.right)

pub branches::conjunction-conjoined-requires : goal.branches::conjunction-conjoined-requires
branches::conjunction-conjoined-requires t c =
    record {
      left = stands_here (expr_of c.args.right.now) _ _ c.expr.new.checker c.left_of_and.new.self c.expr-2.new.checker c.in_ok-side.side c.in_ok-other.other c.in_ok-side.ensures.side c.in_ok-other.ensures;
      right = expr_ends (expr_of c.args.right.now) c.left_of_and.new.self c.expr-2.new.checker c.in_ok-other.other c.in_ok-other.ensures;
    }

pub branches::conjunction-returns : goal.branches::conjunction-returns
branches::conjunction-returns t c =
    IfOk-weaker c.conjoined.result _ _
    (λ finding last. conjunction_judged (expr_of c.args.left.now) (expr_of c.args.right.now) c.args.checker.now c.expr.new.checker c.left_of_and.new.self c.expr-2.new.checker c.conjoined.new.self c.in_ok-part.part c.in_ok-other.other finding c.in_ok-side.side
    c.in_ok-part.ensures c.in_ok-side.ensures.side c.in_ok-side.ensures.ends c.in_ok-other.ensures last)
    c.conjoined.ensures

pub branches::disjunction-left_of_or-requires : goal.branches::disjunction-left_of_or-requires
branches::disjunction-left_of_or-requires t c =
    expr_ends (expr_of c.args.left.now) c.args.checker.now c.expr.new.checker c.in_ok-part.part c.in_ok-part.ensures

pub branches::disjunction-expr-requires-2 : goal.branches::disjunction-expr-requires-2
branches::disjunction-expr-requires-2 t c =
    let same = c.in_ok-side.ensures.side.moved.patterns ∙ c.in_ok-part.ensures.2.gathered.patterns in
    (omega (arith, c.decreases), can_at c.args.checker.now c.left_of_or.new.self (expr_of c.args.right.now) same c.requires.right)

pub branches::disjunction-disjoined-requires : goal.branches::disjunction-disjoined-requires
branches::disjunction-disjoined-requires t c =
    record {
      left = stands_here (expr_of c.args.right.now) _ _ c.expr.new.checker c.left_of_or.new.self c.expr-2.new.checker c.in_ok-side.side c.in_ok-other.other c.in_ok-side.ensures.side c.in_ok-other.ensures;
      right = expr_ends (expr_of c.args.right.now) c.left_of_or.new.self c.expr-2.new.checker c.in_ok-other.other c.in_ok-other.ensures;
    }

pub branches::disjunction-returns : goal.branches::disjunction-returns
branches::disjunction-returns t c =
    by_both c.disjoined.result _ _ _
    (λ finding. disjunction_judged (expr_of c.args.left.now) (expr_of c.args.right.now) c.args.checker.now c.expr.new.checker c.left_of_or.new.self c.expr-2.new.checker c.disjoined.new.self c.in_ok-part.part c.in_ok-other.other finding c.in_ok-side.side
    c.in_ok-part.ensures c.in_ok-side.ensures.side c.in_ok-side.ensures.part c.in_ok-other.ensures)
    c.disjoined.ensures.kind c.disjoined.ensures.sides

pub branches::coalescing-left_of_coalescing-requires : goal.branches::coalescing-left_of_coalescing-requires
branches::coalescing-left_of_coalescing-requires t c =
    expr_ends (expr_of c.args.left.now) c.args.checker.now c.expr.new.checker c.in_ok-part.part c.in_ok-part.ensures

pub branches::coalescing-expr-requires-2 : goal.branches::coalescing-expr-requires-2
branches::coalescing-expr-requires-2 t c =
    let same = c.in_ok-side.ensures.side.moved.patterns ∙ c.in_ok-part.ensures.2.gathered.patterns in
    (omega (arith, c.decreases), can_at c.args.checker.now c.left_of_coalescing.new.self (expr_of c.args.right.now) same c.requires.right)

pub branches::coalescing-coalesced-requires : goal.branches::coalescing-coalesced-requires
branches::coalescing-coalesced-requires t c =
    record {
      left = stands_here (expr_of c.args.right.now) _ _ c.expr.new.checker c.left_of_coalescing.new.self c.expr-2.new.checker c.in_ok-side.side c.in_ok-other.other c.in_ok-side.ensures.side c.in_ok-other.ensures;
      right = expr_ends (expr_of c.args.right.now) c.left_of_coalescing.new.self c.expr-2.new.checker c.in_ok-other.other c.in_ok-other.ensures;
    }

pub branches::coalescing-returns : goal.branches::coalescing-returns
branches::coalescing-returns t c =
    by_both c.reported.result _ _ _
    (λ finding same reported. subst (IsGivenAs c.args.span (binary ops.Coalesce (expr_of c.args.left.now) (expr_of c.args.right.now)) c.args.checker.now c.reported.new.self) (sym same)
    (coalescing_judged c.args.span (expr_of c.args.left.now) (expr_of c.args.right.now) c.args.checker.now c.expr.new.checker c.left_of_coalescing.new.self c.expr-2.new.checker c.coalesced.new.self c.reported.new.self c.in_ok-part.part c.in_ok-other.other c.in_ok-both.both c.in_ok-side.side finding.ends c.is_needless-needless.result
    c.in_ok-part.ensures c.is_needless-needless.ensures c.in_ok-side.ensures.side c.in_ok-side.ensures.part c.in_ok-other.ensures c.in_ok-both.ensures.kind c.in_ok-both.ensures.sides reported))
    c.reported.ensures.same c.reported.ensures.reported

pub branches::conditional-loop-arm-init : goal.branches::conditional-loop-arm-init
branches::conditional-loop-arm-init t c =
    first_arms (arms_of c.args.arms.now) (else_of (option_map exprs_of c.args.otherwise.now)) c.as_slice-arm-items.result.now c.args.checker.now c.in_ok-ways.ways c.as_slice-arm-items.ensures c.in_ok-ways.ensures c.requires.arms

pub branches::conditional-add_arm-requires : goal.branches::conditional-add_arm-requires
branches::conditional-add_arm-requires t c =
    let l = c.loop-arm in
    let items = c.as_slice-arm-items.result.now in
    let can = next_can (arms_of c.args.arms.now) (arms_view (drop (l.arm-index + 1) items)) (else_of (option_map exprs_of c.args.otherwise.now)) (arm_of c.arm-item.result) (arms_view (drop l.arm-index items)) c.args.checker.now l.checker l.ways (next_arm items l.arm-index c.arm-item.result c.loop-arm-test.true c.arm-item.is) l.invariant in
    (omega (arith, c.decreases, l.invariant.size, ap arms_size (next_arm items l.arm-index c.arm-item.result c.loop-arm-test.true c.arm-item.is)), (can.0, (can.1, ways_here c.args.checker.now l.checker l.ways l.invariant.w l.invariant.told)))

pub branches::conditional-loop-arm-preserved : goal.branches::conditional-loop-arm-preserved
branches::conditional-loop-arm-preserved t c =
    let l = c.loop-arm in
    let items = c.as_slice-arm-items.result.now in
    more_arms (arms_of c.args.arms.now) (arms_view (drop (l.arm-index + 1) items)) (else_of (option_map exprs_of c.args.otherwise.now)) (arm_of c.arm-item.result) (arms_view (drop l.arm-index items)) c.args.checker.now l.checker c.add_arm.new.checker l.ways c.add_arm.new.ways (next_arm items l.arm-index c.arm-item.result c.loop-arm-test.true c.arm-item.is) l.invariant c.in_ok-add_arm.ensures

pub branches::conditional-last_way-requires : goal.branches::conditional-last_way-requires
branches::conditional-last_way-requires t c =
    let l = c.loop-arm in
    (omega (arith, c.decreases), else_at c.args.checker.now l.checker (else_of (option_map exprs_of c.args.otherwise.now)) l.invariant.told.patterns c.requires.otherwise)

pub branches::conditional-add_last-requires : goal.branches::conditional-add_last-requires
branches::conditional-add_last-requires t c =
    let l = c.loop-arm in
    record {
      ways = ways_behind (else_of (option_map exprs_of c.args.otherwise.now)) c.args.checker.now l.checker c.last_way.new.checker l.ways l.invariant.w c.in_ok-last.last l.invariant.told c.in_ok-last.ensures;
      last = last_ends (else_of (option_map exprs_of c.args.otherwise.now)) l.checker c.last_way.new.checker c.in_ok-last.last c.in_ok-last.ensures;
    }

pub branches::conditional-returns : goal.branches::conditional-returns
branches::conditional-returns t c =
    let l = c.loop-arm in
    let whole = arms_of c.args.arms.now in
    let behind_all = else_of (option_map exprs_of c.args.otherwise.now) in
    let items = c.as_slice-arm-items.result.now in
    IfOk-weaker c.add_last.result _ _
    (λ finding behind. conditional_judged whole behind_all c.args.checker.now l.checker c.last_way.new.checker c.add_last.new.self l.ways c.in_ok-last.last finding
    (subst (λ rest. AreJudged whole behind_all rest c.args.checker.now l.checker l.ways) (no_arm_left items l.arm-index c.loop-arm-test.false) l.invariant) c.in_ok-last.ensures behind)
    c.add_last.ensures

pub branches::add_arm-expr-requires : goal.branches::add_arm-expr-requires
branches::add_arm-expr-requires t c =
    let a = out-Arm c.args.arm.now in
    let is : arm_of c.args.arm.now ≡ (expr_of a.predicate, exprs_of a.body) = search (rules, the_lemmas) in
    (omega (arith, c.decreases, ap (λ a. expr_size a.0 + exprs_size a.1) is), subst (λ t. ExprCanBeJudged c.args.checker.now.patterns.now t.0) is c.requires.predicate)

pub branches::add_arm-add_predicate-requires : goal.branches::add_arm-add_predicate-requires
branches::add_arm-add_predicate-requires t c =
    let a = out-Arm c.args.arm.now in
    record {
      ways = ways_in c.args.ways.now c.args.checker.now.state.scopes c.expr.new.checker.state.scopes (sym c.in_ok-part.ensures.2.gathered.scopes) c.requires.ways;
      part = expr_ends (expr_of a.predicate) c.args.checker.now c.expr.new.checker c.in_ok-part.part c.in_ok-part.ensures;
    }

pub branches::add_arm-block-requires : goal.branches::add_arm-block-requires
branches::add_arm-block-requires t c =
    let a = out-Arm c.args.arm.now in
    let is : arm_of c.args.arm.now ≡ (expr_of a.predicate, exprs_of a.body) = search (rules, the_lemmas) in
    let same = c.in_ok-add_predicate.ensures.reported.patterns ∙ c.in_ok-part.ensures.2.gathered.patterns in
    let here = subst (λ t. ItemsCanBeJudged c.args.checker.now.patterns.now t.1) is c.requires.block in
    (omega (arith, c.decreases, ap (λ a. expr_size a.0 + exprs_size a.1) is), items_at c.args.checker.now c.add_predicate.new.self (exprs_of a.body) same here)

pub branches::add_arm-add_block-requires : goal.branches::add_arm-add_block-requires
branches::add_arm-add_block-requires t c =
    let a = out-Arm c.args.arm.now in
    record {
      ways = middle_here (expr_of a.predicate) (exprs_of a.body) a.predicate.span c.args.checker.now c.expr.new.checker c.add_predicate.new.self c.block.new.checker c.mark.new.self c.args.ways.now c.add_predicate.new.ways c.in_ok-part.part c.in_ok-block.block c.in_ok-add_predicate.ensures c.mark.ensures.state c.in_ok-block.ensures;
      block = block_ends (exprs_of a.body) _ c.block.new.checker c.in_ok-block.block c.in_ok-block.ensures;
    }

pub branches::add_arm-returns : goal.branches::add_arm-returns
branches::add_arm-returns t c =
    let a = out-Arm c.args.arm.now in
    let is : arm_of c.args.arm.now ≡ (expr_of a.predicate, exprs_of a.body) = search (rules, the_lemmas) in
    let span_is : a.predicate.span ≡ span_of (expr_of a.predicate) = search (rules, the_lemmas) in
    IfOk-weaker c.add_block.result _ _
    (λ _ behind. subst (λ t. IsArmBehind t c.args.ways.now c.args.checker.now c.add_block.new.self c.add_block.new.ways) (sym is)
    (arm_judged (expr_of a.predicate, exprs_of a.body) a.predicate.span c.args.checker.now c.expr.new.checker c.add_predicate.new.self c.block.new.checker c.add_block.new.self c.mark.new.self c.in_ok-mark.mark c.args.ways.now c.add_predicate.new.ways c.add_block.new.ways c.in_ok-part.part c.in_ok-block.block
    c.in_ok-part.ensures span_is c.in_ok-add_predicate.ensures c.mark.ensures.state c.in_ok-mark.ensures.mark c.in_ok-block.ensures behind))
    c.add_block.ensures

pub branches::last_way-block-requires : goal.branches::last_way-block-requires
branches::last_way-block-requires t c =
    let can = subst (λ o. ElseCanBeJudged c.args.checker.now.patterns.now (else_of (option_map exprs_of o))) c.in-Some.is c.requires in
    (omega (arith, c.decreases, ap (λ o. else_size (else_of (option_map exprs_of o))) c.in-Some.is), record { limits = can.limits; regexes = can.regexes })

pub branches::last_way-returns-in-Some : goal.branches::last_way-returns-in-Some
branches::last_way-returns-in-Some t c =
    subst (λ o. IfOk c.block.result (IsElseAs (else_of (option_map exprs_of o)) c.args.checker.now c.block.new.checker)) (sym c.in-Some.is) c.block.ensures

pub branches::last_way-returns-in-None : goal.branches::last_way-returns-in-None
branches::last_way-returns-in-None t c =
    subst (λ o. IfOk c.missing_else.result (IsElseAs (else_of (option_map exprs_of o)) c.args.checker.now c.missing_else.new.checker)) (sym c.in-None.is) c.missing_else.ensures

pub return_with-returned-requires : goal.return_with-returned-requires
return_with-returned-requires t c =
    record {
      ends = expr_ends (expr_of c.args.value.now) c.args.checker.now c.expr.new.checker c.in_ok-part.part c.in_ok-part.ensures;
      kind = expr_root (expr_of c.args.value.now) c.args.checker.now c.expr.new.checker c.in_ok-part.part c.in_ok-part.ensures;
    }

pub return_with-returns : goal.return_with-returns
return_with-returns t c =
    IfOk-weaker c.returned.result _ _
    (λ finding last. return_judged c.args.span (expr_of c.args.value.now) c.args.checker.now c.expr.new.checker c.returned.new.self c.in_ok-part.part finding c.in_ok-part.ensures last)
    c.returned.ensures

pub abort_with-aborted-requires : goal.abort_with-aborted-requires
abort_with-aborted-requires t c =
    expr_ends (expr_of c.args.message.now) c.args.checker.now c.expr.new.checker c.in_ok-part.part c.in_ok-part.ensures

pub abort_with-returns : goal.abort_with-returns
abort_with-returns t c =
    let span_is : c.args.message.now.span ≡ span_of (expr_of c.args.message.now) = search (rules, the_lemmas) in
    IfOk-weaker c.aborted.result _ _
    (λ finding last. abort_judged (expr_of c.args.message.now) c.args.message.now.span c.args.checker.now c.expr.new.checker c.aborted.new.self c.in_ok-part.part finding span_is c.in_ok-part.ensures last)
    c.aborted.ensures

pub assignments::assignment-assigned-requires-clause-present : goal.assignments::assignment-assigned-requires-clause-present
assignments::assignment-assigned-requires-clause-present t c =
    judged_present c.args.checker.now c.expr.new.checker c.in_ok-part.part c.in_ok-part.ensures.0 c.in_ok-part.ensures.2

pub assignments::assignment-returns : goal.assignments::assignment-returns
assignments::assignment-returns t c =
    IfOk-weaker c.assigned.result _ _
    (λ finding assigned. assignment_judged c.args.span c.args.target.now (expr_of c.args.value.now) c.args.checker.now c.expr.new.checker c.assigned.new.self c.in_ok-part.part finding c.in_ok-part.ensures assigned)
    c.assigned.ensures

pub assignments::merge_assignment-returns-in_ok-part-in-Nowhere : goal.assignments::merge_assignment-returns-in_ok-part-in-Nowhere
assignments::merge_assignment-returns-in_ok-part-in-Nowhere t c =
    by_both c.reported.result _ _ _
    (λ finding same reported. subst (IsGivenAs c.args.span (merge c.args.target.now (expr_of c.args.value.now)) c.args.checker.now c.reported.new.self) (sym same)
    (nowhere_judged c.args.span c.args.target.now (expr_of c.args.value.now) c.args.checker.now c.expr.new.checker c.reported.new.self c.in_ok-part-in-Nowhere.part finding.ends c.in-Nowhere.is c.in_ok-part-in-Nowhere.ensures reported))
    c.reported.ensures.same c.reported.ensures.reported

pub assignments::merge_assignment-assigned-requires-clause-present : goal.assignments::merge_assignment-assigned-requires-clause-present
assignments::merge_assignment-assigned-requires-clause-present t c =
    settled_present c.args.checker.now c.merge_into.new.checker c.in_ok-whole-in-Place.whole c.in_ok-merged-in-Place.merged c.in_ok-whole-in-Place.ensures.judged c.in_ok-merged-in-Place.ensures

pub assignments::merge_assignment-returns-in_ok-merged-in-Place : goal.assignments::merge_assignment-returns-in_ok-merged-in-Place
assignments::merge_assignment-returns-in_ok-merged-in-Place t c =
    IfOk-weaker c.assigned.result _ _
    (λ finding assigned. merge_judged c.args.span c.in-Place.place c.in-Place.root c.in-Place.path c.args.target.now (expr_of c.args.value.now) c.args.checker.now c.merge_into.new.checker c.assigned.new.self c.in_ok-whole-in-Place.whole c.in_ok-merged-in-Place.merged finding c.in-Place.is c.in_ok-whole-in-Place.ensures.given c.in_ok-merged-in-Place.ensures assigned)
    c.assigned.ensures

pub assignments::error_assignment-both_assigned-requires-clause-kind : goal.assignments::error_assignment-both_assigned-requires-clause-kind
assignments::error_assignment-both_assigned-requires-clause-kind t c =
    expr_root (expr_of c.args.value.now) _ c.expr.new.checker c.in_ok-part.part c.in_ok-part.ensures

pub assignments::error_assignment-both_assigned-requires-clause-ends : goal.assignments::error_assignment-both_assigned-requires-clause-ends
assignments::error_assignment-both_assigned-requires-clause-ends t c =
    expr_ends (expr_of c.args.value.now) _ c.expr.new.checker c.in_ok-part.part c.in_ok-part.ensures

pub assignments::error_assignment-both_assigned-requires-clause-place : goal.assignments::error_assignment-both_assigned-requires-clause-place
assignments::error_assignment-both_assigned-requires-clause-place t c =
    let counted : vec_len c.args.checker.now.empties ≡ length c.args.checker.now.empties.items = search rules in
    place_stands c.len-place.result c.args.checker.now.empties.items _ _ c.in_ok-part.ensures.0.empties (c.len-place.ensures ∙ counted) c.in_ok-push.ensures.items c.in_ok-part.ensures.2.gathered.empties

pub assignments::error_assignment-returns : goal.assignments::error_assignment-returns
assignments::error_assignment-returns t c =
    let counted : vec_len c.args.checker.now.empties ≡ length c.args.checker.now.empties.items = search rules in
    IfOk-weaker c.both_assigned.result _ _
    (λ finding last. error_judged c.args.span c.args.ok.now c.args.err.now (expr_of c.args.value.now) c.args.checker.now _ c.expr.new.checker c.both_assigned.new.self c.len-place.result c.in_ok-part.part finding refl refl refl refl refl c.in_ok-push.ensures.items (c.len-place.ensures ∙ counted) c.in_ok-part.ensures last)
    c.both_assigned.ensures

pub call-arguments-requires : goal.call-arguments-requires
call-arguments-requires t c =
    let a = out-Call c.args.call.now in
    let is : call_of c.args.call.now ≡ call a.name a.name_span a.bang (args_of a.args) (closure_in (option_map closure_of a.closure)) = search (rules, the_lemmas) in
    (omega (arith, c.decreases, ap form_size is), arguments_can _ _ _ _ _ (seen_can is c.requires))

pub call-called-requires-clause-form : goal.call-called-requires-clause-form
call-called-requires-clause-form t c =
    form_at c.args.checker.now c.arguments.new.checker (call_of c.args.call.now) c.in_ok-arguments.ensures.3.gathered.patterns c.requires

pub call-called-requires-clause-name : goal.call-called-requires-clause-name
call-called-requires-clause-name t c =
    subst (λ n. takes_closure n ≡ false) c.as_str.ensures c.in-None.ensures

pub call-called-requires-clause-told : goal.call-called-requires-clause-told
call-called-requires-clause-told t c =
    arguments_told _ c.args.checker.now c.arguments.new.checker c.in_ok-arguments.arguments c.in_ok-arguments.ensures

pub call-called-requires-clause-ends : goal.call-called-requires-clause-ends
call-called-requires-clause-ends t c =
    arguments_are _ c.args.checker.now c.arguments.new.checker c.in_ok-arguments.arguments c.in_ok-arguments.ensures

pub call-closure_call-requires : goal.call-closure_call-requires
call-closure_call-requires t c =
    let x = c.args.call.now in
    let are = c.in_ok-arguments.ensures in
    let name = c.in-Some.ensures in
    (omega (arith, c.decreases, ap form_size (call_seen x)), (subst (λ n. form_named n ≡ Some c.in-Some.form) c.as_str.ensures name.0, (name.1, (form_at c.args.checker.now c.arguments.new.checker (call_of x) are.3.gathered.patterns c.requires, (arguments_told _ c.args.checker.now c.arguments.new.checker c.in_ok-arguments.arguments are, arguments_are _ c.args.checker.now c.arguments.new.checker c.in_ok-arguments.arguments are)))))

pub call-returns-in-Some : goal.call-returns-in-Some
call-returns-in-Some t c =
    let a = out-Call c.args.call.now in
    IfOk-weaker c.closure_call.result _ _
    (λ finding called. call_given c.args.span (call_of c.args.call.now) (args_of a.args) c.args.checker.now c.arguments.new.checker c.closure_call.new.checker c.in_ok-arguments.arguments finding c.in_ok-arguments.ensures called)
    c.closure_call.ensures

pub call-returns-in-None : goal.call-returns-in-None
call-returns-in-None t c =
    let a = out-Call c.args.call.now in
    IfOk-weaker c.called.result _ _
    (λ finding called. call_given c.args.span (call_of c.args.call.now) (args_of a.args) c.args.checker.now c.arguments.new.checker c.called.new.checker c.in_ok-arguments.arguments finding c.in_ok-arguments.ensures called)
    c.called.ensures

pub closures::closure_call-iterated-requires : goal.closures::closure_call-iterated-requires
closures::closure_call-iterated-requires t c =
    let x = c.args.call.now in
    let cl = c.in-Some.closure.now in
    let there = c.in-Some.ensures.1 in
    let js = c.requires.told.0 in
    let told = c.requires.told.1 in
    let codes = c.in_ok-wrong.ensures.reported js told in
    let none = no_code _ (sym (c.in_ok-wrong.ensures.wrong js told) ∙ c.in-Some.ensures.0) in
    let same = keywords_told (call_args x) js told.written_are in (
      omega (arith, c.decreases, closure_sized x cl there),
      (
        right_shape c.args.form c.args.span (call_closure x) cl (keywords_of (call_args x)) js (closure_called x cl there) same none,
        (items_at c.args.checker.now c.is_wrong_call.new.checker (closure_items cl) codes.patterns (closure_kept x cl there c.requires.can), codes_are _ c.args.checker.now c.is_wrong_call.new.checker c.args.arguments.ends c.is_wrong_call.new.arguments.ends codes c.requires.ends),
      ),
    )

pub closures::closure_call-returns-in_ok-finding-in-Some : goal.closures::closure_call-returns-in_ok-finding-in-Some
closures::closure_call-returns-in_ok-finding-in-Some t c =
    let x = c.args.call.now in
    let gs = call_args x in
    let cl = c.in-Some.closure.now in
    let there = c.in-Some.ensures.1 in
    let is = call_seen x ∙ ap (call (call_name x) (out-Call x).name_span (call_bang x) gs) (closure_called x cl there) in
    IfOk-weaker c.banged.result _ _
    (λ finding bangs before known js j alive judged has.
    let same = keywords_told gs js has.told.written_are in
    let none = no_code _ (sym (c.in_ok-wrong.ensures.wrong js has.told) ∙ c.in-Some.ensures.0) in
    let right = right_call c.args.form c.args.span (call_closure x) (keywords_of gs) js (binding (collection_parameters c.args.form) (keywords_of gs)) refl same none in
    subst (λ f. (k : Judgement) × Gives (language_rules before.patterns.now) before.inside known c.args.span f k × HasJudged before c.banged.new.self finding k) (sym is)
    (closure_call_judged c.args.form (call_name x) (out-Call x).name_span c.args.span (call_bang x) gs (closure_names cl) (closure_items cl) (closure_span cl) before c.args.checker.now c.is_wrong_call.new.checker c.iterated.new.checker c.banged.new.self known
    c.args.arguments c.is_wrong_call.new.arguments c.in_ok-finding-in-Some.finding finding js j c.requires.form c.requires.four judged has
    (subst (λ z. IsReported (of_closure_call c.args.form c.args.span gs z js) c.args.checker.now c.is_wrong_call.new.checker c.args.arguments.ends c.is_wrong_call.new.arguments.ends) (closure_called x cl there) (c.in_ok-wrong.ensures.reported js has.told))
    c.is_wrong_call.ensures.parts (subst (λ z. of_closure_call c.args.form c.args.span gs z js ≡ []) (closure_called x cl there) none) (right.0, right.1)
    (λ g ready. c.in_ok-finding-in-Some.ensures before gs g j ready) (λ k made. bangs before k made)))
    c.banged.ensures

pub closures::closure_call-returns-in-None : goal.closures::closure_call-returns-in-None
closures::closure_call-returns-in-None t c =
    let x = c.args.call.now in
    let gs = call_args x in
    IfOk-weaker c.passed_call.result _ _
    (λ finding passes before known js j alive judged has.
    let same = keywords_told gs js has.told.written_are in
    let some = wrong_code c.args.form c.args.span (call_closure x) (keywords_of gs) js c.in_ok-wrong.wrong same (c.in_ok-wrong.ensures.wrong js has.told) (wrong_or_none x c.in_ok-wrong.wrong c.in-None.ensures) in
    subst (λ f. (k : Judgement) × Gives (language_rules before.patterns.now) before.inside known c.args.span f k × HasJudged before c.passed_call.new.checker finding k) (sym (call_seen x))
    (wrong_call_judged c.args.form (call_name x) (out-Call x).name_span c.args.span (call_bang x) gs (call_closure x) before c.args.checker.now c.is_wrong_call.new.checker c.passed_call.new.checker known c.args.arguments c.is_wrong_call.new.arguments finding js j
    c.requires.form c.requires.four judged has (c.in_ok-wrong.ensures.reported js has.told) some (λ k ends gathered. passes before k ends gathered)))
    c.passed_call.ensures

pub closures::iterated-all_runs-requires : goal.closures::iterated-all_runs-requires
closures::iterated-all_runs-requires t c =
    let names = c.in_ok-names.ensures in
    let kinds : c.deref.result.now ≡ for_names c.args.form names.key names.value = c.deref.ensures.value ∙ names.names in (
      omega (arith, c.decreases),
      record {
        items = items_at c.args.checker.now c.collection_of.new.checker (closure_items c.args.closure.now) (ap (λ x. x.patterns) c.collection_of.ensures.checker) c.requires.items;
        kinds = subst (All IsRootKind) (sym kinds) (names_roots c.args.form names.key names.value names.key_root names.value_root);
        count = shape_counted c.args.form (closure_names c.args.closure.now) names.key names.value c.requires.shape ∙ ap length (sym kinds);
      },
    )

pub closures::iterated-made_of-requires-clause-ends : goal.closures::iterated-made_of-requires-clause-ends
closures::iterated-made_of-requires-clause-ends t c =
    let same = c.in_ok-run.ensures.judged.gathered.scopes ∙ ap (λ x. x.state.scopes) c.collection_of.ensures.checker in
    subst (λ e. AreEnds c.all_runs.new.checker.state.scopes e) (sym c.in_ok-collection.ensures.ends) (subst (λ s. AreEnds s c.args.arguments.ends) (sym same) c.requires.ends)

pub closures::iterated-made_of-requires-clause-fail : goal.closures::iterated-made_of-requires-clause-fail
closures::iterated-made_of-requires-clause-fail t c =
    let same = c.in_ok-run.ensures.judged.gathered.scopes ∙ ap (λ x. x.state.scopes) c.collection_of.ensures.checker in
    subst (λ s. IsWay s c.in_ok-collection.collection.fail) (sym same) c.in_ok-collection.ensures.fail

pub closures::iterated-made_of-requires-clause-run : goal.closures::iterated-made_of-requires-clause-run
closures::iterated-made_of-requires-clause-run t c =
    let run = c.in_ok-run.ensures in
    subst (λ s. AreEnds s c.in_ok-run.run'.finding.ends) (sym run.judged.gathered.scopes) run.judged.ends.are

pub closures::iterated-returns : goal.closures::iterated-returns
closures::iterated-returns t c =
    let cl = c.args.closure.now in
    let names = c.in_ok-names.ensures in
    let still = c.collection_of.ensures.checker in
    IfOk-weaker c.made_of.result _ _
    (λ finding made before gs g j has. iterated_judged c.args.form cl c.in_ok-names.names.kinds.items c.in_ok-names.names.runs before c.args.checker.now c.all_runs.new.checker c.made_of.new.checker c.args.arguments c.in_ok-collection.collection c.in_ok-run.run' finding gs g j has
    (c.in_ok-collection.ensures.taken g has.told.parts_are) names (subst (λ x. AreRuns c.args.form (body_in cl c.in_ok-names.names.kinds.items c.in_ok-names.names.runs) x c.all_runs.new.checker c.in_ok-run.run') still
    (subst (λ Ks. AreRuns c.args.form (body_in cl Ks c.in_ok-names.names.runs) c.collection_of.new.checker c.all_runs.new.checker c.in_ok-run.run') c.deref.ensures.value c.in_ok-run.ensures)) made)
    c.made_of.ensures

pub closures::all_runs-first_try-requires : goal.closures::all_runs-first_try-requires
closures::all_runs-first_try-requires t c =
    (omega (arith, c.decreases), c.requires)

pub closures::all_runs-keep_loop-requires : goal.closures::all_runs-keep_loop-requires
closures::all_runs-keep_loop-requires t c =
    let counted : vec_len c.args.checker.now.loops ≡ length c.args.checker.now.loops.items = search rules in
    place_kept c.len-place.result c.args.checker.now.loops.items _ c.first_try.new.checker.loops.items c.in_ok-run.ensures.k.loops (c.len-place.ensures ∙ counted) c.in_ok-push.ensures.items c.in_ok-run.ensures.judged.gathered.loops

pub closures::all_runs-returns : goal.closures::all_runs-returns
closures::all_runs-returns t c =
    let counted : vec_len c.args.checker.now.loops ≡ length c.args.checker.now.loops.items = search rules in
    all_runs c.args.form (body_in c.args.closure.now c.args.kinds.now c.args.runs) c.len-place.result c.args.checker.now _ c.first_try.new.checker c.keep_loop.new.checker c.in_ok-run.run' refl refl refl refl refl (c.len-place.ensures ∙ counted) c.in_ok-push.ensures.items c.in_ok-run.ensures
    c.in_ok-keep_loop.ensures.loops c.in_ok-keep_loop.ensures.others

pub closures::first_try-one_try-requires : goal.closures::first_try-one_try-requires
closures::first_try-one_try-requires t c =
    (omega (arith, c.decreases), c.requires)

pub closures::first_try-returns-in-Stable : goal.closures::first_try-returns-in-Stable
closures::first_try-returns-in-Stable t c =
    last_try c.args.form (body_in c.args.closure.now c.args.kinds.now c.args.runs) first _ _ c.in-Stable.run' (as_stable c.args.form (body_in c.args.closure.now c.args.kinds.now c.args.runs) _ c.one_try.new.checker c.in_ok-attempt.attempt c.in-Stable.run' c.in-Stable.is c.in_ok-attempt.ensures)

pub closures::first_try-second_try-requires : goal.closures::first_try-second_try-requires
closures::first_try-second_try-requires t c =
    let unstable = as_unstable c.args.form (body_in c.args.closure.now c.args.kinds.now c.args.runs) _ c.one_try.new.checker c.in_ok-attempt.attempt c.in-Unstable.behind c.in-Unstable.is c.in_ok-attempt.ensures in
    (omega (arith, c.decreases), (body_at c.args.checker.now c.one_try.new.checker c.args.closure.now c.args.kinds.now unstable.alike.patterns c.requires, unstable.behind_scopes ∙ sym unstable.alike.scopes))

pub closures::first_try-returns-in-Unstable : goal.closures::first_try-returns-in-Unstable
closures::first_try-returns-in-Unstable t c =
    IfOk-weaker c.second_try.result _ _
    (λ run are. tries_behind c.args.form (body_in c.args.closure.now c.args.kinds.now c.args.runs) c.args.checker.now c.one_try.new.checker c.second_try.new.checker c.in-Unstable.behind run (as_unstable c.args.form (body_in c.args.closure.now c.args.kinds.now c.args.runs) _ c.one_try.new.checker c.in_ok-attempt.attempt c.in-Unstable.behind c.in-Unstable.is c.in_ok-attempt.ensures) are)
    c.second_try.ensures

pub closures::second_try-widened-requires : goal.closures::second_try-widened-requires
closures::second_try-widened-requires t c =
    c.requires.behind

pub closures::second_try-one_try-requires : goal.closures::second_try-one_try-requires
closures::second_try-one_try-requires t c =
    (omega (arith, c.decreases), body_at c.args.checker.now c.widened.new.self c.args.closure.now c.args.kinds.now c.widened.ensures.others.patterns c.requires.body)

pub closures::second_try-returns-in-Stable : goal.closures::second_try-returns-in-Stable
closures::second_try-returns-in-Stable t c =
    let b = body_in c.args.closure.now c.args.kinds.now c.args.runs in
    second_stable c.args.form b c.args.behind.known c.args.checker.now c.widened.new.self _ c.in-Stable.run' c.widened.ensures.others (c.in_ok-widened.ensures.known b (sym c.in_ok-roots.ensures)) (as_stable c.args.form b _ c.one_try.new.checker c.in_ok-attempt.attempt c.in-Stable.run' c.in-Stable.is c.in_ok-attempt.ensures)

pub closures::second_try-third_try-requires : goal.closures::second_try-third_try-requires
closures::second_try-third_try-requires t c =
    let unstable = as_unstable c.args.form (body_in c.args.closure.now c.args.kinds.now c.args.runs) _ c.one_try.new.checker c.in_ok-attempt.attempt c.in-Unstable._behind c.in-Unstable.is c.in_ok-attempt.ensures in
    (omega (arith, c.decreases), (body_at c.args.checker.now c.one_try.new.checker c.args.closure.now c.args.kinds.now (unstable.alike.patterns ∙ c.widened.ensures.others.patterns) c.requires.body, c.in_ok-roots.ensures))

pub closures::second_try-returns : goal.closures::second_try-returns
closures::second_try-returns t c =
    let b = body_in c.args.closure.now c.args.kinds.now c.args.runs in
    IfOk-weaker c.third_try.result _ _
    (λ run last. second_unstable c.args.form b c.args.behind.known _ c.args.checker.now c.widened.new.self c.one_try.new.checker c.third_try.new.checker run c.widened.ensures.others (c.in_ok-widened.ensures.known b (sym c.in_ok-roots.ensures)) (as_unstable c.args.form b _ c.one_try.new.checker c.in_ok-attempt.attempt c.in-Unstable._behind c.in-Unstable.is c.in_ok-attempt.ensures) last)
    c.third_try.ensures

pub closures::third_try-one_try-requires : goal.closures::third_try-one_try-requires
closures::third_try-one_try-requires t c =
    (omega (arith, c.decreases), body_at c.args.checker.now c.forgotten.new.self c.args.closure.now c.args.kinds.now c.forgotten.ensures.others.patterns c.requires.body)

pub closures::third_try-returns : goal.closures::third_try-returns
closures::third_try-returns t c =
    let b = body_in c.args.closure.now c.args.kinds.now c.args.runs in
    third_stable c.args.form b c.args.checker.now c.forgotten.new.self _ c.in-Stable.run' c.forgotten.ensures.others (c.in_ok-forgotten.ensures.known b None (sym c.requires.roots)) (as_stable c.args.form b _ c.one_try.new.checker c.in_ok-attempt.attempt c.in-Stable.run' c.in-Stable.is c.in_ok-attempt.ensures)

pub closures::third_try-unreachable-requires : goal.closures::third_try-unreachable-requires
closures::third_try-unreachable-requires t c =
    let b = body_in c.args.closure.now c.args.kinds.now c.args.runs in
    third_unstable c.third_tries_are_stable.ensures b c.args.checker.now c.forgotten.new.self _ _ c.requires.body.kinds c.have_root_kinds.ensures (c.in_ok-forgotten.ensures.known b None (sym c.requires.roots)) (as_unstable c.args.form b _ c.one_try.new.checker c.in_ok-attempt.attempt c.in-Unstable._behind c.in-Unstable.is c.in_ok-attempt.ensures)

pub closures::one_try-body-requires : goal.closures::one_try-body-requires
closures::one_try-body-requires t c =
    let same = c.go_on_if.ensures.others.patterns ∙ ap (λ x. x.patterns) c.here.ensures.checker in
    (omega (arith, c.decreases), body_at c.args.checker.now c.go_on_if.new.self c.args.closure.now c.args.kinds.now same c.requires)

pub closures::one_try-end_try-requires : goal.closures::one_try-end_try-requires
closures::one_try-end_try-requires t c =
    let still = c.here.ensures.checker in
    let has = (c.in_ok-part.ensures c.args.runs).2 in
    ap (λ s. s.scopes) c.in_ok-start.ensures.branch ∙ ap (λ x. x.state.scopes) (sym still) ∙ sym c.go_on_if.ensures.others.scopes ∙ sym has.gathered.scopes

pub closures::one_try-returns : goal.closures::one_try-returns
closures::one_try-returns t c =
    let b = body_in c.args.closure.now c.args.kinds.now c.args.runs in
    let still = c.here.ensures.checker in
    let known = c.go_on_if.ensures.known ∙ ap (λ x. if_state c.args.runs x.state.known) still in
    let moved = subst (λ x. IsMoved x c.go_on_if.new.self) still c.go_on_if.ensures.others in
    tried_judged c.args.form b c.args.checker.now c.go_on_if.new.self c.body.new.checker c.end_try.new.checker c.in_ok-start.start c.held-held.result c.in_ok-part.part c.end_try.result c.in_ok-start.ensures.branch known moved c.held-held.ensures (c.in_ok-part.ensures c.args.runs) c.end_try.ensures

pub closures::body-returns-then-is_dead : goal.closures::body-returns-then-is_dead
closures::body-returns-then-is_dead t c =
    IfOk-weaker c.pass_items.result _ _ (λ finding has runs. body_passed (body_in c.args.closure.now c.args.kinds.now runs) _ _ finding (c.is_dead.ensures.0 c.if-is_dead.true) has) c.pass_items.ensures

pub closures::body-enter_body-requires-clause-count : goal.closures::body-enter_body-requires-clause-count
closures::body-enter_body-requires-clause-count t c = c.requires.count

pub closures::body-enter_body-requires-clause-kinds : goal.closures::body-enter_body-requires-clause-kinds
closures::body-enter_body-requires-clause-kinds t c = c.requires.kinds

pub closures::body-block-requires : goal.closures::body-block-requires
closures::body-block-requires t c =
    (omega (arith, c.decreases), items_at c.args.checker.now c.enter_body.new.self (closure_items c.args.closure.now) (ap (λ x. x.patterns) c.in_ok-enter_body.ensures.others) c.requires.items)

pub closures::body-end_body-requires : goal.closures::body-end_body-requires
closures::body-end_body-requires t c =
    in_body (body_in c.args.closure.now c.args.kinds.now true) _ c.enter_body.new.self c.block.new.checker c.in_ok-part.part c.in_ok-enter_body.ensures c.in_ok-part.ensures

pub closures::body-returns : goal.closures::body-returns
closures::body-returns t c runs =
    body_reached (body_in c.args.closure.now c.args.kinds.now runs) c.args.checker.now _ c.enter_body.new.self c.block.new.checker c.end_body.new.self _ c.in_ok-part.part c.in_ok-finding.finding (λ dead. true≢false (sym (c.is_dead.ensures.1 dead) ∙ c.if-is_dead.false)) refl c.in_ok-enter_body.ensures c.in_ok-part.ensures c.in_ok-finding.ensures refl

pub arguments-loop-arg-init : goal.arguments-loop-arg-init
arguments-loop-arg-init t c =
    arguments_first c.args.checker.now (args_of c.args.args.now) (args_view c.as_slice-arg-items.result.now) _ _ c.as_slice-arg-items.ensures c.new-parts.ensures.items c.none-ends.ensures c.requires

pub arguments-expr-requires : goal.arguments-expr-requires
arguments-expr-requires t c =
    let l = c.loop-arg in
    let all = c.as_slice-arg-items.result.now in
    let a = out-Arg c.arg-item.result in
    let is : arg_of c.arg-item.result ≡ (a.name, a.span, expr_of a.value) = search (rules, the_lemmas) in
    let next = next_arg all l.arg-index c.arg-item.result c.loop-arg-test.true c.arg-item.is ∙ ap (λ g. arg g.0 g.1 g.2 (args_view (drop (l.arg-index + 1) all))) is in
    let fewer = argument_fewer _ _ _ _ _ _ _ _ _ _ next l.invariant in
    (omega (arith, c.decreases, fewer), argument_can_next _ _ _ _ _ _ _ _ _ _ next l.invariant)

pub arguments-argument-requires : goal.arguments-argument-requires
arguments-argument-requires t c =
    let l = c.loop-arg in
    let a = out-Arg c.arg-item.result in
    argument_common _ l.checker c.expr.new.checker _ _ (expr_of a.value) _ _ c.in_ok-part.part l.invariant c.in_ok-part.ensures

pub arguments-loop-arg-preserved : goal.arguments-loop-arg-preserved
arguments-loop-arg-preserved t c =
    let l = c.loop-arg in
    let all = c.as_slice-arg-items.result.now in
    let a = out-Arg c.arg-item.result in
    let is : arg_of c.arg-item.result ≡ (a.name, a.span, expr_of a.value) = search (rules, the_lemmas) in
    let next = next_arg all l.arg-index c.arg-item.result c.loop-arg-test.true c.arg-item.is ∙ ap (λ g. arg g.0 g.1 g.2 (args_view (drop (l.arg-index + 1) all))) is in
    arguments_next _ l.checker c.expr.new.checker _ _ (args_view (drop (l.arg-index + 1) all)) a.name a.span (expr_of a.value) _ _ c.in_ok-argument.argument _ _ c.in_ok-part.part next c.in_ok-push.ensures.items l.invariant c.in_ok-part.ensures
    c.in_ok-argument.ensures.argument c.in_ok-argument.ensures.joined (c.in_ok-argument.ensures.scopes _)

pub arguments-returns : goal.arguments-returns
arguments-returns t c =
    let l = c.loop-arg in
    arguments_given _ _ _ _ _ (no_arg_left c.as_slice-arg-items.result.now l.arg-index c.loop-arg-test.false) l.invariant
