use Rattle.std.proofs.Common.{ap, sym, refl, ◌∙◌, arith, rules}
use Rattle.vrl_syntax.specs.Tree.{exprs, no_exprs, pair, no_pairs, arm, no_arms, arg, no_args, no_else, else_block}
use Rattle.vrl_syntax.specs.View.{arg_of, expr_of, exprs_of}
use Rattle.vrl_parse.specs.Descent.{chosen, gone, not_gone, ran, seen, taken, unseen}
use Rattle.vrl_parse.proofs.Loops.{args_onto-all, args_onto-last, args_onto-more, arms_onto-last, arms_onto-more, exprs_onto-all, exprs_onto-last, exprs_onto-more, leads-end, leads-more, pairs_onto-all, pairs_onto-last, pairs_onto-more}
use Rattle.vrl_parse.proofs.Walks.{answered, chain_same, leave, missed, next_level, passed, same_refuses, same_takes, saw, saw_not, suffixed_same}
use Rattle.vrl_parse.proofs.parser.Parser.+parser.Goals as goal

pub abort-returns-then-ends_expression-clause-takes : goal.abort-returns-then-ends_expression-clause-takes
abort-returns-then-ends_expression-clause-takes t c = saw c.ends_expression.ensures c.if-ends_expression.true (answered c.abort.ensures)

pub abort-returns-in_err-message-clause-refuses : goal.abort-returns-in_err-message-clause-refuses
abort-returns-in_err-message-clause-refuses t c = leave c.from_residual.result _ _ _ c.from_residual.ensures c.in_err-message.ensures.refuses (λ h. saw_not c.ends_expression.ensures c.if-ends_expression.false (not_gone h))

pub abort-returns-clause-takes : goal.abort-returns-clause-takes
abort-returns-clause-takes t c = saw_not c.ends_expression.ensures c.if-ends_expression.false (gone c.in_ok-message.ensures.takes (answered c.in_ok-abort_with_message.ensures))

pub arg-returns-in_err-expect-clause-refuses : goal.arg-returns-in_err-expect-clause-refuses
arg-returns-in_err-expect-clause-refuses t c = leave c.from_residual-in_err-expect.result _ _ _ c.from_residual-in_err-expect.ensures c.in_err-expect.ensures.refuses (λ h. saw c.is_name_before.ensures c.if-is_name_before.true (taken c.in_ok-name.ensures.takes (missed h)))

pub arg-returns-in_err-value-clause-refuses : goal.arg-returns-in_err-value-clause-refuses
arg-returns-in_err-value-clause-refuses t c = leave c.from_residual-in_err-value.result _ _ _ c.from_residual-in_err-value.ensures c.in_err-value.ensures.refuses (λ h. saw c.is_name_before.ensures c.if-is_name_before.true (taken c.in_ok-name.ensures.takes (taken c.in_ok-expect.ensures.takes (not_gone h))))

pub arg-returns-then-is_name_before-clause-takes : goal.arg-returns-then-is_name_before-clause-takes
arg-returns-then-is_name_before-clause-takes t c = saw c.is_name_before.ensures c.if-is_name_before.true (taken c.in_ok-name.ensures.takes (taken c.in_ok-expect.ensures.takes (gone c.in_ok-value.ensures.takes (answered c.named.ensures))))

pub arg-returns-in_err-single-clause-refuses : goal.arg-returns-in_err-single-clause-refuses
arg-returns-in_err-single-clause-refuses t c = leave c.from_residual-in_err-single.result _ _ _ c.from_residual-in_err-single.ensures c.in_err-single.ensures.refuses (λ h. saw_not c.is_name_before.ensures c.if-is_name_before.false (not_gone h))

pub arg-returns-clause-takes : goal.arg-returns-clause-takes
arg-returns-clause-takes t c = saw_not c.is_name_before.ensures c.if-is_name_before.false (gone c.in_ok-single.ensures.takes (answered c.unnamed.ensures))

pub args-returns-then-is_next-clause-takes : goal.args-returns-then-is_next-clause-takes
args-returns-then-is_next-clause-takes t c = leads-end no_args c.loop-args.invariant.leads (c.new.ensures ∙ sym (args_onto-all _)) (saw c.is_next.ensures c.if-is_next.true (ran))

pub args-returns-in_err-arg-clause-refuses : goal.args-returns-in_err-arg-clause-refuses
args-returns-in_err-arg-clause-refuses t c = leave c.from_residual.result _ _ _ c.from_residual.ensures c.in_err-arg.ensures.refuses (λ h. c.loop-args.invariant.leads.refuses _ (saw_not c.is_next.ensures c.if-is_next.false (not_gone h)))

pub args-loop-args-preserved : goal.args-loop-args-preserved
args-loop-args-preserved t c = record {
  leads = leads-more (λ x. arg (arg_of c.in_ok-arg.field-0).0 (arg_of c.in_ok-arg.field-0).1 (arg_of c.in_ok-arg.field-0).2 x) _ c.loop-args.invariant.leads (args_onto-more _ _ c.in_ok-push.ensures.items)
      (λ x vs run. saw_not c.is_next.ensures c.if-is_next.false (gone c.in_ok-arg.ensures.takes (taken c.in-Some.ensures.takes (gone run ran))))
      (λ vs run. saw_not c.is_next.ensures c.if-is_next.false (gone c.in_ok-arg.ensures.takes (taken c.in-Some.ensures.takes (not_gone run))));
  shorter = omega (arith, c.in-Some.ensures.shorter, c.in_ok-arg.ensures.shorter, c.in_ok-arg.ensures.shorter, c.loop-args.invariant.shorter);
}

pub args-returns-in_default-clause-takes : goal.args-returns-in_default-clause-takes
args-returns-in_default-clause-takes t c = leads-end (arg (arg_of c.in_ok-arg.field-0).0 (arg_of c.in_ok-arg.field-0).1 (arg_of c.in_ok-arg.field-0).2 no_args) c.loop-args.invariant.leads (args_onto-last _ _ c.in_ok-push.ensures.items c.new-in_default.ensures) (saw_not c.is_next.ensures c.if-is_next.false (gone c.in_ok-arg.ensures.takes (passed c.in_default.ensures.lacks c.in_default.ensures.stays ran)))

pub parts-returns-then-is_next-clause-takes : goal.parts-returns-then-is_next-clause-takes
parts-returns-then-is_next-clause-takes t c = leads-end no_exprs c.loop-parts.invariant.leads (c.new.ensures ∙ sym (exprs_onto-all _)) (saw c.is_next.ensures c.if-is_next.true (ran))

pub parts-returns-in_err-single-clause-refuses : goal.parts-returns-in_err-single-clause-refuses
parts-returns-in_err-single-clause-refuses t c = leave c.from_residual.result _ _ _ c.from_residual.ensures c.in_err-single.ensures.refuses (λ h. c.loop-parts.invariant.leads.refuses _ (saw_not c.is_next.ensures c.if-is_next.false (not_gone h)))

pub parts-loop-parts-preserved : goal.parts-loop-parts-preserved
parts-loop-parts-preserved t c = record {
  leads = leads-more (λ x. exprs (expr_of c.in_ok-single.field-0) x) _ c.loop-parts.invariant.leads (exprs_onto-more _ _ c.in_ok-push.ensures.items)
      (λ x vs run. saw_not c.is_next.ensures c.if-is_next.false (gone c.in_ok-single.ensures.takes (taken c.in-Some.ensures.takes (gone run ran))))
      (λ vs run. saw_not c.is_next.ensures c.if-is_next.false (gone c.in_ok-single.ensures.takes (taken c.in-Some.ensures.takes (not_gone run))));
  shorter = omega (arith, c.in-Some.ensures.shorter, c.in_ok-single.ensures.shorter, c.in_ok-single.ensures.shorter, c.loop-parts.invariant.shorter);
}

pub parts-returns-in_default-clause-takes : goal.parts-returns-in_default-clause-takes
parts-returns-in_default-clause-takes t c = leads-end (exprs (expr_of c.in_ok-single.field-0) no_exprs) c.loop-parts.invariant.leads (exprs_onto-last _ _ c.in_ok-push.ensures.items c.new-in_default.ensures) (saw_not c.is_next.ensures c.if-is_next.false (gone c.in_ok-single.ensures.takes (passed c.in_default.ensures.lacks c.in_default.ensures.stays ran)))

pub pairs-returns-then-is_next-clause-takes : goal.pairs-returns-then-is_next-clause-takes
pairs-returns-then-is_next-clause-takes t c = leads-end no_pairs c.loop-pairs.invariant.leads (c.new.ensures ∙ sym (pairs_onto-all _)) (saw c.is_next.ensures c.if-is_next.true (ran))

pub pairs-returns-in_err-key-clause-refuses : goal.pairs-returns-in_err-key-clause-refuses
pairs-returns-in_err-key-clause-refuses t c = leave c.from_residual.result _ _ _ c.from_residual.ensures c.in_err-key.ensures.refuses (λ h. c.loop-pairs.invariant.leads.refuses _ (saw_not c.is_next.ensures c.if-is_next.false (missed h)))

pub pairs-returns-in_err-expect-clause-refuses : goal.pairs-returns-in_err-expect-clause-refuses
pairs-returns-in_err-expect-clause-refuses t c = leave c.from_residual-in_err-expect.result _ _ _ c.from_residual-in_err-expect.ensures c.in_err-expect.ensures.refuses (λ h. c.loop-pairs.invariant.leads.refuses _ (saw_not c.is_next.ensures c.if-is_next.false (taken c.in_ok-key.ensures.takes (missed h))))

pub pairs-returns-in_err-value-clause-refuses : goal.pairs-returns-in_err-value-clause-refuses
pairs-returns-in_err-value-clause-refuses t c = leave c.from_residual-in_err-value.result _ _ _ c.from_residual-in_err-value.ensures c.in_err-value.ensures.refuses (λ h. c.loop-pairs.invariant.leads.refuses _ (saw_not c.is_next.ensures c.if-is_next.false (taken c.in_ok-key.ensures.takes (taken c.in_ok-expect.ensures.takes (not_gone h)))))

pub pairs-loop-pairs-preserved : goal.pairs-loop-pairs-preserved
pairs-loop-pairs-preserved t c = record {
  leads = leads-more (λ x. pair c.in_ok-key.key (expr_of c.in_ok-value.value) x) _ c.loop-pairs.invariant.leads (pairs_onto-more _ _ c.in_ok-push.ensures.items)
      (λ x vs run. saw_not c.is_next.ensures c.if-is_next.false (taken c.in_ok-key.ensures.takes (taken c.in_ok-expect.ensures.takes (gone c.in_ok-value.ensures.takes (taken c.in-Some.ensures.takes (gone run ran))))))
      (λ vs run. saw_not c.is_next.ensures c.if-is_next.false (taken c.in_ok-key.ensures.takes (taken c.in_ok-expect.ensures.takes (gone c.in_ok-value.ensures.takes (taken c.in-Some.ensures.takes (not_gone run))))));
  shorter = omega (arith, c.in-Some.ensures.shorter, c.in_ok-key.ensures.shorter, c.in_ok-value.ensures.shorter, c.in_ok-expect.ensures.shorter, c.loop-pairs.invariant.shorter);
}

pub pairs-returns-in_default-clause-takes : goal.pairs-returns-in_default-clause-takes
pairs-returns-in_default-clause-takes t c = leads-end (pair c.in_ok-key.key (expr_of c.in_ok-value.value) no_pairs) c.loop-pairs.invariant.leads (pairs_onto-last _ _ c.in_ok-push.ensures.items c.new-in_default.ensures) (saw_not c.is_next.ensures c.if-is_next.false (taken c.in_ok-key.ensures.takes (taken c.in_ok-expect.ensures.takes (gone c.in_ok-value.ensures.takes (passed c.in_default.ensures.lacks c.in_default.ensures.stays ran)))))

pub arms-returns-in_err-predicate-clause-refuses : goal.arms-returns-in_err-predicate-clause-refuses
arms-returns-in_err-predicate-clause-refuses t c = leave c.from_residual.result _ _ _ c.from_residual.ensures c.in_err-predicate.ensures.refuses (λ h. c.loop-arms.invariant.leads.refuses _ (not_gone h))

pub arms-returns-in_err-body-clause-refuses : goal.arms-returns-in_err-body-clause-refuses
arms-returns-in_err-body-clause-refuses t c = leave c.from_residual-in_err-body.result _ _ _ c.from_residual-in_err-body.ensures c.in_err-body.ensures.refuses (λ h. c.loop-arms.invariant.leads.refuses _ (gone c.in_ok-predicate.ensures.takes (not_gone h)))

pub arms-returns-in_default-clause-takes : goal.arms-returns-in_default-clause-takes
arms-returns-in_default-clause-takes t c = leads-end (arm (expr_of c.in_ok-predicate.predicate) (exprs_of c.in_ok-body.body) no_arms, no_else, c.in_ok-body.end) c.loop-arms.invariant.leads (ap (λ a. (a, no_else, c.in_ok-body.end)) (arms_onto-last _ _ c.in_ok-push.ensures.items c.arm.ensures c.new.ensures)) (gone c.in_ok-predicate.ensures.takes (gone c.in_ok-body.ensures.takes (passed c.in_default.ensures.lacks c.in_default.ensures.stays ran)))

pub arms-loop-arms-preserved : goal.arms-loop-arms-preserved
arms-loop-arms-preserved t c = record {
  leads = leads-more (λ a. (arm (expr_of c.in_ok-predicate.predicate) (exprs_of c.in_ok-body.body) a.0, a.1, a.2)) _ c.loop-arms.invariant.leads (λ a. ap (λ as_. (as_, a.1, a.2)) (arms_onto-more _ _ c.in_ok-push.ensures.items c.arm.ensures a.0))
      (λ x vs run. gone c.in_ok-predicate.ensures.takes (gone c.in_ok-body.ensures.takes (taken c.in-Some.ensures.takes (taken c.in-Some-take.ensures.takes (gone run ran)))))
      (λ vs run. gone c.in_ok-predicate.ensures.takes (gone c.in_ok-body.ensures.takes (taken c.in-Some.ensures.takes (taken c.in-Some-take.ensures.takes (not_gone run)))));
  shorter = omega (arith, c.in-Some-take.ensures.shorter, c.in-Some.ensures.shorter, c.in_ok-predicate.ensures.shorter, c.in_ok-body.ensures.shorter, c.loop-arms.invariant.shorter);
}

pub arms-returns-in_err-otherwise-clause-refuses : goal.arms-returns-in_err-otherwise-clause-refuses
arms-returns-in_err-otherwise-clause-refuses t c = leave c.from_residual-in_err-otherwise.result _ _ _ c.from_residual-in_err-otherwise.ensures c.in_err-otherwise.ensures.refuses (λ h. c.loop-arms.invariant.leads.refuses _ (gone c.in_ok-predicate.ensures.takes (gone c.in_ok-body.ensures.takes (taken c.in-Some.ensures.takes (passed c.in_default-take.ensures.lacks c.in_default-take.ensures.stays (not_gone h))))))

pub arms-returns-in_default-take-clause-takes : goal.arms-returns-in_default-take-clause-takes
arms-returns-in_default-take-clause-takes t c = leads-end (arm (expr_of c.in_ok-predicate.predicate) (exprs_of c.in_ok-body.body) no_arms, else_block (exprs_of c.in_ok-otherwise.otherwise), c.in_ok-otherwise.end) c.loop-arms.invariant.leads (ap (λ a. (a, else_block (exprs_of c.in_ok-otherwise.otherwise), c.in_ok-otherwise.end)) (arms_onto-last _ _ c.in_ok-push.ensures.items c.arm.ensures c.new-in_default-take.ensures)) (gone c.in_ok-predicate.ensures.takes (gone c.in_ok-body.ensures.takes (taken c.in-Some.ensures.takes (passed c.in_default-take.ensures.lacks c.in_default-take.ensures.stays (gone c.in_ok-otherwise.ensures.takes (ran))))))

pub array-returns-in_err-start-clause-refuses : goal.array-returns-in_err-start-clause-refuses
array-returns-in_err-start-clause-refuses t c = leave c.from_residual.result _ _ _ c.from_residual.ensures c.in_err-start.ensures.refuses missed

pub array-returns-in_err-parts-clause-refuses : goal.array-returns-in_err-parts-clause-refuses
array-returns-in_err-parts-clause-refuses t c = leave c.from_residual-in_err-parts.result _ _ _ c.from_residual-in_err-parts.ensures c.in_err-parts.ensures.refuses (λ h. taken c.in_ok-start.ensures.takes (not_gone h))

pub array-returns-in_err-end-clause-refuses : goal.array-returns-in_err-end-clause-refuses
array-returns-in_err-end-clause-refuses t c = leave c.from_residual-in_err-end.result _ _ _ c.from_residual-in_err-end.ensures c.in_err-end.ensures.refuses (λ h. taken c.in_ok-start.ensures.takes (gone c.in_ok-parts.ensures.takes (missed h)))

pub array-returns-clause-takes : goal.array-returns-clause-takes
array-returns-clause-takes t c = taken c.in_ok-start.ensures.takes (gone c.in_ok-parts.ensures.takes (taken c.in_ok-end.ensures.takes (suffixed_same c.array.ensures c.in_ok-with_suffix.ensures.takes)))

pub group-returns-in_err-start-clause-refuses : goal.group-returns-in_err-start-clause-refuses
group-returns-in_err-start-clause-refuses t c = leave c.from_residual.result _ _ _ c.from_residual.ensures c.in_err-start.ensures.refuses missed

pub group-returns-in_err-inner-clause-refuses : goal.group-returns-in_err-inner-clause-refuses
group-returns-in_err-inner-clause-refuses t c = leave c.from_residual-in_err-inner.result _ _ _ c.from_residual-in_err-inner.ensures c.in_err-inner.ensures.refuses (λ h. taken c.in_ok-start.ensures.takes (not_gone h))

pub group-returns-in_err-end-clause-refuses : goal.group-returns-in_err-end-clause-refuses
group-returns-in_err-end-clause-refuses t c = leave c.from_residual-in_err-end.result _ _ _ c.from_residual-in_err-end.ensures c.in_err-end.ensures.refuses (λ h. taken c.in_ok-start.ensures.takes (gone c.in_ok-inner.ensures.takes (missed h)))

pub group-returns-clause-takes : goal.group-returns-clause-takes
group-returns-clause-takes t c = taken c.in_ok-start.ensures.takes (gone c.in_ok-inner.ensures.takes (taken c.in_ok-end.ensures.takes (suffixed_same c.in_ok-group.ensures c.in_ok-with_suffix.ensures.takes)))

pub object-returns-in_err-start-clause-refuses : goal.object-returns-in_err-start-clause-refuses
object-returns-in_err-start-clause-refuses t c = leave c.from_residual.result _ _ _ c.from_residual.ensures c.in_err-start.ensures.refuses missed

pub object-returns-in_err-pairs-clause-refuses : goal.object-returns-in_err-pairs-clause-refuses
object-returns-in_err-pairs-clause-refuses t c = leave c.from_residual-in_err-pairs.result _ _ _ c.from_residual-in_err-pairs.ensures c.in_err-pairs.ensures.refuses (λ h. taken c.in_ok-start.ensures.takes (not_gone h))

pub object-returns-in_err-end-clause-refuses : goal.object-returns-in_err-end-clause-refuses
object-returns-in_err-end-clause-refuses t c = leave c.from_residual-in_err-end.result _ _ _ c.from_residual-in_err-end.ensures c.in_err-end.ensures.refuses (λ h. taken c.in_ok-start.ensures.takes (gone c.in_ok-pairs.ensures.takes (missed h)))

pub object-returns-clause-takes : goal.object-returns-clause-takes
object-returns-clause-takes t c = taken c.in_ok-start.ensures.takes (gone c.in_ok-pairs.ensures.takes (taken c.in_ok-end.ensures.takes (answered c.object.ensures)))

pub negation-returns-in_err-start-clause-refuses : goal.negation-returns-in_err-start-clause-refuses
negation-returns-in_err-start-clause-refuses t c = leave c.from_residual.result _ _ _ c.from_residual.ensures c.in_err-start.ensures.refuses missed

pub negation-returns-in_err-inner-clause-refuses : goal.negation-returns-in_err-inner-clause-refuses
negation-returns-in_err-inner-clause-refuses t c = leave c.from_residual-in_err-inner.result _ _ _ c.from_residual-in_err-inner.ensures c.in_err-inner.ensures.refuses (λ h. taken c.in_ok-start.ensures.takes (not_gone h))

pub negation-returns-clause-takes : goal.negation-returns-clause-takes
negation-returns-clause-takes t c = taken c.in_ok-start.ensures.takes (gone c.in_ok-inner.ensures.takes (answered c.in_ok-negation.ensures))

pub assignment-returns-in_err-target-clause-refuses : goal.assignment-returns-in_err-target-clause-refuses
assignment-returns-in_err-target-clause-refuses t c = leave c.from_residual.result _ _ _ c.from_residual.ensures c.in_err-target.ensures.refuses missed

pub assignment-returns-in_err-expect-clause-refuses : goal.assignment-returns-in_err-expect-clause-refuses
assignment-returns-in_err-expect-clause-refuses t c = leave c.from_residual-in_err-expect.result _ _ _ c.from_residual-in_err-expect.ensures c.in_err-expect.ensures.refuses (λ h. taken c.in_ok-target.ensures.takes (missed h))

pub assignment-returns-in_err-value-clause-refuses : goal.assignment-returns-in_err-value-clause-refuses
assignment-returns-in_err-value-clause-refuses t c = leave c.from_residual-in_err-value.result _ _ _ c.from_residual-in_err-value.ensures c.in_err-value.ensures.refuses (λ h. taken c.in_ok-target.ensures.takes (taken c.in_ok-expect.ensures.takes (not_gone h)))

pub assignment-returns-clause-takes : goal.assignment-returns-clause-takes
assignment-returns-clause-takes t c = taken c.in_ok-target.ensures.takes (taken c.in_ok-expect.ensures.takes (gone c.in_ok-value.ensures.takes (answered c.in_ok-assignment.ensures)))

pub merge-returns-in_err-target-clause-refuses : goal.merge-returns-in_err-target-clause-refuses
merge-returns-in_err-target-clause-refuses t c = leave c.from_residual.result _ _ _ c.from_residual.ensures c.in_err-target.ensures.refuses missed

pub merge-returns-in_err-expect-clause-refuses : goal.merge-returns-in_err-expect-clause-refuses
merge-returns-in_err-expect-clause-refuses t c = leave c.from_residual-in_err-expect.result _ _ _ c.from_residual-in_err-expect.ensures c.in_err-expect.ensures.refuses (λ h. taken c.in_ok-target.ensures.takes (missed h))

pub merge-returns-in_err-value-clause-refuses : goal.merge-returns-in_err-value-clause-refuses
merge-returns-in_err-value-clause-refuses t c = leave c.from_residual-in_err-value.result _ _ _ c.from_residual-in_err-value.ensures c.in_err-value.ensures.refuses (λ h. taken c.in_ok-target.ensures.takes (taken c.in_ok-expect.ensures.takes (not_gone h)))

pub merge-returns-clause-takes : goal.merge-returns-clause-takes
merge-returns-clause-takes t c = taken c.in_ok-target.ensures.takes (taken c.in_ok-expect.ensures.takes (gone c.in_ok-value.ensures.takes (answered c.in_ok-merge.ensures)))

pub block-returns-in_err-start-clause-refuses : goal.block-returns-in_err-start-clause-refuses
block-returns-in_err-start-clause-refuses t c = leave c.from_residual.result _ _ _ c.from_residual.ensures c.in_err-start.ensures.refuses missed

pub block-returns-in_err-body-clause-refuses : goal.block-returns-in_err-body-clause-refuses
block-returns-in_err-body-clause-refuses t c = leave c.from_residual-in_err-body.result _ _ _ c.from_residual-in_err-body.ensures c.in_err-body.ensures.refuses (λ h. taken c.in_ok-start.ensures.takes (not_gone h))

pub block-returns-in_err-end-clause-refuses : goal.block-returns-in_err-end-clause-refuses
block-returns-in_err-end-clause-refuses t c = leave c.from_residual-in_err-end.result _ _ _ c.from_residual-in_err-end.ensures c.in_err-end.ensures.refuses (λ h. taken c.in_ok-start.ensures.takes (gone c.in_ok-body.ensures.takes (missed h)))

pub block-returns-clause-takes : goal.block-returns-clause-takes
block-returns-clause-takes t c = taken c.in_ok-start.ensures.takes (gone c.in_ok-body.ensures.takes (taken c.in_ok-end.ensures.takes (answered (ap (λ s. (exprs_of c.in_ok-body.body, s)) c.over.ensures))))

pub braced-returns-in_err-body-clause-refuses : goal.braced-returns-in_err-body-clause-refuses
braced-returns-in_err-body-clause-refuses t c = leave c.from_residual.result _ _ _ c.from_residual.ensures c.in_err-body.ensures.refuses not_gone

pub braced-returns-clause-takes : goal.braced-returns-clause-takes
braced-returns-clause-takes t c = gone c.in_ok-body.ensures.takes (answered c.block-2.ensures)

pub closure-returns-in_err-expect-clause-refuses : goal.closure-returns-in_err-expect-clause-refuses
closure-returns-in_err-expect-clause-refuses t c = leave c.from_residual.result _ _ _ c.from_residual.ensures c.in_err-expect.ensures.refuses missed

pub closure-returns-in_err-expect-2-clause-refuses : goal.closure-returns-in_err-expect-2-clause-refuses
closure-returns-in_err-expect-2-clause-refuses t c = leave c.from_residual-in_err-expect-2.result _ _ _ c.from_residual-in_err-expect-2.ensures c.in_err-expect-2.ensures.refuses (λ h. taken c.in_ok-expect.ensures.takes (missed h))

pub closure-returns-in_err-names-clause-refuses : goal.closure-returns-in_err-names-clause-refuses
closure-returns-in_err-names-clause-refuses t c = leave c.from_residual-in_err-names.result _ _ _ c.from_residual-in_err-names.ensures c.in_err-names.ensures.refuses (λ h. taken c.in_ok-expect.ensures.takes (taken c.in_ok-expect-2.ensures.takes (not_gone h)))

pub closure-returns-in_err-expect-3-clause-refuses : goal.closure-returns-in_err-expect-3-clause-refuses
closure-returns-in_err-expect-3-clause-refuses t c = leave c.from_residual-in_err-expect-3.result _ _ _ c.from_residual-in_err-expect-3.ensures c.in_err-expect-3.ensures.refuses (λ h. taken c.in_ok-expect.ensures.takes (taken c.in_ok-expect-2.ensures.takes (gone c.in_ok-names.ensures.takes (missed h))))

pub closure-returns-in_err-body-clause-refuses : goal.closure-returns-in_err-body-clause-refuses
closure-returns-in_err-body-clause-refuses t c = leave c.from_residual-in_err-body.result _ _ _ c.from_residual-in_err-body.ensures c.in_err-body.ensures.refuses (λ h. taken c.in_ok-expect.ensures.takes (taken c.in_ok-expect-2.ensures.takes (gone c.in_ok-names.ensures.takes (taken c.in_ok-expect-3.ensures.takes (not_gone h)))))

pub closure-returns-clause-takes : goal.closure-returns-clause-takes
closure-returns-clause-takes t c = taken c.in_ok-expect.ensures.takes (taken c.in_ok-expect-2.ensures.takes (gone c.in_ok-names.ensures.takes (taken c.in_ok-expect-3.ensures.takes (gone c.in_ok-body.ensures.takes (ran)))))

pub conditional-returns-in_err-start-clause-refuses : goal.conditional-returns-in_err-start-clause-refuses
conditional-returns-in_err-start-clause-refuses t c = leave c.from_residual.result _ _ _ c.from_residual.ensures c.in_err-start.ensures.refuses missed

pub conditional-returns-in_err-arms-clause-refuses : goal.conditional-returns-in_err-arms-clause-refuses
conditional-returns-in_err-arms-clause-refuses t c = leave c.from_residual-in_err-arms.result _ _ _ c.from_residual-in_err-arms.ensures c.in_err-arms.ensures.refuses (λ h. taken c.in_ok-start.ensures.takes (not_gone h))

pub conditional-returns-clause-takes : goal.conditional-returns-clause-takes
conditional-returns-clause-takes t c = taken c.in_ok-start.ensures.takes (gone c.in_ok-arms.ensures.takes (answered c.conditional.ensures))

pub call-returns-in_err-function-clause-refuses : goal.call-returns-in_err-function-clause-refuses
call-returns-in_err-function-clause-refuses t c = leave c.from_residual.result _ _ _ c.from_residual.ensures c.in_err-function.ensures.refuses missed

pub call-returns-in_err-expect-clause-refuses : goal.call-returns-in_err-expect-clause-refuses
call-returns-in_err-expect-clause-refuses t c = leave c.from_residual-in_err-expect.result _ _ _ c.from_residual-in_err-expect.ensures c.in_err-expect.ensures.refuses (λ h. taken c.in_ok-function.ensures.takes (missed h))

pub call-returns-in_err-args-clause-refuses : goal.call-returns-in_err-args-clause-refuses
call-returns-in_err-args-clause-refuses t c = leave c.from_residual-in_err-args.result _ _ _ c.from_residual-in_err-args.ensures c.in_err-args.ensures.refuses (λ h. taken c.in_ok-function.ensures.takes (taken c.in_ok-expect.ensures.takes (not_gone h)))

pub call-returns-in_err-end-clause-refuses : goal.call-returns-in_err-end-clause-refuses
call-returns-in_err-end-clause-refuses t c = leave c.from_residual-in_err-end.result _ _ _ c.from_residual-in_err-end.ensures c.in_err-end.ensures.refuses (λ h. taken c.in_ok-function.ensures.takes (taken c.in_ok-expect.ensures.takes (gone c.in_ok-args.ensures.takes (missed h))))

pub call-returns-clause-takes : goal.call-returns-clause-takes
call-returns-clause-takes t c = same_takes c.behind_call.result _ _ (λ x h. taken c.in_ok-function.ensures.takes (taken c.in_ok-expect.ensures.takes (gone c.in_ok-args.ensures.takes (taken c.in_ok-end.ensures.takes (h))))) c.behind_call.ensures.takes

pub call-returns-clause-refuses : goal.call-returns-clause-refuses
call-returns-clause-refuses t c = same_refuses c.behind_call.result _ _ (λ h. taken c.in_ok-function.ensures.takes (taken c.in_ok-expect.ensures.takes (gone c.in_ok-args.ensures.takes (taken c.in_ok-end.ensures.takes (h))))) c.behind_call.ensures.refuses

pub behind_call-returns-in_err-closure-clause-refuses : goal.behind_call-returns-in_err-closure-clause-refuses
behind_call-returns-in_err-closure-clause-refuses t c = leave c.from_residual.result _ _ _ c.from_residual.ensures c.in_err-closure.ensures.refuses (λ h. saw c.is_next.ensures c.if-is_next.true (not_gone h))

pub behind_call-returns-then-is_next-clause-takes : goal.behind_call-returns-then-is_next-clause-takes
behind_call-returns-then-is_next-clause-takes t c = saw c.is_next.ensures c.if-is_next.true (gone c.in_ok-closure.ensures.takes (answered c.in_ok-call_with_closure.ensures))

pub behind_call-returns-clause-takes : goal.behind_call-returns-clause-takes
behind_call-returns-clause-takes t c = saw_not c.is_next.ensures c.if-is_next.false (suffixed_same c.in_ok-call.ensures c.in_ok-with_suffix.ensures.takes)

pub operand-returns-in-Negation-clause-takes : goal.operand-returns-in-Negation-clause-takes
operand-returns-in-Negation-clause-takes t c = same_takes c.negation.result _ _ (λ x h. chosen c.in-Negation.ensures (h)) c.negation.ensures.takes

pub operand-returns-in-Negation-clause-refuses : goal.operand-returns-in-Negation-clause-refuses
operand-returns-in-Negation-clause-refuses t c = same_refuses c.negation.result _ _ (λ h. chosen c.in-Negation.ensures h) c.negation.ensures.refuses

pub operand-returns-in-Call-clause-takes : goal.operand-returns-in-Call-clause-takes
operand-returns-in-Call-clause-takes t c = same_takes c.call.result _ _ (λ x h. chosen c.in-Call.ensures (h)) c.call.ensures.takes

pub operand-returns-in-Call-clause-refuses : goal.operand-returns-in-Call-clause-refuses
operand-returns-in-Call-clause-refuses t c = same_refuses c.call.result _ _ (λ h. chosen c.in-Call.ensures h) c.call.ensures.refuses

pub operand-returns-in-Array-clause-takes : goal.operand-returns-in-Array-clause-takes
operand-returns-in-Array-clause-takes t c = same_takes c.array.result _ _ (λ x h. chosen c.in-Array.ensures (h)) c.array.ensures.takes

pub operand-returns-in-Array-clause-refuses : goal.operand-returns-in-Array-clause-refuses
operand-returns-in-Array-clause-refuses t c = same_refuses c.array.result _ _ (λ h. chosen c.in-Array.ensures h) c.array.ensures.refuses

pub operand-returns-in-Group-clause-takes : goal.operand-returns-in-Group-clause-takes
operand-returns-in-Group-clause-takes t c = same_takes c.group.result _ _ (λ x h. chosen c.in-Group.ensures (h)) c.group.ensures.takes

pub operand-returns-in-Group-clause-refuses : goal.operand-returns-in-Group-clause-refuses
operand-returns-in-Group-clause-refuses t c = same_refuses c.group.result _ _ (λ h. chosen c.in-Group.ensures h) c.group.ensures.refuses

pub operand-returns-in-Object-clause-takes : goal.operand-returns-in-Object-clause-takes
operand-returns-in-Object-clause-takes t c = same_takes c.object.result _ _ (λ x h. chosen c.in-Object.ensures (h)) c.object.ensures.takes

pub operand-returns-in-Object-clause-refuses : goal.operand-returns-in-Object-clause-refuses
operand-returns-in-Object-clause-refuses t c = same_refuses c.object.result _ _ (λ h. chosen c.in-Object.ensures h) c.object.ensures.refuses

pub operand-returns-in-Block-clause-takes : goal.operand-returns-in-Block-clause-takes
operand-returns-in-Block-clause-takes t c = same_takes c.braced.result _ _ (λ x h. chosen c.in-Block.ensures (h)) c.braced.ensures.takes

pub operand-returns-in-Block-clause-refuses : goal.operand-returns-in-Block-clause-refuses
operand-returns-in-Block-clause-refuses t c = same_refuses c.braced.result _ _ (λ h. chosen c.in-Block.ensures h) c.braced.ensures.refuses

pub operand-returns-in-Conditional-clause-takes : goal.operand-returns-in-Conditional-clause-takes
operand-returns-in-Conditional-clause-takes t c = same_takes c.conditional.result _ _ (λ x h. chosen c.in-Conditional.ensures (h)) c.conditional.ensures.takes

pub operand-returns-in-Conditional-clause-refuses : goal.operand-returns-in-Conditional-clause-refuses
operand-returns-in-Conditional-clause-refuses t c = same_refuses c.conditional.result _ _ (λ h. chosen c.in-Conditional.ensures h) c.conditional.ensures.refuses

pub operand-returns-in-Path-clause-takes : goal.operand-returns-in-Path-clause-takes
operand-returns-in-Path-clause-takes t c = same_takes c.read.result _ _ (λ x h. chosen c.in-Path.ensures (h)) c.read.ensures.takes

pub operand-returns-in-Path-clause-refuses : goal.operand-returns-in-Path-clause-refuses
operand-returns-in-Path-clause-refuses t c = same_refuses c.read.result _ _ (λ h. chosen c.in-Path.ensures h) c.read.ensures.refuses

pub operand-returns-in-Template-clause-takes : goal.operand-returns-in-Template-clause-takes
operand-returns-in-Template-clause-takes t c = same_takes c.summed.result _ _ (λ x h. chosen c.in-Template.ensures (h)) c.summed.ensures.takes

pub operand-returns-in-Template-clause-refuses : goal.operand-returns-in-Template-clause-refuses
operand-returns-in-Template-clause-refuses t c = same_refuses c.summed.result _ _ (λ h. chosen c.in-Template.ensures h) c.summed.ensures.refuses

pub operand-returns-in-Literal-clause-takes : goal.operand-returns-in-Literal-clause-takes
operand-returns-in-Literal-clause-takes t c = same_takes c.constant.result _ _ (λ x h. chosen c.in-Literal.ensures (h)) c.constant.ensures.takes

pub operand-returns-in-Literal-clause-refuses : goal.operand-returns-in-Literal-clause-refuses
operand-returns-in-Literal-clause-refuses t c = same_refuses c.constant.result _ _ (λ h. chosen c.in-Literal.ensures h) c.constant.ensures.refuses

pub item-returns-then-not-is_path_before-clause-takes : goal.item-returns-then-not-is_path_before-clause-takes
item-returns-then-not-is_path_before-clause-takes t c = same_takes c.single.result _ _ (λ x h. saw_not c.is_path_before.ensures (search rules) (gone h ran)) c.single.ensures.takes

pub item-returns-then-not-is_path_before-clause-refuses : goal.item-returns-then-not-is_path_before-clause-refuses
item-returns-then-not-is_path_before-clause-refuses t c = same_refuses c.single.result _ _ (λ h. saw_not c.is_path_before.ensures (search rules) (not_gone h)) c.single.ensures.refuses

pub item-returns-in_err-target-clause-refuses : goal.item-returns-in_err-target-clause-refuses
item-returns-in_err-target-clause-refuses t c = leave c.from_residual.result _ _ _ c.from_residual.ensures c.in_err-target.ensures.refuses (λ h. saw c.is_path_before.ensures (search rules) (missed h))

pub item-returns-in_err-expect-clause-refuses : goal.item-returns-in_err-expect-clause-refuses
item-returns-in_err-expect-clause-refuses t c = leave c.from_residual-in_err-expect.result _ _ _ c.from_residual-in_err-expect.ensures c.in_err-expect.ensures.refuses (λ h. saw c.is_path_before.ensures (search rules) (taken c.in_ok-target.ensures.takes (missed h)))

pub item-returns-in_err-error-clause-refuses : goal.item-returns-in_err-error-clause-refuses
item-returns-in_err-error-clause-refuses t c = leave c.from_residual-in_err-error.result _ _ _ c.from_residual-in_err-error.ensures c.in_err-error.ensures.refuses (λ h. saw c.is_path_before.ensures (search rules) (taken c.in_ok-target.ensures.takes (taken c.in_ok-expect.ensures.takes (missed h))))

pub item-returns-in_err-expect-2-clause-refuses : goal.item-returns-in_err-expect-2-clause-refuses
item-returns-in_err-expect-2-clause-refuses t c = leave c.from_residual-in_err-expect-2.result _ _ _ c.from_residual-in_err-expect-2.ensures c.in_err-expect-2.ensures.refuses (λ h. saw c.is_path_before.ensures (search rules) (taken c.in_ok-target.ensures.takes (taken c.in_ok-expect.ensures.takes (taken c.in_ok-error.ensures.takes (missed h)))))

pub item-returns-in_err-value-clause-refuses : goal.item-returns-in_err-value-clause-refuses
item-returns-in_err-value-clause-refuses t c = leave c.from_residual-in_err-value.result _ _ _ c.from_residual-in_err-value.ensures c.in_err-value.ensures.refuses (λ h. saw c.is_path_before.ensures (search rules) (taken c.in_ok-target.ensures.takes (taken c.in_ok-expect.ensures.takes (taken c.in_ok-error.ensures.takes (taken c.in_ok-expect-2.ensures.takes (not_gone h))))))

pub item-returns-clause-takes : goal.item-returns-clause-takes
item-returns-clause-takes t c = saw c.is_path_before.ensures (search rules) (taken c.in_ok-target.ensures.takes (taken c.in_ok-expect.ensures.takes (taken c.in_ok-error.ensures.takes (taken c.in_ok-expect-2.ensures.takes (gone c.in_ok-value.ensures.takes (answered c.in_ok-both.ensures))))))

pub level-returns-then-level-eq-LEVELS-clause-takes : goal.level-returns-then-level-eq-LEVELS-clause-takes
level-returns-then-level-eq-LEVELS-clause-takes t c = same_takes c.operand.result _ _ (λ x h. seen c.if-level-eq-LEVELS.true (gone h ran)) c.operand.ensures.takes

pub level-returns-then-level-eq-LEVELS-clause-refuses : goal.level-returns-then-level-eq-LEVELS-clause-refuses
level-returns-then-level-eq-LEVELS-clause-refuses t c = same_refuses c.operand.result _ _ (λ h. seen c.if-level-eq-LEVELS.true (not_gone h)) c.operand.ensures.refuses

pub level-returns-in_err-left-clause-refuses : goal.level-returns-in_err-left-clause-refuses
level-returns-in_err-left-clause-refuses t c = leave c.from_residual.result _ _ _ c.from_residual.ensures c.in_err-left.ensures.refuses (λ h. unseen c.if-level-eq-LEVELS.false (not_gone (next_level h)))

pub level-loop-op-init : goal.level-loop-op-init
level-loop-op-init t c = record {
  leads = record { takes = λ x vs run. unseen c.if-level-eq-LEVELS.false (gone (next_level c.in_ok-left.ensures.takes) (gone run ran)); refuses = λ vs run. unseen c.if-level-eq-LEVELS.false (gone (next_level c.in_ok-left.ensures.takes) (not_gone run)) };
  shorter = c.in_ok-left.ensures.shorter;
}

pub level-returns-in_err-right-clause-refuses : goal.level-returns-in_err-right-clause-refuses
level-returns-in_err-right-clause-refuses t c = leave c.from_residual-in_err-right.result _ _ _ c.from_residual-in_err-right.ensures c.in_err-right.ensures.refuses (λ h. c.loop-op.invariant.leads.refuses _ (taken c.in-Some.ensures.takes (not_gone (next_level h))))

pub level-loop-op-preserved : goal.level-loop-op-preserved
level-loop-op-preserved t c = record {
  leads = leads-more (λ x. x) (λ x. x) c.loop-op.invariant.leads (λ x. refl)
      (λ x vs run. taken c.in-Some.ensures.takes (gone (next_level c.in_ok-right.ensures.takes) (gone (chain_same c.in_ok-left-2.ensures run) ran)))
      (λ vs run. taken c.in-Some.ensures.takes (gone (next_level c.in_ok-right.ensures.takes) (not_gone (chain_same c.in_ok-left-2.ensures run))));
  shorter = omega (arith, c.in-Some.ensures.shorter, c.in_ok-right.ensures.shorter, c.loop-op.invariant.shorter);
}

pub level-returns-clause-takes : goal.level-returns-clause-takes
level-returns-clause-takes t c = c.loop-op.invariant.leads.takes _ _ (passed c.in_default.ensures.lacks c.in_default.ensures.stays ran)

pub script-loop-self-preserved-in-Some : goal.script-loop-self-preserved-in-Some
script-loop-self-preserved-in-Some t c = record {
  leads = leads-more (λ x. x) _ c.loop-self.invariant.leads (λ x. refl) (λ x vs run. taken c.in-Some.ensures.takes (gone run ran)) (λ vs run. taken c.in-Some.ensures.takes (not_gone run));
  shorter = omega arith;
}

pub script-returns-then-is_done-clause-takes : goal.script-returns-then-is_done-clause-takes
script-returns-then-is_done-clause-takes t c = leads-end no_exprs c.loop-self.invariant.leads (c.new.ensures ∙ sym (exprs_onto-all _)) (passed c.in_default.ensures.lacks c.in_default.ensures.stays (saw c.is_done.ensures c.if-is_done.true (ran)))

pub script-returns-then-is_next-clause-takes : goal.script-returns-then-is_next-clause-takes
script-returns-then-is_next-clause-takes t c = leads-end no_exprs c.loop-self.invariant.leads (c.new-then-is_next.ensures ∙ sym (exprs_onto-all _)) (passed c.in_default.ensures.lacks c.in_default.ensures.stays (saw_not c.is_done.ensures c.if-is_done.false (saw c.is_next.ensures c.if-is_next.true (ran))))

pub script-returns-in_err-item-clause-refuses : goal.script-returns-in_err-item-clause-refuses
script-returns-in_err-item-clause-refuses t c = leave c.from_residual.result _ _ _ c.from_residual.ensures c.in_err-item.ensures.refuses (λ h. c.loop-self.invariant.leads.refuses _ (passed c.in_default.ensures.lacks c.in_default.ensures.stays (saw_not c.is_done.ensures c.if-is_done.false (saw_not c.is_next.ensures c.if-is_next.false (not_gone h)))))

pub script-loop-self-preserved : goal.script-loop-self-preserved
script-loop-self-preserved t c = record {
  leads = leads-more (λ x. exprs (expr_of c.in_ok-item.field-0) x) _ c.loop-self.invariant.leads (exprs_onto-more _ _ c.in_ok-push.ensures.items)
      (λ x vs run. passed c.in_default.ensures.lacks c.in_default.ensures.stays (saw_not c.is_done.ensures c.if-is_done.false (saw_not c.is_next.ensures c.if-is_next.false (gone c.in_ok-item.ensures.takes (taken c.in-Some-take.ensures.takes (gone run ran))))))
      (λ vs run. passed c.in_default.ensures.lacks c.in_default.ensures.stays (saw_not c.is_done.ensures c.if-is_done.false (saw_not c.is_next.ensures c.if-is_next.false (gone c.in_ok-item.ensures.takes (taken c.in-Some-take.ensures.takes (not_gone run))))));
  shorter = omega (arith, c.in_default.ensures.no_longer, c.take.ensures.no_longer, c.in-Some-take.ensures.shorter, c.in_ok-item.ensures.shorter, c.loop-self.invariant.shorter);
}

pub script-returns-in_default-take-clause-takes : goal.script-returns-in_default-take-clause-takes
script-returns-in_default-take-clause-takes t c = leads-end (exprs (expr_of c.in_ok-item.field-0) no_exprs) c.loop-self.invariant.leads (exprs_onto-last _ _ c.in_ok-push.ensures.items c.new-in_default-take.ensures) (passed c.in_default.ensures.lacks c.in_default.ensures.stays (saw_not c.is_done.ensures c.if-is_done.false (saw_not c.is_next.ensures c.if-is_next.false (gone c.in_ok-item.ensures.takes (passed c.in_default-take.ensures.lacks c.in_default-take.ensures.stays (ran))))))

pub single-returns-then-is_path_before-clause-takes : goal.single-returns-then-is_path_before-clause-takes
single-returns-then-is_path_before-clause-takes t c = same_takes c.assignment.result _ _ (λ x h. saw c.is_path_before.ensures c.if-is_path_before.true (h)) c.assignment.ensures.takes

pub single-returns-then-is_path_before-clause-refuses : goal.single-returns-then-is_path_before-clause-refuses
single-returns-then-is_path_before-clause-refuses t c = same_refuses c.assignment.result _ _ (λ h. saw c.is_path_before.ensures c.if-is_path_before.true (h)) c.assignment.ensures.refuses

pub single-returns-then-is_path_before-2-clause-takes : goal.single-returns-then-is_path_before-2-clause-takes
single-returns-then-is_path_before-2-clause-takes t c = same_takes c.merge.result _ _ (λ x h. saw_not c.is_path_before.ensures c.if-is_path_before.false (saw c.is_path_before-2.ensures c.if-is_path_before-2.true (h))) c.merge.ensures.takes

pub single-returns-then-is_path_before-2-clause-refuses : goal.single-returns-then-is_path_before-2-clause-refuses
single-returns-then-is_path_before-2-clause-refuses t c = same_refuses c.merge.result _ _ (λ h. saw_not c.is_path_before.ensures c.if-is_path_before.false (saw c.is_path_before-2.ensures c.if-is_path_before-2.true (h))) c.merge.ensures.refuses

pub single-returns-in_err-value-clause-refuses : goal.single-returns-in_err-value-clause-refuses
single-returns-in_err-value-clause-refuses t c = leave c.from_residual.result _ _ _ c.from_residual.ensures c.in_err-value.ensures.refuses (λ h. saw_not c.is_path_before.ensures c.if-is_path_before.false (saw_not c.is_path_before-2.ensures c.if-is_path_before-2.false (taken c.in-Some.ensures.takes (not_gone h))))

pub single-returns-in-Some-clause-takes : goal.single-returns-in-Some-clause-takes
single-returns-in-Some-clause-takes t c = saw_not c.is_path_before.ensures c.if-is_path_before.false (saw_not c.is_path_before-2.ensures c.if-is_path_before-2.false (taken c.in-Some.ensures.takes (gone c.in_ok-value.ensures.takes (answered c.in_ok-return_of_value.ensures))))

pub single-returns-in-Some-take-clause-takes : goal.single-returns-in-Some-take-clause-takes
single-returns-in-Some-take-clause-takes t c = same_takes c.abort.result _ _ (λ x h. saw_not c.is_path_before.ensures c.if-is_path_before.false (saw_not c.is_path_before-2.ensures c.if-is_path_before-2.false (passed c.in_default.ensures.lacks c.in_default.ensures.stays (taken c.in-Some-take.ensures.takes (h))))) c.abort.ensures.takes

pub single-returns-in-Some-take-clause-refuses : goal.single-returns-in-Some-take-clause-refuses
single-returns-in-Some-take-clause-refuses t c = same_refuses c.abort.result _ _ (λ h. saw_not c.is_path_before.ensures c.if-is_path_before.false (saw_not c.is_path_before-2.ensures c.if-is_path_before-2.false (passed c.in_default.ensures.lacks c.in_default.ensures.stays (taken c.in-Some-take.ensures.takes (h))))) c.abort.ensures.refuses

pub single-returns-clause-takes : goal.single-returns-clause-takes
single-returns-clause-takes t c = same_takes c.level.result _ _ (λ x h. saw_not c.is_path_before.ensures c.if-is_path_before.false (saw_not c.is_path_before-2.ensures c.if-is_path_before-2.false (passed c.in_default.ensures.lacks c.in_default.ensures.stays (passed c.in_default-take.ensures.lacks c.in_default-take.ensures.stays (gone h ran))))) c.level.ensures.takes

pub single-returns-clause-refuses : goal.single-returns-clause-refuses
single-returns-clause-refuses t c = same_refuses c.level.result _ _ (λ h. saw_not c.is_path_before.ensures c.if-is_path_before.false (saw_not c.is_path_before-2.ensures c.if-is_path_before-2.false (passed c.in_default.ensures.lacks c.in_default.ensures.stays (passed c.in_default-take.ensures.lacks c.in_default-take.ensures.stays (not_gone h))))) c.level.ensures.refuses
