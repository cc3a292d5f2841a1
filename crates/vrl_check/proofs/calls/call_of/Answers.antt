use Rattle.std.proofs.lemmas.Result.{IfOk-weaker}
use Rattle.vrl_syntax.specs.View.{call_of}
use Rattle.vrl_check.specs.Calling.{call_args, call_bang, call_closure}
use Rattle.vrl_judge.specs.Rules.{banged}
use Rattle.vrl_check.proofs.CallsJudged.{call_bound, codes_are, codes_can, has_codes}
use Rattle.vrl_check.proofs.calls.call_of.Goals as goal

pub answer_call-requires-clause-form : goal.answer_call-requires-clause-form
answer_call-requires-clause-form c = codes_can _ (call_of c.args.call.now) c.args.checker.now c.bound.new.checker c.args.arguments.ends c.bound.new.arguments.ends (c.in_ok-bound.ensures.reported c.requires.told.0 c.requires.told.1) c.requires.form

pub answer_call-requires-clause-codes : goal.answer_call-requires-clause-codes
answer_call-requires-clause-codes c =
    has_codes c.args.callee c.args.span c.args.checker.now c.bound.new.checker (call_args c.args.call.now) (call_closure c.args.call.now) c.args.arguments c.bound.new.arguments c.in_ok-bound.bound c.requires.told c.in_ok-bound.ensures.places c.in_ok-bound.ensures.reported c.bound.ensures.parts

pub answer_call-requires-clause-ends : goal.answer_call-requires-clause-ends
answer_call-requires-clause-ends c = codes_are _ c.args.checker.now c.bound.new.checker c.args.arguments.ends c.bound.new.arguments.ends (c.in_ok-bound.ensures.reported c.requires.told.0 c.requires.told.1) c.requires.ends

pub returns : goal.returns
returns c =
    let gs = call_args c.args.call.now in
    let closure = call_closure c.args.call.now in
    IfOk-weaker c.banged.result _ _
    (λ finding bangs before known js j alive judged passed.
    let ready = call_bound c.args.callee c.args.span before c.args.checker.now c.bound.new.checker gs closure c.args.arguments c.bound.new.arguments js j passed (c.in_ok-bound.ensures.reported js passed.told) c.bound.ensures.parts in
    let k = c.in_ok-finding.ensures c.args.span before known js j alive judged ready in
    (banged c.args.span (call_bang c.args.call.now) k.0, k.1, bangs before k.0 k.2))
    c.banged.ensures
