use Rattle.std.proofs.Common.{subst, sym}
use Rattle.vrl_syntax.specs.declared.tree.Call.{out-Call}
use Rattle.vrl_check.specs.Calling.{call_args, call_bang, call_closure, call_name, IsUnknown}
use Rattle.vrl_check.specs.Judgement.{Gives}
use Rattle.vrl_judge.specs.Rules.{Judgement}
use Rattle.vrl_judge.specs.Judging.{HasJudged}
use Rattle.vrl_check.proofs.CallsFound.{call_seen}
use Rattle.vrl_check.proofs.CallsJudged.{closure_passed, nothing_judged}
use Rattle.std.proofs.lemmas.Result.{IfOk-weaker}
use Rattle.vrl_judge.proofs.Results.{by_both}
use Rattle.vrl_check.proofs.calls.called.Goals as goal
use Rattle.vrl_check.specs.OpenRules.{language_rules}

pub returns-in-None : goal.returns-in-None
returns-in-None c =
    let x = c.args.call.now in
    by_both c.call_of_nothing.result _ _ _
    (λ finding any reported before known js j alive judged has.
    let passed = closure_passed before c.args.checker.now c.pass_closure.new.checker (call_args x) (call_closure x) c.args.arguments js j has c.in_ok-pass_closure.ensures.empties c.in_ok-pass_closure.ensures.loops c.in_ok-pass_closure.ensures.others in
    subst (λ f. (k : Judgement) × Gives (language_rules before.patterns.now) before.inside known c.args.span f k × HasJudged before c.call_of_nothing.new.checker finding k) (sym (call_seen x))
    (nothing_judged (call_name x) (out-Call x).name_span c.args.span (call_bang x) (call_args x) (call_closure x) before c.pass_closure.new.checker c.call_of_nothing.new.checker known js j c.args.arguments finding (subst IsUnknown c.as_str.ensures c.in-None.ensures)
    c.requires.name judged passed any reported))
    c.call_of_nothing.ensures.kind c.call_of_nothing.ensures.reported

pub returns-in-Some : goal.returns-in-Some
returns-in-Some c =
    let x = c.args.call.now in
    IfOk-weaker c.call_of.result _ _
    (λ finding gives before known js j alive judged has. gives before known js j alive judged
    (closure_passed before c.args.checker.now c.pass_closure.new.checker (call_args x) (call_closure x) c.args.arguments js j has c.in_ok-pass_closure.ensures.empties c.in_ok-pass_closure.ensures.loops c.in_ok-pass_closure.ensures.others))
    c.call_of.ensures
