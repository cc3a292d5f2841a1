use Rattle.std.proofs.lemmas.Result.{IfOk-weaker}
use Rattle.vrl_kind.specs.Canonical.{any_kind}
use Rattle.vrl_check.specs.Calling.{call_closure}
use Rattle.vrl_check.specs.Judgement.{passing_closure}
use Rattle.vrl_check.specs.Walking.{nulls}
use Rattle.vrl_syntax.specs.ErrorAssignments.{in_closure}
use Rattle.vrl_check.proofs.CallsJudged.{closure_gathered}
use Rattle.vrl_check.proofs.Iterated.{passed_judged}
use Rattle.vrl_check.proofs.calls.passed_call.Goals as goal

pub returns : goal.returns
returns c =
    let cl = call_closure c.args.call.now in
    let passed = c.in_ok-pass_closure.ensures in
    IfOk-weaker c.banged.result _ _
    (λ finding bangs before j ends has. bangs before (passing_closure cl (nulls (in_closure cl)) (record j { kind = any_kind }))
    (passed_judged cl before c.pass_closure.new.checker c.in_ok-kind.kind c.args.arguments.ends j c.in_ok-kind.ensures.tree ends (closure_gathered before c.args.checker.now c.pass_closure.new.checker cl j has passed.empties passed.loops passed.others)))
    c.banged.ensures
