use Rattle.std.proofs.Common.{◌≡◌, ◌+◌, suc, ap, length, arith}
use Rattle.std.proofs.lemmas.List.{length-map}
use Rattle.vrl_builtin.specs.View.{parameter_row}
use Rattle.vrl_judge.specs.Rules.{argument_at}
use Rattle.vrl_check.proofs.CallsCodes.{code_parameter, codes_end, codes_end_early, codes_next}
use Rattle.vrl_check.proofs.calls.argument_codes.Goals as goal

pub returns-in_default-split_first : goal.returns-in_default-split_first
returns-in_default-split_first c =
    let l = c.loop-parameter in
    codes_end_early c.args.callee c.args.args.now c.args.parts.now c.args.places.now c.args.checker.now c.args.ends.now l.checker l.ends l.place l.left.now l.bound.now c.in_default-split_first.ensures.cases l.invariant

pub found_code-requires : goal.found_code-requires
found_code-requires c =
    let l = c.loop-parameter in
    code_parameter c.args.callee c.args.args.now c.args.parts.now c.args.places.now c.args.checker.now c.args.ends.now l.checker l.ends l.place l.left.now c.in-Some.others.now c.in-Some.parameter.now l.bound.now c.in-Some.ensures.cases.0 l.invariant

pub overflow_add-place : goal.overflow_add-place
overflow_add-place c =
    let rows = length-map c.parameters-parameters.result.now parameter_row in
    let all = ap length c.parameters-parameters.ensures in
    let within = c.loop-parameter.invariant.within in
    let left = ap length c.in-Some.ensures.cases.0 in
    omega (arith, rows, all, within, left)

pub loop-parameter-preserved : goal.loop-parameter-preserved
loop-parameter-preserved c =
    let l = c.loop-parameter in
    let q = c.in-Some-split_first.argument.now in
    let next : l.place + 1 ≡ suc l.place = omega arith in
    codes_next c.args.callee c.args.args.now c.args.parts.now c.args.places.now c.args.checker.now c.args.ends.now l.checker c.found_code.new.checker l.ends c.found_code.new.ends l.place _ l.left.now c.in-Some.others.now c.in-Some.parameter.now
    l.bound.now c.in-Some-split_first.rest.now q c.in-Some.ensures.cases.0 c.in-Some-split_first.ensures.cases.0 next (λ js told. c.in_ok-found_code.ensures (argument_at js q) (c.argument_at-found.ensures.found js told)) l.invariant

pub returns : goal.returns
returns c =
    let l = c.loop-parameter in
    codes_end c.args.callee c.args.args.now c.args.parts.now c.args.places.now c.args.checker.now c.args.ends.now l.checker l.ends l.place l.left.now l.bound.now c.in_default.ensures.cases l.invariant
