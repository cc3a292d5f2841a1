use Rattle.std.proofs.Common.{◌≡◌, ◌++◌, Ok, Err, ap, ◌∙◌, subst}
use Rattle.vrl_binding.specs.Binding.{binding, keywords_of, IsBound}
use Rattle.vrl_check.specs.Calling.{call_args, call_closure, callee_closure, callee_parameters, callee_wants}
use Rattle.vrl_check.specs.Judgement.{bound, of_arguments, own_codes, places_in}
use Rattle.vrl_judge.specs.Judging.{IsReported}
use Rattle.vrl_check.proofs.CallsCodes.{fault_is}
use Rattle.vrl_check.proofs.calls.bound.Goals as goal

pub returns-in_ok-bound_codes-in-Ok-clause-places : goal.returns-in_ok-bound_codes-in-Ok-clause-places
returns-in_ok-bound_codes-in-Ok-clause-places c =
    let ks = keywords_of (call_args c.args.call.now) in
    let is : Ok c.in-Ok.bound ≡ binding (callee_parameters c.args.callee) ks = c.in-Ok.ensures ∙ ap (λ ps. binding ps ks) c.parameters.ensures in
    ap places_in is

pub returns-in_ok-bound_codes-in-Ok-clause-reported : goal.returns-in_ok-bound_codes-in-Ok-clause-reported
returns-in_ok-bound_codes-in-Ok-clause-reported c js told =
    let wants = callee_wants c.args.callee in
    let ps = callee_parameters c.args.callee in
    let closure = call_closure c.args.call.now in
    let ks = keywords_of (call_args c.args.call.now) in
    let is : Ok c.in-Ok.bound ≡ binding ps ks = c.in-Ok.ensures ∙ ap (λ rows. binding rows ks) c.parameters.ensures in
    subst (λ b. IsReported (own_codes wants ps c.args.span (callee_closure c.args.callee c.args.span closure) js b) c.args.checker.now c.bound_codes.new.checker c.args.arguments.now.ends c.bound_codes.new.arguments.ends) is
    (subst (λ qs. IsReported (of_arguments wants 0 ps (bound qs js) ++ callee_closure c.args.callee c.args.span closure) c.args.checker.now c.bound_codes.new.checker c.args.arguments.now.ends c.bound_codes.new.arguments.ends) c.as_slice.ensures
    (c.in_ok-bound_codes-in-Ok.ensures.reported js told))

pub returns-in_ok-unbound-in-Err-clause-places : goal.returns-in_ok-unbound-in-Err-clause-places
returns-in_ok-unbound-in-Err-clause-places c =
    let ks = keywords_of (call_args c.args.call.now) in
    let is : Err c.in-Err.fault ≡ binding (callee_parameters c.args.callee) ks =
    fault_is (binding (callee_parameters c.args.callee) ks) c.in-Err.fault c.in_ok-unbound-in-Err.ensures.fault (subst (λ ps. IsBound (binding ps ks) (Err c.in-Err.fault)) c.parameters.ensures c.in-Err.ensures)
    in
    c.new-in-Err.ensures ∙ c.new.ensures.items ∙ ap places_in is

pub returns-in_ok-unbound-in-Err-clause-reported : goal.returns-in_ok-unbound-in-Err-clause-reported
returns-in_ok-unbound-in-Err-clause-reported c js told =
    let wants = callee_wants c.args.callee in
    let ps = callee_parameters c.args.callee in
    let closure = call_closure c.args.call.now in
    let ks = keywords_of (call_args c.args.call.now) in
    let is : Err c.in-Err.fault ≡ binding ps ks = fault_is (binding ps ks) c.in-Err.fault c.in_ok-unbound-in-Err.ensures.fault (subst (λ rows. IsBound (binding rows ks) (Err c.in-Err.fault)) c.parameters.ensures c.in-Err.ensures) in
    subst (λ b. IsReported (own_codes wants ps c.args.span (callee_closure c.args.callee c.args.span closure) js b) c.args.checker.now c.unbound.new.checker c.args.arguments.now.ends c.unbound.new.ends) is
    (c.in_ok-unbound-in-Err.ensures.reported js told.written_are)
