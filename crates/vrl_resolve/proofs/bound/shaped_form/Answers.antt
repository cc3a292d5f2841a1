use Rattle.std.proofs.Common.{◌≡◌, false, true, Some, rules, subst}
use Rattle.vrl_syntax.specs.Calls.{has_shape, is_closure_form}
use Rattle.vrl_syntax.specs.View.{args_of}
use Rattle.vrl_binding.specs.Binding.{binding, keywords_of, IsBound}
use Rattle.vrl_resolve.proofs.ClosureCalls.{run_by, run_by_none, run_by_other}
use Rattle.vrl_resolve.proofs.bound.shaped_form.Goals as goal

pub takes-requires : goal.takes-requires
takes-requires c =
    let bound = c.bind_to-bound in
    record { bound = subst (λ ps. IsBound (binding ps (keywords_of (args_of c.args.args.now))) bound.result) c.collection_parameters.ensures bound.ensures }

pub returns-then-not-takes_closure : goal.returns-then-not-takes_closure
returns-then-not-takes_closure c =
    let is : is_closure_form (Some c.args.form) ≡ false = search rules in
    run_by_none c.args.form c.args.names.now (args_of c.args.args.now) is

pub returns-then-not-has_shape : goal.returns-then-not-has_shape
returns-then-not-has_shape c =
    let is : is_closure_form (Some c.args.form) ≡ true = search rules in
    let other : has_shape c.args.form c.args.names.now ≡ false = search rules in
    run_by_other c.args.form c.args.names.now (args_of c.args.args.now) is other

pub returns-then-branch : goal.returns-then-branch
returns-then-branch c =
    let is : is_closure_form (Some c.args.form) ≡ true = search rules in
    let shape : has_shape c.args.form c.args.names.now ≡ true = search rules in
    let bound = rw c.if-branch.true at c.in_ok-takes.ensures.takes in
    (run_by c.args.form c.args.names.now (args_of c.args.args.now) true is shape bound, (is, shape))

pub returns : goal.returns
returns c =
    let is : is_closure_form (Some c.args.form) ≡ true = search rules in
    let shape : has_shape c.args.form c.args.names.now ≡ true = search rules in
    let bound = rw c.if-branch.false at c.in_ok-takes.ensures.takes in
    run_by c.args.form c.args.names.now (args_of c.args.args.now) false is shape bound
