use Rattle.std.proofs.Common.{◌≡◌, Some, None, rules, subst}
use Rattle.std.specs.Prelude.{IfOk}
use Rattle.vrl_syntax.specs.Calls.{form_named}
use Rattle.vrl_syntax.specs.View.{args_of}
use Rattle.vrl_resolve.specs.Linking.{IsRunBy}
use Rattle.vrl_resolve.proofs.ClosureCalls.{run_nothing}
use Rattle.vrl_resolve.proofs.bound.iteration_form.Goals as goal

pub returns-in-Some : goal.returns-in-Some
returns-in-Some c =
    let is : Some c.in-Some.form ≡ form_named c.args.name.now = search rules in
    subst (λ named. IfOk c.shaped_form.result (IsRunBy named c.args.names.now (args_of c.args.args.now))) is c.shaped_form.ensures

pub returns-in-None : goal.returns-in-None
returns-in-None c =
    let is : form_named c.args.name.now ≡ None = search rules in
    run_nothing (form_named c.args.name.now) c.args.names.now (args_of c.args.args.now) is
