use Rattle.std.proofs.Common.{ℕ, List, Option, map, subst}
use Rattle.vrl_value.specs.declared.value.Value.{Value}
use Rattle.vrl_builtin.specs.View.{setting_of}
use Rattle.vrl_table.specs.Table.{row_of}
use Rattle.vrl_store.specs.Outcomes.{Outcome}
use Rattle.vrl_store.specs.StoreView.{store_in}
use Rattle.vrl_store.specs.Results.{Gives}
use Rattle.vrl_resolve.specs.Calls.{argument_in, called}
use Rattle.vrl_resolve.specs.Looks.{argument_values}
use Rattle.vrl_resolve.proofs.Gives.{gives_ends}
use Rattle.vrl_resolve.proofs.calls.act.Goals as goal

pub returns-in-Function-clause-ends : goal.returns-in-Function-clause-ends
returns-in-Function-clause-ends c =
    let store = store_in c.args.context.now.names.now c.args.store.now in
    let outcome : List (Option ℕ) → List Value → Outcome = λ places run.
    called (setting_of c.args.context.now.setting) (row_of c.in-Function.function) (map (argument_in (argument_values c.args.context.now.names.now store run c.args.args.now)) places) in
    let places = c.in-Function.places.items in
    let result = c.call_function.result in
    let gives : Gives (outcome places c.args.run.items) result
    = subst (λ run. Gives (outcome places run) result) c.deref-in-Function.ensures.value
    (subst (λ at. Gives (outcome at c.deref-in-Function.result.now) result) c.deref.ensures.value c.call_function.ensures) in
    rw c.in-Function.is (gives_ends (outcome places c.args.run.items) store result gives)
