use Rattle.std.proofs.Common.{◌≡◌, ◌∙◌, ap, subst, sym, refl, IfOk, Some}
use Rattle.vrl_syntax.specs.View.{args_of}
use Rattle.vrl_table.specs.Table.{function_named}
use Rattle.vrl_resolve.specs.Linking.{IsFunctionCallee}
use Rattle.vrl_resolve.specs.declared.node.Callee.TheVariants as callee
use Rattle.vrl_resolve.proofs.Functions.{not_named}
use Rattle.vrl_resolve.proofs.bound.function_callee.Goals as goal

pub returns-in-Some : goal.returns-in-Some
returns-in-Some c =
    let named : function_named c.args.name.now ≡ Some c.in-Some.function = sym (ap function_named c.in-Some.ensures) ∙ c.functions_are_found.ensures c.in-Some.function in
    subst (λ function. IfOk c.bound_function.result (IsFunctionCallee function (args_of c.args.args.now))) (sym named) c.bound_function.ensures.callee

pub returns-in-None : goal.returns-in-None
returns-in-None c =
    subst (λ function. IsFunctionCallee function (args_of c.args.args.now) callee.Nothing) (sym (not_named c.args.name.now c.in-None.ensures)) (record { known = λ count. tt; same = λ names. refl })
