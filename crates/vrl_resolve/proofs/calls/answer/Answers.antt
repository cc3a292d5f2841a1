use Rattle.std.proofs.Common.{rules, ◌≡◌, None, sym, subst}
use Rattle.vrl_builtin.specs.View.{arguments_of, setting_of}
use Rattle.vrl_store.specs.Results.{Gives}
use Rattle.vrl_table.specs.Table.{row_of, uses_memory}
use Rattle.vrl_resolve.specs.Calls.{first_unfit, fit_or_else}
use Rattle.vrl_resolve.proofs.calls.answer.Goals as goal

pub returns : goal.returns
returns c =
    let r = row_of c.args.function in
    let vs = arguments_of c.args.arguments.now in
    let means = r.means vs (setting_of c.args.context.now.setting) in
    let fits : first_unfit 0 r.parameters vs ≡ None = search rules in
    subst (λ unfit. Gives (fit_or_else unfit r means) c.answered.result) (sym fits)
    (c.answered.ensures.gives (uses_memory c.args.function vs) means c.apply.ensures)
