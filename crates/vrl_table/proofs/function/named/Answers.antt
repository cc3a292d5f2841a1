use Rattle.std.proofs.Common.{find, bytes_eq, ap, ◌∙◌}
use Rattle.vrl_table.specs.Table.{function_named, row_of}
use Rattle.vrl_table.proofs.function.named.Goals as goal

pub returns : goal.returns
unfolding function_named
returns c = c.first_named.ensures ∙ ap (find (λ function. bytes_eq (row_of function).name c.args.name.now)) c.all.ensures
