use Rattle.std.proofs.Common.{true, not, is_some, ap, ◌∙◌}
use Rattle.std.specs.Option.{option_map_or}
use Rattle.vrl_value.specs.Tree.{Tree}
use Rattle.vrl_value.specs.View.{tree_of}
use Rattle.vrl_builtin.specs.View.{givens_of}
use Rattle.vrl_table.specs.Table.{row_of}
use Rattle.vrl_check.proofs.CallsLiterals.{refused_alone}
use Rattle.vrl_check.proofs.calls.is_no_literal.Goals as goal

-- told of any row, though no function that is built wants a literal
pub returns : goal.returns
returns c = λ wants.
    c.is_some.ensures
    ∙ ap is_some c.wrong_literal.ensures
    ∙ refused_alone (row_of c.args.function) c.args.place (tree_of c.in-Some.value.now) (givens_of c.in_ok-alone.alone) c.in_ok-alone.ensures wants
    ∙ ap (λ l. option_map_or (λ (v : Tree). not ((row_of c.args.function).accepts c.args.place v)) l true) c.in-Some.ensures
