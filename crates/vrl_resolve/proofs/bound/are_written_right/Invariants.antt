use Rattle.std.proofs.Common.{◌≡◌, ◌+◌, length, map}
use Rattle.vrl_builtin.specs.View.{parameter_row}
use Rattle.vrl_syntax.specs.View.{args_view}
use Rattle.vrl_table.specs.Table.{row_of}
use Rattle.vrl_resolve.specs.Calls.{are_written_right, values_of, written_at}
use Rattle.vrl_resolve.proofs.bound.are_written_right.Given as goal

-- what is left decides
abbrev pub invariant-loop-parameter : goal.invariant-loop-parameter
invariant-loop-parameter l = record {
  rest : are_written_right (row_of l.function).accepts l.place (map parameter_row l.left) (map (written_at (values_of (args_view l.args))) l.bound)
      ≡ are_written_right (row_of l.function).accepts 0 (row_of l.function).parameters (map (written_at (values_of (args_view l.args))) l.places);
  within : l.place + length l.left ≡ length l.initial.left;
}

abbrev pub decreases-loop-parameter : goal.decreases-loop-parameter
decreases-loop-parameter l = length l.left
