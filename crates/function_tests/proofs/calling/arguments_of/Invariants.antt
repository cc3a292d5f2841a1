use Rattle.std.proofs.Common.{◌≡◌, map, option_map, take}
use Rattle.vrl_builtin.specs.View.{argument_tree}
use Rattle.vrl_value.specs.View.{tree_of}
use Rattle.function_tests.proofs.calling.arguments_of.Given as goal

abbrev pub invariant-loop-value : goal.invariant-loop-value
invariant-loop-value l = map argument_tree l.arguments.items ≡ map (option_map tree_of) (take l.value-index l.values)
