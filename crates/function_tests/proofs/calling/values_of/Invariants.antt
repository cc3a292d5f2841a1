use Rattle.std.proofs.Common.{IsTrue, map, option_map}
use Rattle.vrl_builtin.specs.Conditions.{arguments_below}
use Rattle.vrl_value.specs.View.{tree_of}
use Rattle.function_tests.proofs.calling.values_of.Given as goal

abbrev pub invariant-loop-part : goal.invariant-loop-part
invariant-loop-part l = IsTrue (arguments_below 1 (map (option_map tree_of) l.values.items))
