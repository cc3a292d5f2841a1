use Rattle.std.proofs.Common.{IsTrue, map}
use Rattle.vrl_builtin.specs.Conditions.{literals_below}
use Rattle.vrl_builtin.specs.View.{given_tree}
use Rattle.function_tests.proofs.calling.givens_of.Given as goal

abbrev pub invariant-loop-part : goal.invariant-loop-part
invariant-loop-part l = IsTrue (literals_below 1 (map given_tree l.givens.items))
