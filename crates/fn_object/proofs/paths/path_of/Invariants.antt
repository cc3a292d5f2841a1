use Rattle.std.proofs.Common.{◌≡◌, ◌++◌, drop, map}
use Rattle.vrl_value.specs.View.{tree_of}
use Rattle.fn_object.specs.Paths.{steps_of}
use Rattle.fn_object.proofs.paths.path_of.Given as goal

abbrev pub invariant-loop-element : goal.invariant-loop-element
invariant-loop-element l = l.steps.items ++ steps_of (map tree_of (drop l.element-index l.elements)) ≡ steps_of (map tree_of l.elements)
