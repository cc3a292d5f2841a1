use Rattle.std.proofs.Common.{◌≡◌, drop}
use Rattle.vrl_path.specs.Read.{read_at}
use Rattle.vrl_value.specs.View.{tree_of}
use Rattle.vrl_path.proofs.read.get.Given as goal

-- the steps that are left find in what was found what all steps find in the value
abbrev pub invariant-loop-step : goal.invariant-loop-step
invariant-loop-step l = read_at (tree_of l.found) (drop l.step-index l.step-items) ≡ read_at (tree_of l.value) l.step-items
