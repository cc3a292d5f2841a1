use Rattle.vrl_value.proofs.OneTree.{one_tree}
use Rattle.vrl_value.proofs.laws.trees_are_told.Goals as goal

pub returns : goal.returns
returns c = one_tree
