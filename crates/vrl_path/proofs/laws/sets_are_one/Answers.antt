use Rattle.vrl_path.proofs.OneResult.{one_set}
use Rattle.vrl_path.proofs.laws.sets_are_one.Goals as goal

pub returns : goal.returns
returns c = one_set c.trees_are_told.ensures
