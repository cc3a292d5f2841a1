use Rattle.vrl_path.proofs.OneResult.{one_removal}
use Rattle.vrl_path.proofs.laws.removals_are_one.Goals as goal

pub returns : goal.returns
returns c = one_removal c.trees_are_told.ensures
