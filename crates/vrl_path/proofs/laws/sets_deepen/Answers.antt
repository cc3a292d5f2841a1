use Rattle.vrl_path.proofs.Results.{set_as_deep}
use Rattle.vrl_path.proofs.laws.sets_deepen.Goals as goal

pub returns : goal.returns
returns c = set_as_deep c.members_are_maps.ensures c.items_are_lists.ensures c.trees_stay_in_order.ensures c.trees_are_told.ensures
