use Rattle.vrl_path.proofs.GoingOn.{set_goes_on}
use Rattle.vrl_path.proofs.laws.sets_go_on.Goals as goal

pub returns : goal.returns
returns c = set_goes_on c.members_are_maps.ensures c.items_are_lists.ensures
