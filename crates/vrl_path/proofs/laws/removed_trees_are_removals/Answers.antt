use Rattle.std.proofs.Common.{refl}
use Rattle.vrl_path.specs.Remove.{removable_at}
use Rattle.vrl_path.specs.Trees.{remove_tree}
use Rattle.vrl_path.proofs.Order.{removed_ordered}
use Rattle.vrl_path.proofs.Results.{removed_none, removed_some}
use Rattle.vrl_path.proofs.laws.removed_trees_are_removals.Goals as goal

pub returns : goal.returns
returns c = λ v p.
    let maps = c.members_are_maps.ensures in
    let lists = c.items_are_lists.ensures in
    (removed_some maps lists (removable_at v p) v p (remove_tree v p) refl refl, removed_none (removable_at v p) v p (remove_tree v p) refl refl, removed_ordered c.trees_stay_in_order.ensures v p)
