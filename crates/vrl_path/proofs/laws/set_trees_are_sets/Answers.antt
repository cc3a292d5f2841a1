use Rattle.std.proofs.Common.{refl}
use Rattle.vrl_path.specs.Trees.{set_tree}
use Rattle.vrl_path.proofs.Order.{set_ordered}
use Rattle.vrl_path.proofs.Results.{as_deep, set_is}
use Rattle.vrl_path.proofs.laws.set_trees_are_sets.Goals as goal

pub returns : goal.returns
returns c = λ v p n. (set_is c.members_are_maps.ensures c.items_are_lists.ensures v p n, as_deep v p n (set_tree v p n) refl, set_ordered c.trees_stay_in_order.ensures v p n)
