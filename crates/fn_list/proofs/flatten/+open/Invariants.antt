use Rattle.std.proofs.Common.{◌≡◌, ◌++◌, ◌≤◌, ◌*◌, ◌+◌, drop, map}
use Rattle.vrl_value.specs.View.{items_view, tree_of}
use Rattle.fn_list.specs.Flatten.{opened}
use Rattle.vrl_builtin.proofs.Sizes.{items_size, size_of}
use Rattle.fn_list.proofs.flatten.+open.Given as goal

abbrev pub decreases-push_opened : goal.decreases-push_opened
decreases-push_opened l = 2 * items_size (items_view l.items.now) + 1

abbrev pub decreases-push_part : goal.decreases-push_part
decreases-push_part l = 2 * size_of (tree_of l.item.now)

abbrev pub invariant-push_opened-loop-item : goal.invariant-push_opened-loop-item
invariant-push_opened-loop-item l = record {
  whole : map tree_of l.out.items ++ opened (items_view (drop l.item-index l.items)) ≡ map tree_of l.initial.out.items ++ opened (items_view l.items);
  fewer : items_size (items_view (drop l.item-index l.items)) ≤ items_size (items_view l.items);
}
