use Rattle.std.proofs.Common.{◌≡◌, ◌++◌, ◌≤◌, ◌*◌, ◌+◌, drop, map}
use Rattle.vrl_value.specs.View.{items_view, members_of, members_view, tree_of}
use Rattle.fn_list.specs.Compact.{compact_items, compact_members}
use Rattle.vrl_builtin.specs.Listed.{trees_in}
use Rattle.fn_list.proofs.Compacting.{IsPartway}
use Rattle.vrl_builtin.proofs.Sizes.{items_size, members_size, size_of}
use Rattle.fn_list.proofs.compact.+compact.Given as goal

abbrev pub decreases-compacted : goal.decreases-compacted
decreases-compacted l = 2 * size_of (tree_of l.value.now)

abbrev pub decreases-compact_items : goal.decreases-compact_items
decreases-compact_items l = 2 * items_size (items_view l.items.now) + 1

abbrev pub decreases-compact_fields : goal.decreases-compact_fields
decreases-compact_fields l = 2 * members_size (members_of l.fields.now) + 1

abbrev pub invariant-compact_items-loop-item : goal.invariant-compact_items-loop-item
invariant-compact_items-loop-item l = record {
  whole : map tree_of l.kept.items ++ trees_in (compact_items (items_view (drop l.item-index l.items))) ≡ trees_in (compact_items (items_view l.items));
  fewer : items_size (items_view (drop l.item-index l.items)) ≤ items_size (items_view l.items);
}

abbrev pub invariant-compact_fields-loop-name : goal.invariant-compact_fields-loop-name
invariant-compact_fields-loop-name l = record {
  partway : IsPartway (members_of l.kept) (members_view l.name-iterator) (compact_members (members_of l.fields));
  fewer : members_size (members_view l.name-iterator) ≤ members_size (members_of l.fields);
}
