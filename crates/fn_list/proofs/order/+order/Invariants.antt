use Rattle.std.proofs.Common.{◌≡◌, ◌≤◌, ◌*◌, ◌+◌, drop}
use Rattle.vrl_value.specs.View.{items_view, members_of, members_view, tree_of}
use Rattle.fn_list.specs.Order.{order_items, order_members}
use Rattle.vrl_builtin.proofs.Sizes.{items_size, members_size, size_of}
use Rattle.fn_list.proofs.order.+order.Given as goal

abbrev pub decreases-order : goal.decreases-order
decreases-order l = 2 * size_of (tree_of l.value.now)

abbrev pub decreases-order_field : goal.decreases-order_field
decreases-order_field l = 2 * size_of (tree_of l.value.now) + 1

abbrev pub decreases-order_items : goal.decreases-order_items
decreases-order_items l = 2 * items_size (items_view l.items.now) + 1

abbrev pub decreases-order_fields : goal.decreases-order_fields
decreases-order_fields l = 2 * members_size (members_of l.fields.now) + 1

-- those that are left have the order of all
abbrev pub invariant-order_items-loop-item : goal.invariant-order_items-loop-item
invariant-order_items-loop-item l = record {
  whole : order_items (items_view (drop l.item-index l.items)) (items_view l.right) ≡ order_items (items_view l.items) (items_view l.others);
  fewer : items_size (items_view (drop l.item-index l.items)) ≤ items_size (items_view l.items);
}

abbrev pub invariant-order_fields-loop-name : goal.invariant-order_fields-loop-name
invariant-order_fields-loop-name l = record {
  whole : order_members (members_view l.name-iterator) (members_view l.right) ≡ order_members (members_of l.fields) (members_of l.others);
  fewer : members_size (members_view l.name-iterator) ≤ members_size (members_of l.fields);
}
