use Rattle.std.proofs.Common.{◌≡◌, ◌≤◌, drop}
use Rattle.vrl_value.specs.Tree.{items_are_json, members_are_json}
use Rattle.vrl_value.specs.View.{tree_of, items_of, members_of, items_view, members_view}
use Rattle.vrl_json.proofs.Sizes.{size_of, items_size, members_size}
use Rattle.vrl_json.proofs.read.+whole_parts.Given as goal

abbrev pub decreases-is_all_whole : goal.decreases-is_all_whole
decreases-is_all_whole l = size_of (tree_of l.value.now)

abbrev pub decreases-items_are_whole : goal.decreases-items_are_whole
decreases-items_are_whole l = items_size (items_of l.items.now)

abbrev pub decreases-fields_are_whole : goal.decreases-fields_are_whole
decreases-fields_are_whole l = members_size (members_of l.fields.now)

-- all have no stand-in where those that are left have none
abbrev pub invariant-items_are_whole-loop-item : goal.invariant-items_are_whole-loop-item
invariant-items_are_whole-loop-item l =
    let left = items_view (drop l.item-index l.item-items) in record {
      same : items_are_json left ≡ items_are_json (items_of l.items);
      fewer : items_size left ≤ items_size (items_of l.items);
    }

abbrev pub invariant-fields_are_whole-loop-name : goal.invariant-fields_are_whole-loop-name
invariant-fields_are_whole-loop-name l =
    let left = members_view l._name-iterator in record {
      same : members_are_json left ≡ members_are_json (members_of l.fields);
      fewer : members_size left ≤ members_size (members_of l.fields);
    }
