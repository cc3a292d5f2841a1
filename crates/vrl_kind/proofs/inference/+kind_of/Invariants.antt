use Rattle.std.proofs.Common.{◌≡◌, ◌+◌, ◌*◌, ◌≤◌, ◌++◌, List, String, Global, string_cmp, take}
use Rattle.std.specs.List.Sorted.{IsStrictlySortedBy}
use Rattle.std.specs.Map.{keys_of}
use Rattle.vrl_value.specs.View.{tree_of, items_view, members_of, members_view}
use Rattle.vrl_value.specs.declared.value.Value.{Value}
use Rattle.vrl_kind.proofs.Found.{AreKindsOf, AreFieldsOf}
use Rattle.vrl_kind.proofs.Sizes.{size_of, items_size, members_size}
use Rattle.vrl_kind.proofs.inference.+kind_of.Given as goal

abbrev pub decreases-kind_of_value : goal.decreases-kind_of_value
decreases-kind_of_value l = 3 * size_of (tree_of l.value.now) + 1

abbrev pub decreases-list_of_value : goal.decreases-list_of_value
decreases-list_of_value l = 3 * size_of (tree_of l.value.now)

abbrev pub decreases-object_of_value : goal.decreases-object_of_value
decreases-object_of_value l = 3 * size_of (tree_of l.value.now)

abbrev pub decreases-kinds_of_items : goal.decreases-kinds_of_items
decreases-kinds_of_items l = 3 * items_size (items_view l.items.now) + 2

abbrev pub decreases-kinds_of_fields : goal.decreases-kinds_of_fields
decreases-kinds_of_fields l = 3 * members_size (members_of l.fields.now) + 2

abbrev pub invariant-kinds_of_items-loop-item : goal.invariant-kinds_of_items-loop-item
invariant-kinds_of_items-loop-item l = AreKindsOf l.kinds.items (take l.item-index l.items)

-- the fields are those of the entries that were taken
abbrev pub invariant-kinds_of_fields-loop-name : goal.invariant-kinds_of_fields-loop-name
invariant-kinds_of_fields-loop-name l =
    (done : List (String Global × Value)) × (members_view (done ++ l.name-iterator) ≡ members_of l.fields) × IsStrictlySortedBy string_cmp (keys_of (done ++ l.name-iterator)) × AreFieldsOf l.kinds.items done
    × (members_size (members_view l.name-iterator) ≤ members_size (members_of l.fields))
