use Rattle.std.proofs.Common.{ℕ, ◌+◌, ◌*◌, ◌<◌, ◌≤◌, ◌↔◌, string_cmp}
use Rattle.std.specs.List.Sorted.{IsStrictlySortedBy}
use Rattle.std.specs.Map.{keys_of}
use Rattle.vrl_value.specs.Look.{item_at}
use Rattle.vrl_value.specs.View.{tree_of, items_view, members_of, members_view}
use Rattle.vrl_kind.specs.Canonical.{place_or, rest_kind}
use Rattle.vrl_kind.specs.Membership.{PartInhabits, MembersInhabit}
use Rattle.vrl_kind.specs.Merge.{FieldsAreSorted}
use Rattle.vrl_kind.specs.Seen.{part_rest}
use Rattle.vrl_kind.specs.View.{places_view, fields_view}
use Rattle.vrl_kind.proofs.Sizes.{size_of, items_size, members_size}
use Rattle.vrl_kind.proofs.membership.+inhabits.Given as goal

abbrev pub decreases-seen_inhabits : goal.decreases-seen_inhabits
decreases-seen_inhabits l = 3 * size_of (tree_of l.value.now)

abbrev pub decreases-item_inhabits : goal.decreases-item_inhabits
decreases-item_inhabits l = 3 * items_size (items_view l.items.now) + 1

abbrev pub decreases-items_inhabit : goal.decreases-items_inhabit
decreases-items_inhabit l = 3 * items_size (items_view l.items.now) + 2

abbrev pub decreases-fields_inhabit : goal.decreases-fields_inhabit
decreases-fields_inhabit l = 3 * members_size (members_of l.fields.now) + 2

-- the places that were passed are well
abbrev pub invariant-items_inhabit-loop-at : goal.invariant-items_inhabit-loop-at
invariant-items_inhabit-loop-at l =
    (i : ℕ) → i < l.at → PartInhabits (item_at i (items_view l.items)) (place_or (places_view l.list.places.now) (rest_kind (part_rest l.list.rest)) i)

-- all are well where those that are left are
abbrev pub invariant-fields_inhabit-loop-name : goal.invariant-fields_inhabit-loop-name
invariant-fields_inhabit-loop-name l = record {
  ordered : IsStrictlySortedBy string_cmp (keys_of l.name-iterator);
  sorted : FieldsAreSorted (fields_view l.left);
  fewer : members_size (members_view l.name-iterator) ≤ members_size (members_of l.fields);
  same : MembersInhabit (members_of l.fields) (fields_view l.object.fields.now) (part_rest l.object.rest) ↔ MembersInhabit (members_view l.name-iterator) (fields_view l.left) (part_rest l.object.rest);
}
