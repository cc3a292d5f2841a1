use Rattle.std.proofs.Common.{◌≡◌, ℕ, ◌*◌, ◌+◌, ◌≤◌, List, ◌++◌, drop, string_cmp}
use Rattle.std.specs.List.Sorted.{IsStrictlySortedBy}
use Rattle.std.specs.Map.{keys_of}
use Rattle.vrl_value.specs.View.{items_of, items_view, members_of, members_view, tree_of}
use Rattle.vrl_kind.specs.KindTree.{KindTree}
use Rattle.vrl_kindfile.specs.Faults.{as_fields, as_part, items_faults, members_faults}
use Rattle.vrl_kindfile.specs.Walk.{HaveFields, HavePlaces, NamesAreOrdered, given}
use Rattle.vrl_kindfile.proofs.Sizes.{given_size, items_size, members_size, size_of}
use Rattle.vrl_kindfile.proofs.description.+describe.Given as goal

abbrev pub decreases-description : goal.decreases-description
decreases-description l = 8 * size_of (tree_of l.value.now)

abbrev pub decreases-joined : goal.decreases-joined
decreases-joined l = 8 * items_size (items_of l.items.now) + 2

abbrev pub decreases-joined_from : goal.decreases-joined_from
decreases-joined_from l = 8 * items_size (items_view l.items.now) + 1

abbrev pub decreases-halves : goal.decreases-halves
decreases-halves l = 8 * items_size (items_view l.items.now)

abbrev pub decreases-containers : goal.decreases-containers
decreases-containers l = 8 * members_size (members_of l.fields.now) + 1

abbrev pub decreases-arrays : goal.decreases-arrays
decreases-arrays l = 8 * (size_of (tree_of l.places.now) + given_size (given l.rest)) + 4

abbrev pub decreases-objects : goal.decreases-objects
decreases-objects l = 8 * (size_of (tree_of l.fields.now) + given_size (given l.rest)) + 4

abbrev pub decreases-places_in : goal.decreases-places_in
decreases-places_in l = 8 * size_of (tree_of l.value.now) + 3

abbrev pub decreases-known_places : goal.decreases-known_places
decreases-known_places l = 8 * items_size (items_of l.items.now) + 3

abbrev pub decreases-fields_in : goal.decreases-fields_in
decreases-fields_in l = 8 * size_of (tree_of l.value.now) + 3

abbrev pub decreases-known_fields : goal.decreases-known_fields
decreases-known_fields l = 8 * members_size (members_of l.fields.now) + 3

abbrev pub decreases-part : goal.decreases-part
decreases-part l = 8 * size_of (tree_of l.value.now) + 1

abbrev pub decreases-rest_in : goal.decreases-rest_in
decreases-rest_in l = 8 * given_size (given l.value) + 2

abbrev pub decreases-rest_given : goal.decreases-rest_given
decreases-rest_given l = 8 * size_of (tree_of l.value.now) + 1

-- what is found with what the places that are left have is found of the whole
abbrev pub invariant-known_places-loop-place : goal.invariant-known_places-loop-place
invariant-known_places-loop-place l =
    let left = items_view (drop l.place l.item-items) in record {
      faults : items_faults as_part l.place left ≡ items_faults as_part 0 (items_of l.items);
      kinds : (more : List KindTree) → HavePlaces left more → HavePlaces (items_of l.items) (l.known.items ++ more);
      fewer : items_size left ≤ items_size (items_of l.items);
    }

abbrev pub invariant-known_fields-loop-name : goal.invariant-known_fields-loop-name
invariant-known_fields-loop-name l =
    let left = members_view l.name-iterator in record {
      faults : members_faults as_fields left ≡ members_faults as_fields (members_of l.fields);
      kinds : (more : List (List ℕ × KindTree)) → HaveFields left more → HaveFields (members_of l.fields) (l.known.items ++ more);
      sorted : IsStrictlySortedBy string_cmp (keys_of l.name-iterator);
      ordered : NamesAreOrdered left → NamesAreOrdered (members_of l.fields);
      fewer : members_size left ≤ members_size (members_of l.fields);
    }
