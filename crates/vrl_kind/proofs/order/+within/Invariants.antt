use Rattle.std.proofs.Common.{ℕ, ◌+◌, ◌*◌, ◌<◌}
use Rattle.vrl_kind.specs.Canonical.{place_or, rest_kind}
use Rattle.vrl_kind.specs.Count.{list_nodes, object_nodes}
use Rattle.vrl_kind.specs.Kinds.{IsWithin}
use Rattle.vrl_kind.specs.Seen.{weight, list_weight, object_weight, part_rest, seen_list, seen_object}
use Rattle.vrl_kind.specs.View.{places_view, fields_view}
use Rattle.vrl_kind.proofs.Ahead.{fields_count}
use Rattle.vrl_kind.proofs.Inclusion.{FieldsSoFar}
use Rattle.vrl_kind.proofs.order.+within.Given as goal

abbrev pub invariant-places_within-loop-at : goal.invariant-places_within-loop-at
invariant-places_within-loop-at l =
    (i : ℕ) → i < l.at → IsWithin (place_or (places_view l.a.places.now) (rest_kind (part_rest l.a.rest)) i) (place_or (places_view l.b.places.now) (rest_kind (part_rest l.b.rest)) i)

abbrev pub invariant-fields_within-loop-pair : goal.invariant-fields_within-loop-pair
invariant-fields_within-loop-pair l =
    FieldsSoFar (rest_kind (part_rest l.a.rest)) (rest_kind (part_rest l.b.rest)) (fields_view l.a.fields.now) (fields_view l.b.fields.now) (fields_view l.merge.left.now) (fields_view l.merge.right.now)

abbrev pub decreases-fields_within-loop-pair : goal.decreases-fields_within-loop-pair
decreases-fields_within-loop-pair l = fields_count (fields_view l.merge.left.now) + fields_count (fields_view l.merge.right.now)

abbrev pub decreases-within_seen : goal.decreases-within_seen
decreases-within_seen l = 4 * (weight l.a + weight l.b) + 1

abbrev pub decreases-parts_within : goal.decreases-parts_within
decreases-parts_within l = 4 * (weight l.a + weight l.b)

abbrev pub decreases-lists_within : goal.decreases-lists_within
decreases-lists_within l = 4 * (list_nodes (seen_list l.a) + list_nodes (seen_list l.b)) + 3

abbrev pub decreases-objects_within : goal.decreases-objects_within
decreases-objects_within l = 4 * (object_nodes (seen_object l.a) + object_nodes (seen_object l.b)) + 3

abbrev pub decreases-places_within : goal.decreases-places_within
decreases-places_within l = 4 * (list_weight l.a + list_weight l.b) + 2

abbrev pub decreases-fields_within : goal.decreases-fields_within
decreases-fields_within l = 4 * (object_weight l.a + object_weight l.b) + 2
