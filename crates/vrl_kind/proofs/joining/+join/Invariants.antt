use Rattle.std.proofs.Common.{◌+◌, ◌*◌}
use Rattle.vrl_kind.specs.Canonical.{rest_kind}
use Rattle.vrl_kind.specs.Count.{list_nodes, object_nodes}
use Rattle.vrl_kind.specs.Parts.{either_at}
use Rattle.vrl_kind.specs.Seen.{weight, list_weight, object_weight, part_rest, seen_list, seen_object}
use Rattle.vrl_kind.specs.View.{places_view, fields_view}
use Rattle.vrl_kind.proofs.Ahead.{fields_count}
use Rattle.vrl_kind.proofs.Joins.{PlacesSoFar}
use Rattle.vrl_kind.proofs.Namewise.{NamesSoFar}
use Rattle.vrl_kind.proofs.joining.+join.Given as goal

abbrev pub invariant-join_places-loop-at : goal.invariant-join_places-loop-at
invariant-join_places-loop-at l =
    PlacesSoFar (places_view l.a.places.now) (places_view l.b.places.now) (rest_kind (part_rest l.a.rest)) (rest_kind (part_rest l.b.rest)) l.kinds.items l.at

abbrev pub invariant-join_known-loop-pair : goal.invariant-join_known-loop-pair
invariant-join_known-loop-pair l =
    NamesSoFar either_at (rest_kind (part_rest l.a.rest)) (rest_kind (part_rest l.b.rest)) l.own (fields_view l.a.fields.now) (fields_view l.b.fields.now) (fields_view l.merge.left.now) (fields_view l.merge.right.now) (fields_view l.known.items)

abbrev pub decreases-join_known-loop-pair : goal.decreases-join_known-loop-pair
decreases-join_known-loop-pair l = fields_count (fields_view l.merge.left.now) + fields_count (fields_view l.merge.right.now)

abbrev pub decreases-join_seen : goal.decreases-join_seen
decreases-join_seen l = 6 * (weight l.a + weight l.b) + 1

abbrev pub decreases-join_parts : goal.decreases-join_parts
decreases-join_parts l = 6 * (weight l.a + weight l.b)

abbrev pub decreases-join_lists : goal.decreases-join_lists
decreases-join_lists l = 6 * (list_nodes (seen_list l.a) + list_nodes (seen_list l.b)) + 5

abbrev pub decreases-join_objects : goal.decreases-join_objects
decreases-join_objects l = 6 * (object_nodes (seen_object l.a) + object_nodes (seen_object l.b)) + 5

abbrev pub decreases-join_places : goal.decreases-join_places
decreases-join_places l = 6 * (list_weight l.a + list_weight l.b) + 3

abbrev pub decreases-join_fields : goal.decreases-join_fields
decreases-join_fields l = 6 * (object_weight l.a + object_weight l.b) + 4

abbrev pub decreases-join_known : goal.decreases-join_known
decreases-join_known l = 6 * (object_weight l.a + object_weight l.b) + 3
