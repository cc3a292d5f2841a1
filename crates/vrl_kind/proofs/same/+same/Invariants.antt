use Rattle.std.proofs.Common.{◌≡◌, ◌+◌, ◌*◌, take}
use Rattle.vrl_kind.specs.Count.{nodes, list_nodes, object_nodes, places_nodes, fields_nodes, rest_nodes}
use Rattle.vrl_kind.specs.View.{list_of, object_of, places_view, fields_view, rest_of}
use Rattle.vrl_kind.proofs.same.+same.Given as goal

abbrev pub invariant-same_places-loop-at : goal.invariant-same_places-loop-at
invariant-same_places-loop-at l = take l.at l.a ≡ take l.at l.b

abbrev pub invariant-same_fields-loop-at : goal.invariant-same_fields-loop-at
invariant-same_fields-loop-at l = take l.at l.a ≡ take l.at l.b

abbrev pub decreases-same : goal.decreases-same
decreases-same l = 4 * nodes l.a.now

abbrev pub decreases-same_field : goal.decreases-same_field
decreases-same_field l = 4 * nodes l.a.now.kind + 1

abbrev pub decreases-same_lists : goal.decreases-same_lists
decreases-same_lists l = 4 * list_nodes (list_of l.a.now) + 3

abbrev pub decreases-same_objects : goal.decreases-same_objects
decreases-same_objects l = 4 * object_nodes (object_of l.a.now) + 3

abbrev pub decreases-same_places : goal.decreases-same_places
decreases-same_places l = 4 * places_nodes (places_view l.a.now) + 2

abbrev pub decreases-same_fields : goal.decreases-same_fields
decreases-same_fields l = 4 * fields_nodes (fields_view l.a.now) + 2

abbrev pub decreases-same_rests : goal.decreases-same_rests
decreases-same_rests l = 4 * rest_nodes (rest_of l.a.now) + 2
