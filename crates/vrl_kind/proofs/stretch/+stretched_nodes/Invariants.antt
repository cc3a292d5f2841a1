use Rattle.std.proofs.Common.{◌≡◌, ◌+◌, ◌*◌, ◌-◌, ◌^◌, min, take}
use Rattle.vrl_kind.specs.Count as count
use Rattle.vrl_kind.specs.Stretch.{stretched_fields, stretched_from}
use Rattle.vrl_kind.specs.View.{list_of, object_of, places_view, fields_view, rest_of}
use Rattle.vrl_kind.proofs.stretch.+stretched_nodes.Given as goal

abbrev pub invariant-places_nodes-loop-place : goal.invariant-places_nodes-loop-place
invariant-places_nodes-loop-place l = l.sum ≡ min (count.places_nodes (stretched_from l.first.place l.first.more l.behind (places_view (take l.place l.kinds)))) (2 ^ 64 - 1)

abbrev pub invariant-fields_nodes-loop-field : goal.invariant-fields_nodes-loop-field
invariant-fields_nodes-loop-field l = l.sum ≡ min (count.fields_nodes (stretched_fields l.behind (fields_view (take l.field-index l.fields)))) (2 ^ 64 - 1)

abbrev pub decreases-stretched_nodes : goal.decreases-stretched_nodes
decreases-stretched_nodes l = 3 * count.nodes l.kind.now

abbrev pub decreases-list_nodes : goal.decreases-list_nodes
decreases-list_nodes l = 3 * count.list_nodes (list_of l.list.now) + 2

abbrev pub decreases-object_nodes : goal.decreases-object_nodes
decreases-object_nodes l = 3 * count.object_nodes (object_of l.object.now) + 2

abbrev pub decreases-places_nodes : goal.decreases-places_nodes
decreases-places_nodes l = 3 * count.places_nodes (places_view l.kinds.now) + 1

abbrev pub decreases-fields_nodes : goal.decreases-fields_nodes
decreases-fields_nodes l = 3 * count.fields_nodes (fields_view l.fields.now) + 1

abbrev pub decreases-rest_nodes : goal.decreases-rest_nodes
decreases-rest_nodes l = 3 * count.rest_nodes (rest_of l.rest.now) + 1
