use Rattle.std.proofs.Common.{◌≡◌, ◌+◌, ◌*◌, ◌-◌, ◌^◌, min, take}
use Rattle.vrl_kind.specs.Count as count
use Rattle.vrl_kind.specs.View.{list_of, object_of, places_view, fields_view, rest_of}
use Rattle.vrl_kind.proofs.count.+levels.Given as goal

abbrev pub invariant-fields_levels-loop-field : goal.invariant-fields_levels-loop-field
invariant-fields_levels-loop-field l = l.most ≡ min (count.fields_levels (fields_view (take l.field-index l.fields))) (2 ^ 64 - 1)

abbrev pub invariant-places_levels-loop-kind : goal.invariant-places_levels-loop-kind
invariant-places_levels-loop-kind l = l.most ≡ min (count.places_levels (places_view (take l.kind-index l.kinds))) (2 ^ 64 - 1)

abbrev pub decreases-levels : goal.decreases-levels
decreases-levels l = 3 * count.nodes l.kind.now

abbrev pub decreases-list_levels : goal.decreases-list_levels
decreases-list_levels l = 3 * count.list_nodes (list_of l.list.now) + 2

abbrev pub decreases-object_levels : goal.decreases-object_levels
decreases-object_levels l = 3 * count.object_nodes (object_of l.object.now) + 2

abbrev pub decreases-places_levels : goal.decreases-places_levels
decreases-places_levels l = 3 * count.places_nodes (places_view l.kinds.now) + 1

abbrev pub decreases-fields_levels : goal.decreases-fields_levels
decreases-fields_levels l = 3 * count.fields_nodes (fields_view l.fields.now) + 1

abbrev pub decreases-rest_levels : goal.decreases-rest_levels
decreases-rest_levels l = 3 * count.rest_nodes (rest_of l.rest.now) + 1
