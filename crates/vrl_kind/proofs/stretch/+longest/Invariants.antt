use Rattle.std.proofs.Common.{◌+◌, ◌*◌, take}
use Rattle.vrl_kind.specs.Count as count
use Rattle.vrl_kind.specs.Stretch.{PlacesKnowAtMost, FieldsKnowAtMost}
use Rattle.vrl_kind.specs.View.{list_of, object_of, places_view, fields_view, rest_of}
use Rattle.vrl_kind.proofs.stretch.+longest.Given as goal

abbrev pub invariant-fields_longest-loop-field : goal.invariant-fields_longest-loop-field
invariant-fields_longest-loop-field l = FieldsKnowAtMost l.depth l.most (fields_view (take l.field-index l.fields))

abbrev pub invariant-places_longest-loop-kind : goal.invariant-places_longest-loop-kind
invariant-places_longest-loop-kind l = PlacesKnowAtMost l.depth l.most (places_view (take l.kind-index l.kinds))

abbrev pub decreases-longest_list : goal.decreases-longest_list
decreases-longest_list l = 3 * count.nodes l.kind.now

abbrev pub decreases-list_longest : goal.decreases-list_longest
decreases-list_longest l = 3 * count.list_nodes (list_of l.list.now) + 2

abbrev pub decreases-object_longest : goal.decreases-object_longest
decreases-object_longest l = 3 * count.object_nodes (object_of l.object.now) + 2

abbrev pub decreases-places_longest : goal.decreases-places_longest
decreases-places_longest l = 3 * count.places_nodes (places_view l.kinds.now) + 1

abbrev pub decreases-fields_longest : goal.decreases-fields_longest
decreases-fields_longest l = 3 * count.fields_nodes (fields_view l.fields.now) + 1

abbrev pub decreases-rest_longest : goal.decreases-rest_longest
decreases-rest_longest l = 3 * count.rest_nodes (rest_of l.rest.now) + 1
