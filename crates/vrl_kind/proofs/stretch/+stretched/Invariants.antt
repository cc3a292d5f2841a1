use Rattle.std.proofs.Common.{◌≡◌, ◌+◌, ◌*◌, map, take}
use Rattle.vrl_kind.specs.Count as count
use Rattle.vrl_kind.specs.View.{list_of, object_of, places_view, fields_view, rest_of}
use Rattle.vrl_kind.proofs.Repeating.{field_stretched, list_from}
use Rattle.vrl_kind.proofs.stretch.+stretched.Given as goal

abbrev pub invariant-stretched_places-loop-place : goal.invariant-stretched_places-loop-place
invariant-stretched_places-loop-place l = l.whole.items ≡ list_from l.first.place l.first.more l.behind (take l.place l.kinds)

abbrev pub invariant-stretched_fields-loop-field : goal.invariant-stretched_fields-loop-field
invariant-stretched_fields-loop-field l = l.whole.items ≡ map (field_stretched l.behind) (take l.field-index l.fields)

abbrev pub decreases-stretched : goal.decreases-stretched
decreases-stretched l = 3 * count.nodes l.kind.now

abbrev pub decreases-stretched_list : goal.decreases-stretched_list
decreases-stretched_list l = 3 * count.list_nodes (list_of l.list.now) + 2

abbrev pub decreases-stretched_object : goal.decreases-stretched_object
decreases-stretched_object l = 3 * count.object_nodes (object_of l.object.now) + 2

abbrev pub decreases-stretched_places : goal.decreases-stretched_places
decreases-stretched_places l = 3 * count.places_nodes (places_view l.kinds.now) + 1

abbrev pub decreases-stretched_fields : goal.decreases-stretched_fields
decreases-stretched_fields l = 3 * count.fields_nodes (fields_view l.fields.now) + 1

abbrev pub decreases-stretched_rest : goal.decreases-stretched_rest
decreases-stretched_rest l = 3 * count.rest_nodes (rest_of l.rest.now) + 1
