use Rattle.std.proofs.Common.{◌≡◌, ◌+◌, ◌*◌, take}
use Rattle.vrl_kind.specs.Count.{nodes, list_nodes, object_nodes, places_nodes, fields_nodes, rest_nodes}
use Rattle.vrl_kind.specs.Seen.{part_rest, seen_list, seen_object}
use Rattle.vrl_kind.specs.View.{places_view, fields_view}
use Rattle.vrl_kind.proofs.+copy.Given as goal

abbrev pub invariant-make::copy_places-loop-kind : goal.invariant-make::copy_places-loop-kind
invariant-make::copy_places-loop-kind l = l.kinds.items ≡ take l.kind-index l.places

abbrev pub invariant-make::copy_fields-loop-field : goal.invariant-make::copy_fields-loop-field
invariant-make::copy_fields-loop-field l = l.copies.items ≡ take l.field-index l.fields

abbrev pub decreases-kind::Kind::copy : goal.decreases-kind::Kind::copy
decreases-kind::Kind::copy l = 3 * nodes l.self.now

abbrev pub decreases-make::copy_list : goal.decreases-make::copy_list
decreases-make::copy_list l = 3 * list_nodes (seen_list l.list) + 2

abbrev pub decreases-make::copy_object : goal.decreases-make::copy_object
decreases-make::copy_object l = 3 * object_nodes (seen_object l.object) + 2

abbrev pub decreases-make::copy_places : goal.decreases-make::copy_places
decreases-make::copy_places l = 3 * places_nodes (places_view l.places.now) + 1

abbrev pub decreases-make::copy_fields : goal.decreases-make::copy_fields
decreases-make::copy_fields l = 3 * fields_nodes (fields_view l.fields.now) + 1

abbrev pub decreases-make::copy_rest : goal.decreases-make::copy_rest
decreases-make::copy_rest l = 3 * rest_nodes (part_rest l.rest) + 1
