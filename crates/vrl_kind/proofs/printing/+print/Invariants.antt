use denote.Text.{Utf8}
use denote.Shadow.{shadow}
use Rattle.std.proofs.Common.{◌≡◌, ℕ, ◌+◌, ◌*◌, List, [], ◌++◌, codes, drop, string_bytes}
use Rattle.vrl_kind.specs.Count.{nodes, list_nodes, object_nodes, places_nodes, fields_nodes, rest_nodes}
use Rattle.vrl_kind.specs.Print.{place_words, field_words}
use Rattle.vrl_kind.specs.Separated.{separated_after}
use Rattle.vrl_kind.specs.View.{list_of, object_of, places_view, fields_view, rest_of}
use Rattle.vrl_kind.proofs.printing.+print.Given as goal

abbrev pub invariant-push_places-loop-kind : goal.invariant-push_places-loop-kind
invariant-push_places-loop-kind l = shadow (Utf8 l.before) × ((more : List (List ℕ)) → string_bytes l.text ++ separated_after l.before (codes ", ") (place_words (places_view (drop l.kind-index l.kinds)) more) ≡ string_bytes l.initial.text ++ separated_after [] (codes ", ") (place_words (places_view l.kinds) more))

abbrev pub invariant-push_fields-loop-field : goal.invariant-push_fields-loop-field
invariant-push_fields-loop-field l = shadow (Utf8 l.before) × ((more : List (List ℕ)) → string_bytes l.text ++ separated_after l.before (codes ", ") (field_words (fields_view (drop l.field-index l.fields)) more) ≡ string_bytes l.initial.text ++ separated_after [] (codes ", ") (field_words (fields_view l.fields) more))

abbrev pub decreases-push_kind : goal.decreases-push_kind
decreases-push_kind l = 4 * nodes l.kind.now

abbrev pub decreases-push_rest : goal.decreases-push_rest
decreases-push_rest l = 4 * rest_nodes (rest_of l.rest.now) + 1

abbrev pub decreases-push_places : goal.decreases-push_places
decreases-push_places l = 4 * places_nodes (places_view l.kinds.now) + 1

abbrev pub decreases-push_fields : goal.decreases-push_fields
decreases-push_fields l = 4 * fields_nodes (fields_view l.fields.now) + 1

abbrev pub decreases-push_list : goal.decreases-push_list
decreases-push_list l = 4 * list_nodes (list_of l.list.now) + 2

abbrev pub decreases-push_object : goal.decreases-push_object
decreases-push_object l = 4 * object_nodes (object_of l.object.now) + 2
