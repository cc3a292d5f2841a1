-- The tree that a kind in memory stands for, from what its fields hold.
use Rattle.std.specs.Prelude.{List, [], ◌∷◌, Option, Some, None}
use Rattle.vrl_kind.specs.KindTree.{KindTree, ListTree, no_list, list_part, ObjectTree, no_object, object_part, RestTree, nothing, json_rest, any_rest, exact, Places, no_places, known_place, KnownFields, no_fields, known_field}
use Rattle.vrl_kind.specs.declared.kind.Rest.{Rest}
use Rattle.vrl_kind.specs.declared.kind.Rest.TheVariants as rest
use Rattle.vrl_kind.specs.declared.kind.Kinds.{Kinds}
use Rattle.vrl_kind.specs.declared.kind.KindFields.{KindFields}
use Rattle.vrl_kind.specs.declared.kind.KindField.{KindField}
use Rattle.vrl_kind.specs.declared.kind.ListPart.{ListPart}
use Rattle.vrl_kind.specs.declared.kind.ObjectPart.{ObjectPart}

abbrev pub places_view : List KindTree → Places
places_view [] = no_places
places_view (k ∷ ks) = known_place k (places_view ks)

abbrev pub fields_view : List KindField → KnownFields
fields_view [] = no_fields
fields_view (f ∷ fs) = known_field f.name f.kind (fields_view fs)

abbrev pub rest_of : Rest → RestTree
rest_of rest.Nothing = nothing
rest_of rest.Json = json_rest
rest_of rest.Any = any_rest
rest_of (rest.Exact held) = exact held.value

abbrev pub places_of : Kinds → Places
places_of ks = places_view ks.kinds.items

abbrev pub fields_of : KindFields → KnownFields
fields_of fs = fields_view fs.fields.items

abbrev pub list_of : Option ListPart → ListTree
list_of None = no_list
list_of (Some part) = list_part (places_of part.places) (rest_of part.rest)

abbrev pub object_of : Option ObjectPart → ObjectTree
object_of None = no_object
object_of (Some part) = object_part (fields_of part.fields) (rest_of part.rest)
