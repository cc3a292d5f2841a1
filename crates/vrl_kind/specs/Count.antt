-- How large a kind is.
use Rattle.std.specs.Prelude.{ℕ, ◌+◌, max}
use Rattle.vrl_kind.specs.KindTree.{KindTree, kind, ListTree, no_list, list_part, ObjectTree, no_object, object_part, RestTree, nothing, json_rest, any_rest, exact, Places, no_places, known_place, KnownFields, no_fields, known_field}

-- the nodes: the kind itself, and those of each known part's kind and of each exact rest's
abbrev mutual
  pub nodes : KindTree → ℕ
  nodes (kind s l o) = list_nodes l + object_nodes o + 1

  pub list_nodes : ListTree → ℕ
  list_nodes no_list = 0
  list_nodes (list_part ps r) = places_nodes ps + rest_nodes r

  pub object_nodes : ObjectTree → ℕ
  object_nodes no_object = 0
  object_nodes (object_part fs r) = fields_nodes fs + rest_nodes r

  pub places_nodes : Places → ℕ
  places_nodes no_places = 0
  places_nodes (known_place k ps) = nodes k + places_nodes ps

  pub fields_nodes : KnownFields → ℕ
  fields_nodes no_fields = 0
  fields_nodes (known_field n k fs) = nodes k + fields_nodes fs

  pub rest_nodes : RestTree → ℕ
  rest_nodes nothing = 0
  rest_nodes json_rest = 0
  rest_nodes any_rest = 0
  rest_nodes (exact k) = nodes k

-- the levels: the steps down to the deepest node. A kind without parts has none
abbrev mutual
  pub levels : KindTree → ℕ
  levels (kind s l o) = max (list_levels l) (object_levels o)

  pub list_levels : ListTree → ℕ
  list_levels no_list = 0
  list_levels (list_part ps r) = max (places_levels ps) (rest_levels r)

  pub object_levels : ObjectTree → ℕ
  object_levels no_object = 0
  object_levels (object_part fs r) = max (fields_levels fs) (rest_levels r)

  pub places_levels : Places → ℕ
  places_levels no_places = 0
  places_levels (known_place k ps) = max (levels k + 1) (places_levels ps)

  pub fields_levels : KnownFields → ℕ
  fields_levels no_fields = 0
  fields_levels (known_field n k fs) = max (levels k + 1) (fields_levels fs)

  pub rest_levels : RestTree → ℕ
  rest_levels nothing = 0
  rest_levels json_rest = 0
  rest_levels any_rest = 0
  rest_levels (exact k) = levels k + 1
