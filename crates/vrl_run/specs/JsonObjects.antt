-- Kinds that take each object of JSON.
use Rattle.std.specs.Prelude.{Bool, true, false}
use Rattle.vrl_kind.specs.Canonical.{object_tree}
use Rattle.vrl_kind.specs.KindTree.{KindTree, ObjectTree, object_part, RestTree, json_rest, no_fields}

-- each part that isn't known by itself holds what JSON can
abbrev pub is_json_rest : RestTree → Bool
is_json_rest json_rest = true
is_json_rest r = false

-- and no field is known by itself
abbrev pub are_json_objects : ObjectTree → Bool
are_json_objects (object_part no_fields r) = is_json_rest r
are_json_objects o = false

abbrev pub takes_json_objects : KindTree → Bool
takes_json_objects K = are_json_objects (object_tree K)
