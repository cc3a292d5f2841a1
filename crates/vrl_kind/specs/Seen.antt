-- Kinds as the walks read them.
use Rattle.std.specs.Prelude.{Bool, true, false, ℕ, ◌+◌, Option, Some, None}
use Rattle.vrl_kind.specs.KindTree.{KindTree, ListTree, no_list, list_part, ObjectTree, no_object, object_part, RestTree, nothing, json_rest, any_rest, exact}
use Rattle.vrl_kind.specs.Canonical.{bare_rest, with_absent}
use Rattle.vrl_kind.specs.Count.{nodes, places_nodes, fields_nodes, rest_nodes}
use Rattle.vrl_kind.specs.View.{places_view, fields_view}
use Rattle.vrl_kind.specs.declared.seen.Part.{Part}
use Rattle.vrl_kind.specs.declared.seen.Part.TheVariants as part
use Rattle.vrl_kind.specs.declared.seen.Seen.{Seen}
use Rattle.vrl_kind.specs.declared.seen.SeenList.{SeenList}
use Rattle.vrl_kind.specs.declared.seen.SeenObject.{SeenObject}

abbrev pub part_rest : Part → RestTree
part_rest part.Nothing = nothing
part_rest part.Json = json_rest
part_rest part.Any = any_rest
part_rest (part.Exact held) = exact held.now

abbrev pub seen_tree : Seen → KindTree
seen_tree s = with_absent s.absent (bare_rest (part_rest s.part))

abbrev pub seen_list : Option SeenList → ListTree
seen_list None = no_list
seen_list (Some l) = list_part (places_view l.places.now) (part_rest l.rest)

abbrev pub seen_object : Option SeenObject → ObjectTree
seen_object None = no_object
seen_object (Some o) = object_part (fields_view o.fields.now) (part_rest o.rest)

-- how much a walk has before it: the nodes of a kind in memory; what a rest stands for costs
-- nothing
abbrev pub weight : Seen → ℕ
weight s = rest_nodes (part_rest s.part)

abbrev pub list_weight : SeenList → ℕ
list_weight l = places_nodes (places_view l.places.now) + rest_nodes (part_rest l.rest)

abbrev pub object_weight : SeenObject → ℕ
object_weight o = fields_nodes (fields_view o.fields.now) + rest_nodes (part_rest o.rest)

abbrev pub option_nodes : Option KindTree → ℕ
option_nodes None = 0
option_nodes (Some k) = nodes k

-- the first rest allows all that the second does, as far as that shows without a walk
abbrev pub covers : RestTree → RestTree → Bool
covers any_rest q = true
covers nothing nothing = true
covers json_rest nothing = true
covers (exact k) nothing = true
covers json_rest json_rest = true
covers r q = false

-- either is a kind in memory
abbrev pub some_exact : RestTree → RestTree → Bool
some_exact (exact k) q = true
some_exact r (exact l) = true
some_exact r q = false
