-- A kind that is too large keeps its outer tags alone.
use Rattle.std.specs.Prelude.{ℕ, ◌≤◌, ◌<◌, ◌≡◌}
use Rattle.vrl_kind.specs.KindTree.{KindTree, kind, ListTree, no_list, list_part, ObjectTree, no_object, object_part, any_rest, no_places, no_fields}
use Rattle.vrl_kind.specs.Count.{nodes, levels}

abbrev pub flat_list : ListTree → ListTree
flat_list no_list = no_list
flat_list (list_part ps r) = list_part no_places any_rest

abbrev pub flat_object : ObjectTree → ObjectTree
flat_object no_object = no_object
flat_object (object_part fs r) = object_part no_fields any_rest

-- the outer tags, and every value inside
abbrev pub flat : KindTree → KindTree
flat (kind s l o) = kind s (flat_list l) (flat_object o)

abbrev pub node_limit : ℕ
node_limit = 1000

abbrev pub level_limit : ℕ
level_limit = 32

-- the kind within both limits stays as it is; one beyond either is flat
pub record IsCut (K M : KindTree) : Type 0 where
  pub kept : nodes K ≤ node_limit → levels K ≤ level_limit → M ≡ K
  pub too_many : node_limit < nodes K → M ≡ flat K
  pub too_deep : level_limit < levels K → M ≡ flat K
