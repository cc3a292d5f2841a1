-- What the parts of a kind's arrays may be, and those of its objects.
use Rattle.std.specs.Prelude.{Bool, false, ◌&&◌, not, [], Option, Some, None}
use Rattle.std.specs.List.{list_any}
use Rattle.vrl_kind.specs.Canonical.{no_scalars}
use Rattle.vrl_kind.specs.KindTree.{KindTree, kind, no_list, no_object}
use Rattle.vrl_kind.specs.PartSets.{parts_at}
use Rattle.vrl_kind.specs.Sets.{Sets}
use Rattle.vrl_kind.specs.Tags.{all_tags}
use Rattle.vrl_builtin.specs.TagSets.{allows}
use Rattle.vrl_builtin.specs.declared.tags.Tags.{Tags}

-- the kind cut down to its arrays
abbrev pub arrays_alone : KindTree → KindTree
arrays_alone (kind s l o) = kind no_scalars l no_object

-- the kind cut down to its objects
abbrev pub objects_alone : KindTree → KindTree
objects_alone (kind s l o) = kind no_scalars no_list o

-- the parts of the arrays that are given
abbrev pub array_parts_at : Option KindTree → Sets
array_parts_at None p t = false
array_parts_at (Some K) p t = parts_at (arrays_alone K) p t

-- the parts of the objects that are given
abbrev pub object_parts_at : Option KindTree → Sets
object_parts_at None p t = false
object_parts_at (Some K) p t = parts_at (objects_alone K) p t

-- whether a part of an array that is given may have a tag outside the set
unfoldable pub part_allows_other : Tags → Option KindTree → Bool
part_allows_other T K = list_any (λ t. array_parts_at K [] t && not (allows T t)) all_tags
