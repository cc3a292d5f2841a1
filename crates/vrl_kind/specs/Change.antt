-- Kinds with other arrays, with other objects, or with a change of what may be absent.
use Rattle.std.specs.Prelude.{false, ◌||◌, ◌&&◌, not, [], ◌∷◌}
use Rattle.vrl_value.specs.declared.value.Tag.TheVariants as tag
use Rattle.vrl_kind.specs.KindTree.{KindTree, kind, list_part, object_part, RestTree, Places, KnownFields}
use Rattle.vrl_kind.specs.Sets.{Sets}
use Rattle.vrl_kind.specs.Tags.{same_tag}
use Rattle.vrl_kind.specs.declared.scalars.Scalars.{Scalars}

-- null where absent was allowed at the root, and absent no more
abbrev pub null_for_absent : Sets → Sets
null_for_absent A [] t = (A [] t && not (same_tag t tag.Absent)) || (A [] tag.Absent && same_tag t tag.Null)
null_for_absent A (s ∷ p) t = A (s ∷ p) t

-- the same of scalars
abbrev pub scalars_filled : Scalars → Scalars
scalars_filled s = record s { null = s.null || s.absent; absent = false }

-- the kind with these arrays in place of its own, in any form
abbrev pub with_list : KindTree → Places → RestTree → KindTree
with_list (kind s l o) ps r = kind s (list_part ps r) o

-- the kind with these objects in place of its own, in any form
abbrev pub with_object : KindTree → KnownFields → RestTree → KindTree
with_object (kind s l o) fs r = kind s l (object_part fs r)
