-- Kinds of arrays and objects whose parts are of one kind, and of what is of either of two.
use Rattle.std.specs.Prelude.{false, ◌||◌, [], ◌∷◌}
use Rattle.vrl_value.specs.Look.{field, place}
use Rattle.vrl_value.specs.declared.value.Tag.TheVariants as tag
use Rattle.vrl_kind.specs.Kinds.{or_absent}
use Rattle.vrl_kind.specs.Sets.{Sets}
use Rattle.vrl_kind.specs.Tags.{same_tag}

-- the arrays whose parts are of these sets
abbrev pub array_of : Sets → Sets
array_of A [] t = same_tag tag.List t
array_of A (place i ∷ p) t = or_absent p (A p) t
array_of A (field n ∷ p) t = false

-- the objects whose parts are of these sets
abbrev pub object_of : Sets → Sets
object_of A [] t = same_tag tag.Object t
object_of A (field n ∷ p) t = or_absent p (A p) t
object_of A (place i ∷ p) t = false

-- what either allows
abbrev pub either : Sets → Sets → Sets
either A B p t = A p t || B p t
