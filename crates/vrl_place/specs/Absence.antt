-- When a value of a kind may have nothing at a path.
use Rattle.std.specs.Prelude.{Bool, true, ◌||◌, pos, negsuc, List, [], ◌∷◌}
use Rattle.vrl_value.specs.Look.{field, place}
use Rattle.vrl_value.specs.declared.value.Tag.TheVariants as tag
use Rattle.vrl_path.specs.declared.path.Step.{Step}
use Rattle.vrl_path.specs.declared.path.Step.TheVariants.{Field, Place}
use Rattle.vrl_kind.specs.Sets.{Sets}
use Rattle.vrl_place.specs.Sets.{part, has_other}

-- a negative place is told by no kind, so it may always be absent
abbrev pub may_be_absent : Sets → List Step → Bool
may_be_absent A [] = A [] tag.Absent
may_be_absent A (Field k ∷ r) = has_other (A []) tag.Object || may_be_absent (part A (field k)) r
may_be_absent A (Place (pos i) ∷ r) = has_other (A []) tag.List || may_be_absent (part A (place i)) r
may_be_absent A (Place (negsuc i) ∷ r) = true
