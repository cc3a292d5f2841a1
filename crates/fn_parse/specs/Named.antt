-- Kinds of objects with known fields and no others.
use Rattle.std.specs.Prelude.{false, ℕ, List, [], ◌∷◌}
use Rattle.std.specs.Cmp.Lexicographic.{slice_cmp}
use Rattle.std.specs.Ordering.{match_ordering, nat_cmp}
use Rattle.vrl_value.specs.Look.{Step, field, place}
use Rattle.vrl_value.specs.declared.value.Tag.TheVariants as tag
use Rattle.vrl_kind.specs.Kinds.{never_at, or_absent}
use Rattle.vrl_kind.specs.Sets.{Sets}
use Rattle.vrl_kind.specs.Tags.{Tags, same_tag}

-- the sets of the field with a name; where none has it, nothing may stand there
abbrev pub named_at : List (List ℕ × Sets) → List ℕ → List Step → Tags
named_at [] n p = or_absent p (never_at p)
named_at (e ∷ es) n p = match_ordering (slice_cmp nat_cmp n e.0) (named_at es n p) (e.1 p) (named_at es n p)

-- the objects with these fields, and no others
abbrev pub object_with : List (List ℕ × Sets) → Sets
object_with es [] t = same_tag tag.Object t
object_with es (field n ∷ p) t = named_at es n p t
object_with es (place i ∷ p) t = false
