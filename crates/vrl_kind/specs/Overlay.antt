-- Objects with the fields of others put over their own.
use Rattle.std.specs.Prelude.{◌||◌, ◌&&◌, not, [], ◌∷◌}
use Rattle.vrl_value.specs.Look.{field, place}
use Rattle.vrl_value.specs.declared.value.Tag.TheVariants as tag
use Rattle.vrl_kind.specs.KindTree.{KindTree}
use Rattle.vrl_kind.specs.Kinds.{is_absence, tags_at}
use Rattle.vrl_kind.specs.Sets.{Sets}
use Rattle.vrl_kind.specs.Tags.{only, never}

-- the upper sets, or where these may be absent, the lower ones beside them
abbrev pub over_at : Sets → Sets → Sets
over_at A B p t = (B p t && not (is_absence p t)) || (B [] tag.Absent && A p t)

-- objects alone, field by field
abbrev pub overlaid_at : KindTree → KindTree → Sets
overlaid_at K L [] = only tag.Object
overlaid_at K L (place i ∷ p) = never
overlaid_at K L (field n ∷ p) = over_at (λ q. tags_at K (field n ∷ q)) (λ q. tags_at L (field n ∷ q)) p
