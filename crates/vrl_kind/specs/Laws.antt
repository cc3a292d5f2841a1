-- Laws of kinds.
use Rattle.std.specs.Prelude.{◌≡◌}
use Rattle.vrl_value.specs.Tree.{Tree}
use Rattle.vrl_kind.specs.KindTree.{KindTree}
use Rattle.vrl_kind.specs.Canonical.{IsCanonical, any_kind}
use Rattle.vrl_kind.specs.Cut.{IsCut}
use Rattle.vrl_kind.specs.Kinds.{Inhabits, IsWithin, SameTags}

-- two kinds of the one form that allow the same at every path are one tree
abbrev pub EqualTagsAreOneKind : Type 0
EqualTagsAreOneKind = (K L : KindTree) → IsCanonical K → IsCanonical L → SameTags K L → K ≡ L

-- a kind is within what it is cut to
abbrev pub CutsAreWider : Type 0
CutsAreWider = (K M : KindTree) → IsCut K M → IsWithin K M

-- a value of a kind is of each that the kind is within
abbrev pub WiderKindsHoldMore : Type 0
WiderKindsHoldMore = (value : Tree) (K L : KindTree) → IsWithin K L → Inhabits value K → Inhabits value L

-- every value is of the kind of all
abbrev pub AnyHoldsAll : Type 0
AnyHoldsAll = (value : Tree) → Inhabits value any_kind
