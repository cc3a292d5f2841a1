-- Laws of what stands at the places of a value of a kind.
use Rattle.std.specs.Prelude.{◌≡◌, List, IsSome, None, unwrap_or}
use Rattle.vrl_value.specs.Tree.{Tree, null}
use Rattle.vrl_path.specs.Read.{read_at}
use Rattle.vrl_path.specs.Remove.{IsRemoved, removable_at}
use Rattle.vrl_path.specs.Write.{IsSet}
use Rattle.vrl_path.specs.declared.path.Step.{Step}
use Rattle.vrl_kind.specs.Cut.{IsCut}
use Rattle.vrl_kind.specs.KindTree.{KindTree}
use Rattle.vrl_kind.specs.Kinds.{Inhabits, tags_at}
use Rattle.vrl_kind.specs.Sets.{SameSets, Sets}
use Rattle.vrl_place.specs.Read.{HasJust, allowed, read}
use Rattle.vrl_place.specs.Remove.{IsRemoval}
use Rattle.vrl_place.specs.Write.{IsWrite}

-- what a read finds in a value of the kind K, where it finds null if nothing stands there, is of the kind
-- that the read has
abbrev pub ReadsAreOfTheirKind : Type 0
ReadsAreOfTheirKind = (value : Tree) (path : List Step) (K M : KindTree)
    → HasJust (tags_at M) (read (allowed (tags_at K)) path) → Inhabits value K
    → Inhabits (unwrap_or (read_at value path) null) M

-- and of what that kind is cut to
abbrev pub ReadsAreOfTheirCut : Type 0
ReadsAreOfTheirCut = (value : Tree) (path : List Step) (K M C : KindTree)
    → HasJust (tags_at M) (read (allowed (tags_at K)) path) → IsCut M C → Inhabits value K
    → Inhabits (unwrap_or (read_at value path) null) C

-- a value of the kind K, once a value of the kind N is set at a path, is of the kind that the write has
abbrev pub WritesAreOfTheirKind : Type 0
WritesAreOfTheirKind = (value part set : Tree) (path : List Step) (K N M : KindTree)
    → IsWrite (tags_at K) path (tags_at N) (tags_at M) → Inhabits value K → Inhabits part N
    → IsSet value path part set → Inhabits set M

-- a value of the kind K without what stood at a path, where something stood there, is of the kind that the removal
-- has
abbrev pub RemovalsAreOfTheirKind : Type 0
RemovalsAreOfTheirKind = (value without : Tree) (path : List Step) (K M : KindTree)
    → IsRemoval (tags_at K) path (tags_at M) → Inhabits value K → IsSome (removable_at value path)
    → IsRemoved value path without → Inhabits without M

-- and so is a value in which nothing stood there
abbrev pub NothingRemovedIsOfTheKind : Type 0
NothingRemovedIsOfTheKind = (value : Tree) (path : List Step) (K M : KindTree)
    → IsRemoval (tags_at K) path (tags_at M) → Inhabits value K → removable_at value path ≡ None
    → Inhabits value M

-- a write has one result
abbrev pub WritesAreOneKind : Type 0
WritesAreOneKind = (A N B C : Sets) (path : List Step) → IsWrite A path N B → IsWrite A path N C → SameSets B C

-- and so has a removal
abbrev pub RemovalsAreOneKind : Type 0
RemovalsAreOneKind = (A B C : Sets) (path : List Step) → IsRemoval A path B → IsRemoval A path C → SameSets B C
