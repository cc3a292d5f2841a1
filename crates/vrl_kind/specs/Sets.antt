-- Sets of tags at each path.
use Rattle.std.specs.Prelude.{◌≡◌, List, IsTrue, IfSome}
use Rattle.vrl_value.specs.Look.{Step, raw_at, tag_found}
use Rattle.vrl_value.specs.Tree.{Tree}
use Rattle.vrl_value.specs.declared.value.Tag.{Tag}
use Rattle.vrl_kind.specs.Tags.{Tags}

-- the tags at each path
abbrev pub Sets : Type 0
Sets = List Step → Tags

-- both have the same tags at each path
abbrev pub SameSets : Sets → Sets → Type 0
SameSets A B = (p : List Step) (t : Tag) → A p t ≡ B p t

-- at each path where the value has something, or lacks a part that could be there, that tag is in
-- the sets
abbrev pub IsAllowed : Tree → Sets → Type 0
IsAllowed v A = (p : List Step) → IfSome (tag_found (raw_at v p)) (λ t. IsTrue (A p t))
