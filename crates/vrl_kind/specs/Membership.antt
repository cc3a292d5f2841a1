-- When the parts of a value are of the kinds that a kind knows of them.
use Rattle.std.specs.Prelude.{◌↔◌, ℕ, List, Option, Some, None, unwrap_or, IsTrue}
use Rattle.vrl_value.specs.Look.{item_at}
use Rattle.vrl_value.specs.Tree.{Tree, Items, Members, member, find, IsBefore}
use Rattle.vrl_kind.specs.KindTree.{KindTree, RestTree, Places, KnownFields}
use Rattle.vrl_kind.specs.Canonical.{allows_absent, rest_kind, place_or, field_or}
use Rattle.vrl_kind.specs.Kinds.{Inhabits}
use Rattle.vrl_kind.specs.Merge.{FieldsAreSorted}

-- a part that is there is of the kind, and one that isn't there may be absent
abbrev pub PartInhabits : Option Tree → KindTree → Type 0
PartInhabits None K = IsTrue (allows_absent K)
PartInhabits (Some t) K = Inhabits t K

-- at each place
abbrev pub ItemsInhabit : Items → Places → RestTree → Type 0
ItemsInhabit ts ps r = (i : ℕ) → PartInhabits (item_at i ts) (place_or ps (rest_kind r) i)

-- at each name
abbrev pub MembersInhabit : Members → KnownFields → RestTree → Type 0
MembersInhabit ms fs r = (n : List ℕ) → PartInhabits (find n ms) (field_or fs (rest_kind r) n)

-- members of which the first has this name are of the kinds of the fields where that one is of the
-- kind that was found, and those behind it are of the kinds of the fields that are left
pub record IsFound (n : List ℕ) (fs : KnownFields) (k : Option KindTree) (gs : KnownFields) : Type 0 where
  pub sorted : FieldsAreSorted gs
  pub same : (t : Tree) (ms : Members) (r : RestTree) → IsBefore n ms
      → MembersInhabit (member n t ms) fs r ↔ (Inhabits t (unwrap_or k (rest_kind r)) × MembersInhabit ms gs r)

-- no members of which the first has this name are of the kinds of the fields
abbrev pub IsLacking : List ℕ → KnownFields → Type 0
IsLacking n fs = (t : Tree) (ms : Members) (r : RestTree) → IsBefore n ms → MembersInhabit (member n t ms) fs r → ⊥
