-- Whether a tree is of a kind, computed by cases on the tree.
use Rattle.std.specs.Prelude.{Bool, true, false, ◌&&◌, ◌↔◌, IsTrue}
use Rattle.std.specs.List.{list_all}
use Rattle.vrl_value.specs.Tree.{Tree, string, integer, boolean, null, timestamp, regex, array, object, Items, no_items, item, Members, no_members, member}
use Rattle.vrl_kind.specs.KindTree.{KindTree, kind, ListTree, no_list, list_part, ObjectTree, no_object, object_part, any_rest, Places, no_places, known_place, known_field}
use Rattle.vrl_kind.specs.Canonical.{allows_absent, rest_kind, field_or}
use Rattle.vrl_kind.specs.Kinds.{Inhabits}
use Rattle.vrl_kind.specs.PartSets.{names_of}

-- each known place may be absent
abbrev pub may_be_empty : Places → Bool
may_be_empty no_places = true
may_be_empty (known_place k ps) = allows_absent k && may_be_empty ps

abbrev mutual
  pub inhabits_tree : Tree → KindTree → Bool
  inhabits_tree (string x) (kind s l o) = s.string
  inhabits_tree (integer x) (kind s l o) = s.integer
  inhabits_tree (boolean x) (kind s l o) = s.boolean
  inhabits_tree null (kind s l o) = s.null
  inhabits_tree (timestamp x) (kind s l o) = s.timestamp
  inhabits_tree (regex x) (kind s l o) = s.regex
  inhabits_tree (array ts) (kind s l o) = items_inhabit ts l
  inhabits_tree (object ms) (kind s l o) = members_inhabit ms o

  -- the items are of the kinds of the places; where no item is, the place may be absent
  pub items_inhabit : Items → ListTree → Bool
  items_inhabit ts no_list = false
  items_inhabit no_items (list_part ps r) = may_be_empty ps
  items_inhabit (item t ts) (list_part no_places r) =
      inhabits_tree t (rest_kind r) && items_inhabit ts (list_part no_places r)
  items_inhabit (item t ts) (list_part (known_place k ps) r) = inhabits_tree t k && items_inhabit ts (list_part ps r)

  -- the same of members. What stood at a name was looked at, so behind it that name's field may be
  -- anything
  pub members_inhabit : Members → ObjectTree → Bool
  members_inhabit ms no_object = false
  members_inhabit no_members (object_part fs r) =
      list_all (λ n. allows_absent (field_or fs (rest_kind r) n)) (names_of fs)
  members_inhabit (member n t ms) (object_part fs r) =
      inhabits_tree t (field_or fs (rest_kind r) n)
      && members_inhabit ms (object_part (known_field n (rest_kind any_rest) fs) r)

-- ---- law

-- a tree is of a kind where this says so, and only there
abbrev pub InhabitsIsComputed : Type 0
InhabitsIsComputed = (value : Tree) (K : KindTree) → IsTrue (inhabits_tree value K) ↔ Inhabits value K
