-- What the kind of a value knows of its parts.
use Rattle.std.specs.Prelude.{◌≡◌, ℕ, List, ◌∷◌}
use Rattle.vrl_value.specs.Look.{Step, field, place}
use Rattle.vrl_value.specs.Tag.{tag_of}
use Rattle.vrl_value.specs.Tree.{Tree}
use Rattle.vrl_value.specs.declared.value.Tag.TheVariants as tag
use Rattle.vrl_kind.specs.KindTree.{KindTree, ListTree, ObjectTree}
use Rattle.vrl_kind.specs.Canonical.{IsCanonical, ListIsCanonical, ObjectIsCanonical}
use Rattle.vrl_kind.specs.Kinds.{tags_at, list_at, object_at, has_list, has_object, found_at}
use Rattle.vrl_kind.specs.Tags.{same_tag}

-- the kind has at each path the tag that stands there, alone
pub record IsKindOf (k : KindTree) (v : Tree) : Type 0 where
  pub tags : (p : List Step) → tags_at k p ≡ found_at v p
  pub canonical : IsCanonical k

-- the same of the places, and of the fields
pub record IsListOfValue (l : ListTree) (v : Tree) : Type 0 where
  pub root : has_list l ≡ same_tag (tag_of v) tag.List
  pub tags : (i : ℕ) (p : List Step) → list_at l i p ≡ found_at v (place i ∷ p)
  pub canonical : ListIsCanonical l

pub record IsObjectOfValue (o : ObjectTree) (v : Tree) : Type 0 where
  pub root : has_object o ≡ same_tag (tag_of v) tag.Object
  pub tags : (n : List ℕ) (p : List Step) → object_at o n p ≡ found_at v (field n ∷ p)
  pub canonical : ObjectIsCanonical o
