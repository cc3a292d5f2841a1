-- What arrays, and what objects, of one kind allow beside those of another.
use Rattle.std.specs.Prelude.{◌||◌, ◌≡◌, ◌⊎◌, ℕ, List, IsTrue}
use Rattle.vrl_value.specs.Look.{Step}
use Rattle.vrl_value.specs.declared.value.Tag.{Tag}
use Rattle.vrl_kind.specs.KindTree.{KindTree, ListTree, ObjectTree, KnownFields}
use Rattle.vrl_kind.specs.Canonical.{field_or, FieldsAreCanonical, NoFieldIs}
use Rattle.vrl_kind.specs.Kinds.{tags_at, IsWithin, has_list, has_object, list_at, object_at}
use Rattle.vrl_kind.specs.Sets.{Sets}
use Rattle.vrl_kind.specs.Tags.{Tags}
use Rattle.vrl_kind.specs.Tags as tags

pub record ListsAreWithin (l m : ListTree) : Type 0 where
  pub outer : IsTrue (has_list l) → IsTrue (has_list m)
  pub inner : (i : ℕ) (p : List Step) (t : Tag) → IsTrue (list_at l i p t) → IsTrue (list_at m i p t)

pub record ObjectsAreWithin (o q : ObjectTree) : Type 0 where
  pub outer : IsTrue (has_object o) → IsTrue (has_object q)
  pub inner : (n : List ℕ) (p : List Step) (t : Tag) → IsTrue (object_at o n p t) → IsTrue (object_at q n p t)

pub record IsListJoin (l m j : ListTree) : Type 0 where
  pub outer : has_list j ≡ (has_list l || has_list m)
  pub inner : (i : ℕ) (p : List Step) (t : Tag) → list_at j i p t ≡ (list_at l i p t || list_at m i p t)

pub record IsObjectJoin (o q j : ObjectTree) : Type 0 where
  pub outer : has_object j ≡ (has_object o || has_object q)
  pub inner : (n : List ℕ) (p : List Step) (t : Tag) → object_at j n p t ≡ (object_at o n p t || object_at q n p t)

-- the sets of either
abbrev pub either_at : Sets → Sets → Sets
either_at A B p t = A p t || B p t

-- M allows at each path what C makes of the sets of both
abbrev pub IsCombined : (Sets → Sets → Sets) → KindTree → KindTree → KindTree → Type 0
IsCombined C K L M = (p : List Step) (t : Tag) → tags_at M p t ≡ C (tags_at K) (tags_at L) p t

-- the fields of two objects, combined: at each name, where K, L and M stand for what isn't known,
-- they allow what C makes of both sides
pub record AreCombined (C : Sets → Sets → Sets) (K L M : KindTree) (fs gs ds : KnownFields) : Type 0 where
  pub at : (n : List ℕ) (p : List Step) (t : Tag)
      → tags_at (field_or ds M n) p t ≡ C (tags_at (field_or fs K n)) (tags_at (field_or gs L n)) p t
  pub canonical : FieldsAreCanonical ds
  pub known : NoFieldIs M ds

-- M allows what F does and what stands at any of these parts, and nothing else
pub record AddsParts {I : Type 0} (part_at : I → List Step → Tags) (F M : KindTree) : Type 0 where
  pub first : IsWithin F M
  pub each : (i : I) (p : List Step) → tags.IsWithin (part_at i p) (tags_at M p)
  pub some : (p : List Step) (t : Tag) → IsTrue (tags_at M p t) → IsTrue (tags_at F p t)
      ⊎ ((i : I) × IsTrue (part_at i p t))
