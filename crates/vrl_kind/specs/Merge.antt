-- Two lists of fields in order, taken together name by name.
use Rattle.std.specs.Prelude.{◌≡◌, ℕ, List, ◌||◌, IsTrue, Option, Some, None, ⊤, is_some}
use Rattle.vrl_kind.specs.KindTree.{KindTree, KnownFields, no_fields, known_field}
use Rattle.vrl_kind.specs.Canonical.{IsBeforeFields}

-- each name is before those behind it
abbrev pub FieldsAreSorted : KnownFields → Type 0
FieldsAreSorted no_fields = ⊤
FieldsAreSorted (known_field n k fs) = IsBeforeFields n fs × FieldsAreSorted fs

-- the fields with this one in front, if there is one
abbrev pub with_field : List ℕ → Option KindTree → KnownFields → KnownFields
with_field n None fs = fs
with_field n (Some k) fs = known_field n k fs

-- one turn of the merge: the fields of this name stood in front, of one list or of both, and no
-- later field has it
pub record IsTurn (n : List ℕ) (k l : Option KindTree) (fs gs fs' gs' : KnownFields) : Type 0 where
  pub some : IsTrue (is_some k || is_some l)
  pub left : fs ≡ with_field n k fs'
  pub right : gs ≡ with_field n l gs'
  pub before_left : FieldsAreSorted fs → FieldsAreSorted gs → IsBeforeFields n fs'
  pub before_right : FieldsAreSorted fs → FieldsAreSorted gs → IsBeforeFields n gs'

-- nothing is left
pub record IsEnd (fs gs : KnownFields) : Type 0 where
  pub left : fs ≡ no_fields
  pub right : gs ≡ no_fields
