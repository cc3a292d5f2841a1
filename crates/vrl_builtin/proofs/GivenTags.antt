-- Arguments by the tags that their parameters allow.
use Rattle.std.specs.Prelude.{◌≡◌, true, false, Option, Some, None, IsTrue, IsSome, IfSome}
use Rattle.std.proofs.Common.{sym}
use Rattle.std.proofs.lemmas.Bool.{true≢false}
use Rattle.vrl_value.specs.Tag.{tag_of}
use Rattle.vrl_value.specs.Tree.{Tree, array, object, Items, Members}
use Rattle.vrl_builtin.specs.TagSets.{allows, arrays, containers, objects}

pub no : {C : Type 0} → false ≡ true → C
no is = absurd (true≢false (sym is))

-- an argument that must be there is
pub some_only : (P : Option Tree → Type 0) (a : Option Tree) → IsSome a → ((v : Tree) → P (Some v)) → P a
some_only P (Some v) there so = so v
some_only P None there so = no there

-- one that must be an array is one
pub arrays_only : (P : Option Tree → Type 0) (a : Option Tree) → IsSome a → IfSome a (λ v. IsTrue (allows arrays (tag_of v))) → ((ts : Items) → P (Some (array ts))) → P a
arrays_only P (Some (array ts)) there allowed so = so ts
arrays_only P None there allowed so = no there
arrays_only P (Some v) there allowed so = no allowed

-- and one that must be an object
pub objects_only : (P : Option Tree → Type 0) (a : Option Tree) → IsSome a → IfSome a (λ v. IsTrue (allows objects (tag_of v))) → ((ms : Members) → P (Some (object ms))) → P a
objects_only P (Some (object ms)) there allowed so = so ms
objects_only P None there allowed so = no there
objects_only P (Some v) there allowed so = no allowed

-- and one that must be either
pub container_only : (P : Option Tree → Type 0) (a : Option Tree) → IsSome a → IfSome a (λ v. IsTrue (allows containers (tag_of v))) → ((v : Tree) → IsTrue (allows containers (tag_of v)) → P (Some v)) → P a
container_only P (Some v) there allowed so = so v allowed
container_only P None there allowed so = no there
