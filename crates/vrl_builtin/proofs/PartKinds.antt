-- Kinds cut down to their arrays, and to their objects, and the kinds of the parts.
use Rattle.std.proofs.Common.{◌≡◌, ℕ, Bool, true, false, List, [], ◌∷◌, Option, Some, None, IsTrue, refl, sym, ◌∙◌}
use Rattle.std.proofs.Math.Bool.{and-false, and-true}
use Rattle.vrl_value.specs.Look.{Step, field, place}
use Rattle.vrl_value.specs.Tree.{Tree, Items, Members, array, object, IsOrdered}
use Rattle.vrl_value.specs.declared.value.Tag.{Tag}
use Rattle.vrl_value.specs.declared.value.Tag.TheVariants as tag
use Rattle.vrl_kind.specs.Canonical.{never_kind}
use Rattle.vrl_kind.specs.KindTree.{KindTree, kind}
use Rattle.vrl_kind.specs.Kinds.{has_list, has_object, list_at, object_at, tags_at, Inhabits, IsParts, SameTags}
use Rattle.vrl_kind.specs.PartSets.{parts_at}
use Rattle.vrl_kind.specs.Sets.{SameSets}
use Rattle.vrl_kind.proofs.SomePart.{parts_are_computed, parts_are_told}
use Rattle.vrl_builtin.specs.CutDown.{cut_to, given_cut_to}
use Rattle.vrl_builtin.specs.Law.{IsOfGiven}
use Rattle.vrl_builtin.specs.PartKinds.{array_parts_at, arrays_alone, object_parts_at, objects_alone}
use Rattle.vrl_builtin.specs.Rows.{argument_at}
use Rattle.vrl_builtin.specs.TagSets.{arrays, objects}
use Rattle.vrl_builtin.proofs.Containers.{items_are_parts, members_are_parts, EachItem, EachMember, IsLawfulPart}

cut_to_arrays : (K : KindTree) → SameSets (cut_to arrays K) (tags_at (arrays_alone K))
cut_to_arrays (kind s l o) [] tag.Text = and-false s.string
cut_to_arrays (kind s l o) [] tag.Int = and-false s.integer
cut_to_arrays (kind s l o) [] tag.Bool = and-false s.boolean
cut_to_arrays (kind s l o) [] tag.Null = and-false s.null
cut_to_arrays (kind s l o) [] tag.Time = and-false s.timestamp
cut_to_arrays (kind s l o) [] tag.Pattern = and-false s.regex
cut_to_arrays (kind s l o) [] tag.List = and-true (has_list l)
cut_to_arrays (kind s l o) [] tag.Object = and-false (has_object o)
cut_to_arrays (kind s l o) [] tag.Absent = and-false s.absent
cut_to_arrays (kind s l o) (place i ∷ p) t = and-true (list_at l i p t)
cut_to_arrays (kind s l o) (field n ∷ p) t = and-false (object_at o n p t)

cut_to_objects : (K : KindTree) → SameSets (cut_to objects K) (tags_at (objects_alone K))
cut_to_objects (kind s l o) [] tag.Text = and-false s.string
cut_to_objects (kind s l o) [] tag.Int = and-false s.integer
cut_to_objects (kind s l o) [] tag.Bool = and-false s.boolean
cut_to_objects (kind s l o) [] tag.Null = and-false s.null
cut_to_objects (kind s l o) [] tag.Time = and-false s.timestamp
cut_to_objects (kind s l o) [] tag.Pattern = and-false s.regex
cut_to_objects (kind s l o) [] tag.List = and-false (has_list l)
cut_to_objects (kind s l o) [] tag.Object = and-true (has_object o)
cut_to_objects (kind s l o) [] tag.Absent = and-false s.absent
cut_to_objects (kind s l o) (place i ∷ p) t = and-false (list_at l i p t)
cut_to_objects (kind s l o) (field n ∷ p) t = and-true (object_at o n p t)

one_test : (a b : Bool) → (IsTrue a → IsTrue b) → (IsTrue b → IsTrue a) → a ≡ b
one_test true b to from = sym (to refl)
one_test false true to from = from refl
one_test false false to from = refl

-- kinds with the same tags have the same parts
same_parts : (K L : KindTree) → SameTags K L → SameSets (parts_at K) (parts_at L)
same_parts K L same p t =
    one_test (parts_at K p t) (parts_at L p t)
    (λ is. let told = (parts_are_told K p t).0 is in (parts_are_told L p t).1 ((told.0.0, sym (same (told.0.0 ∷ p) t) ∙ told.0.1), told.1))
    (λ is. let told = (parts_are_told L p t).0 is in (parts_are_told K p t).1 ((told.0.0, same (told.0.0 ∷ p) t ∙ told.0.1), told.1))

none_at : (p : List Step) (t : Tag) → false ≡ tags_at never_kind p t
none_at [] tag.Text = refl
none_at [] tag.Int = refl
none_at [] tag.Bool = refl
none_at [] tag.Null = refl
none_at [] tag.Time = refl
none_at [] tag.Pattern = refl
none_at [] tag.List = refl
none_at [] tag.Object = refl
none_at [] tag.Absent = refl
none_at (place i ∷ p) t = refl
none_at (field n ∷ p) t = refl

parts_of_cut : (K L M : KindTree) → SameTags L K → IsParts L M → SameSets (tags_at M) (parts_at K)
parts_of_cut K L M cut parts p t = (parts_are_computed L M).0 parts p t ∙ same_parts L K cut p t

-- the parts of what is given, cut down to arrays
pub array_parts_told : (K : Option KindTree) (L M : KindTree) → SameSets (tags_at L) (given_cut_to arrays K) → IsParts L M → SameSets (tags_at M) (array_parts_at K)
array_parts_told None L M cut parts p t = parts_of_cut never_kind L M (λ q u. cut q u ∙ none_at q u) parts p t
array_parts_told (Some K) L M cut parts p t = parts_of_cut (arrays_alone K) L M (λ q u. cut q u ∙ cut_to_arrays K q u) parts p t

-- and to objects
pub object_parts_told : (K : Option KindTree) (L M : KindTree) → SameSets (tags_at L) (given_cut_to objects K) → IsParts L M → SameSets (tags_at M) (object_parts_at K)
object_parts_told None L M cut parts p t = parts_of_cut never_kind L M (λ q u. cut q u ∙ none_at q u) parts p t
object_parts_told (Some K) L M cut parts p t = parts_of_cut (objects_alone K) L M (λ q u. cut q u ∙ cut_to_objects K q u) parts p t

-- an array of a kind is one of its arrays alone
alone_array : (ts : Items) (K : KindTree) → Inhabits (array ts) K → Inhabits (array ts) (arrays_alone K)
alone_array ts (kind s l o) inhabits [] = inhabits []
alone_array ts (kind s l o) inhabits (place i ∷ p) = inhabits (place i ∷ p)
alone_array ts (kind s l o) inhabits (field n ∷ p) = tt

-- an object of a kind is one of its objects alone
alone_object : (ms : Members) (K : KindTree) → Inhabits (object ms) K → Inhabits (object ms) (objects_alone K)
alone_object ms (kind s l o) inhabits [] = inhabits []
alone_object ms (kind s l o) inhabits (field n ∷ p) = inhabits (field n ∷ p)
alone_object ms (kind s l o) inhabits (place i ∷ p) = tt

-- the items of an array that is given
pub given_items : (K : Option KindTree) (at : ℕ) (ts : Items) (arguments : List (Option Tree)) → argument_at at arguments ≡ Some (array ts) → IsOfGiven K (Some (array ts)) → IsOrdered (array ts) →
    EachItem (IsLawfulPart (array_parts_at K) arguments) ts
given_items None at ts arguments is of ordered = absurd of
given_items (Some K) at ts arguments is of ordered = items_are_parts (arrays_alone K) at ts arguments is (alone_array ts K of) ordered

-- the values in an object that is given
pub given_members : (K : Option KindTree) (at : ℕ) (ms : Members) (arguments : List (Option Tree)) → argument_at at arguments ≡ Some (object ms) → IsOfGiven K (Some (object ms)) → IsOrdered (object ms) →
    EachMember (IsLawfulPart (object_parts_at K) arguments) ms
given_members None at ms arguments is of ordered = absurd of
given_members (Some K) at ms arguments is of ordered = members_are_parts (objects_alone K) at ms arguments is (alone_object ms K of) ordered
