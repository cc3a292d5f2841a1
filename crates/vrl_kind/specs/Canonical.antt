-- The one form in which kinds are kept: two trees of this form that allow the same tags at every
-- path are one tree.
use Rattle.std.specs.Prelude.{Bool, true, false, ◌≡◌, ◌≢◌, ℕ, zero, suc, List, ⊤}
use Rattle.std.specs.Ordering.{nat_cmp, match_ordering}
use Rattle.std.specs.Cmp.Lexicographic.{slice_cmp}
use Rattle.std.specs.declared.cmp.Ordering.TheVariants.{Less}
use Rattle.vrl_kind.specs.KindTree.{KindTree, kind, ListTree, no_list, list_part, ObjectTree, no_object, object_part, RestTree, nothing, json_rest, any_rest, exact, Places, no_places, known_place, KnownFields, no_fields, known_field}
use Rattle.vrl_kind.specs.declared.scalars.Scalars.{Scalars}

abbrev pub no_scalars : Scalars
no_scalars = record {
  string = false;
  integer = false;
  boolean = false;
  null = false;
  timestamp = false;
  regex = false;
  absent = false;
}

-- the scalars of JSON
abbrev pub json_scalars : Scalars
json_scalars = record {
  string = true;
  integer = true;
  boolean = true;
  null = true;
  timestamp = false;
  regex = false;
  absent = false;
}

abbrev pub all_scalars : Scalars
all_scalars = record {
  string = true;
  integer = true;
  boolean = true;
  null = true;
  timestamp = true;
  regex = true;
  absent = false;
}

-- no value
abbrev pub never_kind : KindTree
never_kind = kind no_scalars no_list no_object

-- what JSON can hold
abbrev pub json_kind : KindTree
json_kind = kind json_scalars (list_part no_places json_rest) (object_part no_fields json_rest)

-- every value
abbrev pub any_kind : KindTree
any_kind = kind all_scalars (list_part no_places any_rest) (object_part no_fields any_rest)

-- every array, or none
abbrev pub list_if : Bool → ListTree
list_if true = list_part no_places any_rest
list_if false = no_list

-- every object, or none
abbrev pub object_if : Bool → ObjectTree
object_if true = object_part no_fields any_rest
object_if false = no_object

-- the kind may be absent
abbrev pub allows_absent : KindTree → Bool
allows_absent (kind s l o) = s.absent

abbrev pub scalars_of : KindTree → Scalars
scalars_of (kind s l o) = s

abbrev pub list_tree : KindTree → ListTree
list_tree (kind s l o) = l

abbrev pub object_tree : KindTree → ObjectTree
object_tree (kind s l o) = o

-- the kind with absent, or without it
abbrev pub with_absent : Bool → KindTree → KindTree
with_absent b (kind s l o) = kind (record s { absent = b }) l o

-- the rest's own kind, but for absent
abbrev pub bare_rest : RestTree → KindTree
bare_rest nothing = never_kind
bare_rest json_rest = json_kind
bare_rest any_rest = any_kind
bare_rest (exact k) = k

-- the kind of what stands where nothing is known by itself
abbrev pub rest_kind : RestTree → KindTree
rest_kind r = with_absent true (bare_rest r)

-- the kind of a place, or K where it isn't known
abbrev pub place_or : Places → KindTree → ℕ → KindTree
place_or no_places K i = K
place_or (known_place k ps) K zero = k
place_or (known_place k ps) K (suc i) = place_or ps K i

-- the kind of a field, or K where it isn't known
abbrev pub field_or : KnownFields → KindTree → List ℕ → KindTree
field_or no_fields K n = K
field_or (known_field m k fs) K n = match_ordering (slice_cmp nat_cmp n m) (field_or fs K n) k (field_or fs K n)

-- the name is before each of the fields', in the order of bytes
abbrev pub IsBeforeFields : List ℕ → KnownFields → Type 0
IsBeforeFields n no_fields = ⊤
IsBeforeFields n (known_field m k fs) = (slice_cmp nat_cmp n m ≡ Less) × IsBeforeFields n fs

-- the last known place isn't the kind K
abbrev pub LastIsNot : KindTree → Places → Type 0
LastIsNot K no_places = ⊤
LastIsNot K (known_place k no_places) = k ≢ K
LastIsNot K (known_place k (known_place l ps)) = LastIsNot K (known_place l ps)

-- no known field is the kind K
abbrev pub NoFieldIs : KindTree → KnownFields → Type 0
NoFieldIs K no_fields = ⊤
NoFieldIs K (known_field m k fs) = (k ≢ K) × NoFieldIs K fs

-- the kind of an exact rest: it doesn't allow absent, and no other rest says the same
pub record IsExact (K : KindTree) : Type 0 where
  pub not_absent : allows_absent K ≡ false
  pub not_never : K ≢ never_kind
  pub not_json : K ≢ json_kind
  pub not_any : K ≢ any_kind

-- at each level the last known place, and each known field, says more than the rest does; the
-- fields stand in the order of their names' bytes, each name once; and an exact rest is none of the
-- others
abbrev mutual
  pub IsCanonical : KindTree → Type 0
  IsCanonical (kind s l o) = ListIsCanonical l × ObjectIsCanonical o

  pub ListIsCanonical : ListTree → Type 0
  ListIsCanonical no_list = ⊤
  ListIsCanonical (list_part ps r) = PlacesAreCanonical ps × RestIsCanonical r × LastIsNot (rest_kind r) ps

  pub ObjectIsCanonical : ObjectTree → Type 0
  ObjectIsCanonical no_object = ⊤
  ObjectIsCanonical (object_part fs r) = FieldsAreCanonical fs × RestIsCanonical r × NoFieldIs (rest_kind r) fs

  pub PlacesAreCanonical : Places → Type 0
  PlacesAreCanonical no_places = ⊤
  PlacesAreCanonical (known_place k ps) = IsCanonical k × PlacesAreCanonical ps

  pub FieldsAreCanonical : KnownFields → Type 0
  FieldsAreCanonical no_fields = ⊤
  FieldsAreCanonical (known_field n k fs) = IsBeforeFields n fs × IsCanonical k × FieldsAreCanonical fs

  pub RestIsCanonical : RestTree → Type 0
  RestIsCanonical nothing = ⊤
  RestIsCanonical json_rest = ⊤
  RestIsCanonical any_rest = ⊤
  RestIsCanonical (exact k) = IsCanonical k × IsExact k
