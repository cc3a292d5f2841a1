-- What inner functions promise: the parts of a kind in memory, and those of a changed kind. No public
-- function cites these.
use Rattle.std.specs.Prelude.{◌≡◌, ◌<◌, ◌||◌, not, Bool, true, false, ℕ, suc, ℤ, pos, negsuc, Option, Some, None, MatchOption, List, [], ◌∷◌, ◌++◌, length, IsTrue}
use Rattle.std.specs.Cmp.Lexicographic.{slice_cmp}
use Rattle.std.specs.Ordering.{nat_cmp, match_ordering}
use Rattle.vrl_value.specs.Look.{Step, field, place}
use Rattle.vrl_value.specs.declared.value.Tag.{Tag}
use Rattle.vrl_value.specs.declared.value.Tag.TheVariants as tag
use Rattle.vrl_kind.specs.KindTree.{KindTree, Places as KnownPlaces, KnownFields, RestTree, nothing, json_rest, any_rest, exact}
use Rattle.vrl_kind.specs.Canonical.{IsBeforeFields}
use Rattle.vrl_kind.specs.Change.{null_for_absent}
use Rattle.vrl_kind.specs.Fields.{knows_field, AreBefore}
use Rattle.vrl_kind.specs.Kinds.{any_at, json_at, never_at, rest_at, tags_at, places_at, fields_at}
use Rattle.vrl_kind.specs.Make.{named_view}
use Rattle.vrl_kind.specs.Merge.{FieldsAreSorted}
use Rattle.vrl_kind.specs.Sets.{Sets}
use Rattle.vrl_kind.specs.Tags.{Tags, same_tag}
use Rattle.vrl_kind.specs.View.{places_view, fields_view}
use Rattle.vrl_kind.specs.declared.kind.KindField.{KindField}
use Rattle.vrl_place.specs.Sets.{or_absent_if, by_step}
use Rattle.vrl_place.specs.declared.fields.Cut.{Cut}
use Rattle.vrl_place.specs.declared.fields.Fields.{Fields}
use Rattle.vrl_place.specs.declared.places.Places.{Places}
use Rattle.vrl_place.specs.declared.spot.Bare.{Bare}
use Rattle.vrl_place.specs.declared.spot.Bare.TheVariants as bare
use Rattle.vrl_place.specs.declared.spot.Spot.{Spot}

abbrev pub bare_sets : Bare → Sets
bare_sets bare.Nothing = never_at
bare_sets bare.Json = json_at
bare_sets bare.Any = any_at
bare_sets (bare.Exact kind) = tags_at kind.now

abbrev pub spot_sets : Spot → Sets
spot_sets spot = or_absent_if spot.absent (bare_sets spot.bare)

-- A with these arrays, or these objects, in place of its own
abbrev pub sets_with_list : Sets → KnownPlaces → RestTree → Sets
sets_with_list A ps r [] t = A [] t || same_tag t tag.List
sets_with_list A ps r (place i ∷ p) t = places_at ps i p (rest_at r p) t
sets_with_list A ps r (field n ∷ p) t = A (field n ∷ p) t

abbrev pub sets_with_object : Sets → KnownFields → RestTree → Sets
sets_with_object A fs r [] t = A [] t || same_tag t tag.Object
sets_with_object A fs r (place i ∷ p) t = A (place i ∷ p) t
sets_with_object A fs r (field n ∷ p) t = fields_at fs n p (rest_at r p) t

abbrev pub places_sets : Places → ℕ → Sets
places_sets ps i p = places_at (places_view ps.known.now) i p (spot_sets ps.behind p)

abbrev pub fields_sets : Fields → List ℕ → Sets
fields_sets fs n p = fields_at (fields_view fs.known.now) n p (spot_sets fs.behind p)

-- what A allows at the places of an array; where A allows an array, those behind may be absent
pub record PlacesAreOf (A : Sets) (ps : Places) : Type 0 where
  pub at : (i : ℕ) (p : List Step) (t : Tag) → A (place i ∷ p) t ≡ places_sets ps i p t
  pub absent : IsTrue (A [] tag.List) → ps.behind.absent ≡ true

-- what A allows at the fields of an object; where A allows an object, those that aren't known may be absent.
-- The known ones stand in the order of their names' bytes
pub record FieldsAreOf (A : Sets) (fs : Fields) : Type 0 where
  pub at : (n : List ℕ) (p : List Step) (t : Tag) → A (field n ∷ p) t ≡ fields_sets fs n p t
  pub absent : IsTrue (A [] tag.Object) → fs.behind.absent ≡ true
  pub sorted : FieldsAreSorted (fields_view fs.known.now)

-- S is what K allows at each field that it doesn't know by itself
pub record AreOtherFields (K : KindTree) (S : Sets) : Type 0 where
  pub at : (n : List ℕ) → knows_field n K ≡ false → (p : List Step) (t : Tag) → S p t ≡ tags_at K (field n ∷ p) t

-- the kinds at the first places
pub record ArePlaces (ks : List KindTree) (S : ℕ → Sets) : Type 0 where
  pub at : (i : ℕ) → i < length ks → (p : List Step) (T : Tag → Bool) (t : Tag)
      → places_at (places_view ks) i p T t ≡ S i p t

abbrev pub null_if : Bool → Sets → Sets
null_if true A = null_for_absent A
null_if false A = A

-- the places below one that is written or changed
abbrev pub lower_place : Places → Bool → Bool → ℕ → Sets
lower_place ps absent filled i = null_if filled (or_absent_if absent (places_sets ps i))

-- the places with M at the place k
abbrev pub changed_place : Places → ℕ → Sets → Bool → Bool → ℕ → Sets
changed_place ps k M absent filled i =
    by_step (place i) (place k) (lower_place ps absent filled i) M (or_absent_if absent (places_sets ps i)) never_at

-- the places without the one at k
abbrev pub moved_place : Places → ℕ → Bool → ℕ → Sets
moved_place ps k absent i = by_step (place i) (place k) (places_sets ps i)
    (or_absent_if absent (places_sets ps (suc i))) (or_absent_if absent (places_sets ps (suc i))) never_at

-- the fields with M at the name k
pub record FieldsAre (fs : Fields) (k : List ℕ) (M : Sets) (absent : Bool)
    (named : List (List ℕ × KindTree)) : Type 0 where
  pub at : (n : List ℕ) (p : List Step) (t : Tag)
      → fields_at (named_view named) n p (or_absent_if absent (spot_sets fs.behind) p) t
      ≡ by_step (field n) (field k) (or_absent_if absent (fields_sets fs n)) M
      (or_absent_if absent (fields_sets fs n)) never_at p t

-- the fields are those before the name k, the one that has it, if there is one, and those behind it
pub record IsCutAt (k : List ℕ) (fs : List KindField) (cut : Cut) : Type 0 where
  pub before : AreBefore k cut.before.now
  pub at : MatchOption cut.at (fs ≡ cut.before.now ++ cut.behind.now)
      (λ f. (fs ≡ cut.before.now ++ f.now ∷ cut.behind.now) × (f.now.name ≡ k))
  pub behind : IsBeforeFields k (fields_view cut.behind.now)

-- what the fields say of a name, which may be absent too, or else T
abbrev pub opened_at : Bool → List KindField → List ℕ → List Step → Tags → Tags
opened_at b [] n p T = T
opened_at b (f ∷ fs) n p T = match_ordering (slice_cmp nat_cmp n f.name) (opened_at b fs n p T)
    (or_absent_if b (tags_at f.kind) p) (opened_at b fs n p T)

-- the fields were put to others, and count before them
pub record ArePushed (b : Bool) (fs : List KindField) (olds news : List (List ℕ × KindTree)) : Type 0 where
  pub at : (n : List ℕ) (p : List Step) (T : Tags) (t : Tag)
      → fields_at (named_view news) n p T t ≡ opened_at b fs n p (fields_at (named_view olds) n p T) t

-- a place that counts from the start
abbrev pub from_start : ℤ → Option ℕ
from_start (pos i) = Some i
from_start (negsuc i) = None

-- what is of the kind is there
abbrev pub is_sure : KindTree → Bool
is_sure K = not (tags_at K [] tag.Absent)

abbrev pub is_nothing : RestTree → Bool
is_nothing nothing = true
is_nothing json_rest = false
is_nothing any_rest = false
is_nothing (exact K) = false
