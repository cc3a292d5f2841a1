-- What the makers of kinds are given, and the one form that they give.
use Rattle.std.specs.Prelude.{Bool, true, false, ◌≡◌, ◌≢◌, ℕ, List, [], ◌∷◌, ◌⊎◌, String, string_bytes}
use Rattle.std.specs.declared.alloc.Global.{Global}
use Rattle.vrl_value.specs.Look.{Step}
use Rattle.vrl_value.specs.declared.value.Tag.{Tag}
use Rattle.vrl_kind.specs.KindTree.{KindTree, kind, ListTree, no_list, list_part, ObjectTree, no_object, object_part, RestTree, Places, KnownFields, no_fields, known_field}
use Rattle.vrl_kind.specs.Canonical.{no_scalars, rest_kind, place_or, field_or, LastIsNot, NoFieldIs, ListIsCanonical, ObjectIsCanonical, PlacesAreCanonical, FieldsAreCanonical}
use Rattle.vrl_kind.specs.Kinds.{tags_at}

-- arrays alone, in any form
abbrev pub array_kind : Places → RestTree → KindTree
array_kind ps r = kind no_scalars (list_part ps r) no_object

-- objects alone, in any form
abbrev pub object_kind : KnownFields → RestTree → KindTree
object_kind fs r = kind no_scalars no_list (object_part fs r)

-- the fields from the last on, so that of equal names the last comes first
abbrev pub last_first : List (List ℕ × KindTree) → KnownFields → KnownFields
last_first [] fs = fs
last_first (e ∷ es) fs = last_first es (known_field e.0 e.1 fs)

abbrev pub named_view : List (List ℕ × KindTree) → KnownFields
named_view es = last_first es no_fields

-- the entries of a map by names
abbrev pub entries_view : List (String Global × KindTree) → KnownFields
entries_view [] = no_fields
entries_view (e ∷ es) = known_field (string_bytes e.0) e.1 (entries_view es)

-- at each name both lists of fields say the same
abbrev pub SameFields : KnownFields → KnownFields → Type 0
SameFields fs gs = (K : KindTree) (n : List ℕ) → field_or gs K n ≡ field_or fs K n

-- ds has the fields fs that say more than the rest, whose own kind is own, in the one form
pub record AreKnown (own : KindTree) (fs ds : KnownFields) : Type 0 where
  pub same : (n : List ℕ) (p : List Step) (t : Tag) → tags_at (field_or ds own n) p t ≡ tags_at (field_or fs own n) p t
  pub canonical : FieldsAreCanonical ds
  pub known : NoFieldIs own ds

abbrev pub add_field : KnownFields → List ℕ → KindTree → KnownFields
add_field no_fields n k = known_field n k no_fields
add_field (known_field m l fs) n k = known_field m l (add_field fs n k)

-- the places without some at the end that are K
pub record IsShortened (K : KindTree) (ps qs : Places) : Type 0 where
  pub same : (i : ℕ) → place_or qs K i ≡ place_or ps K i
  pub canonical : PlacesAreCanonical ps → PlacesAreCanonical qs

-- the places without those at the end that are K
pub record IsTrimmed (K : KindTree) (ps qs : Places) : Type 0 where
  pub last : LastIsNot K qs
  pub shortened : IsShortened K ps qs

abbrev pub IsListFor : Places → KindTree → ListTree → Type 0
IsListFor ps K no_list = ⊥
IsListFor ps K (list_part qs r) = (rest_kind r ≡ K) × ((i : ℕ) → place_or qs K i ≡ place_or ps K i)

-- the arrays with these places, and this own kind of the rest, in the one form
pub record IsListOf (ps : Places) (K : KindTree) (l : ListTree) : Type 0 where
  pub canonical : ListIsCanonical l
  pub meaning : IsListFor ps K l

abbrev pub IsObjectFor : KnownFields → KindTree → ObjectTree → Type 0
IsObjectFor fs K no_object = ⊥
IsObjectFor fs K (object_part gs r) = (rest_kind r ≡ K) × (gs ≡ fs)

pub record IsObjectOf (fs : KnownFields) (K : KindTree) (o : ObjectTree) : Type 0 where
  pub canonical : ObjectIsCanonical o
  pub meaning : IsObjectFor fs K o

-- a field was put behind the others, or says no more than the rest, whose own kind is own
abbrev pub IsKnownPushed : List ℕ → KindTree → KindTree → KnownFields → KnownFields → Type 0
IsKnownPushed n k own fs gs = ((k ≡ own) × (gs ≡ fs)) ⊎ ((k ≢ own) × (gs ≡ add_field fs n k))

-- the arrays, and the objects, unless they are removed
abbrev pub list_unless : Bool → ListTree → ListTree
list_unless true l = no_list
list_unless false l = l

abbrev pub object_unless : Bool → ObjectTree → ObjectTree
object_unless true o = no_object
object_unless false o = o
