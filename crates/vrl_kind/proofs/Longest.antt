-- How many places the arrays of a kind know by themselves.
use Rattle.std.proofs.Common.{◌≡◌, ℕ, zero, suc, ◌-◌, ◌<◌, ◌≤◌, List, [], ◌∷◌, length, take, get_or, refl, ap, subst, arith}
use Rattle.vrl_kind.specs.KindTree.{KindTree, kind, ListTree, no_list, list_part, ObjectTree, no_object, object_part, RestTree, nothing, json_rest, any_rest, exact, Places, no_places, known_place, KnownFields, no_fields, known_field}
use Rattle.vrl_kind.specs.Stretch.{known_places, KnowsAtMost, ListKnowsAtMost, ObjectKnowsAtMost, PlacesKnowAtMost, FieldsKnowAtMost, RestKnowsAtMost}
use Rattle.vrl_kind.specs.View.{places_view, fields_view}
use Rattle.vrl_kind.specs.declared.kind.KindField.{KindField}
use Rattle.vrl_kind.specs.declared.scalars.Scalars.{Scalars}

mutual
  -- what knows at most so many places knows at most more
  pub at_most_more : (d a m : ℕ) (K : KindTree) → a ≤ m → KnowsAtMost d a K → KnowsAtMost d m K
  at_most_more d a m (kind s l o) less known = (list_more d a m l less known.0, object_more d a m o less known.1)

  list_more : (d a m : ℕ) (l : ListTree) → a ≤ m → ListKnowsAtMost d a l → ListKnowsAtMost d m l
  list_more d a m no_list less known = tt
  list_more zero a m (list_part ps r) less known = let few : known_places ps ≤ a = known in omega (arith, less, few)
  list_more (suc d) a m (list_part ps r) less known = (places_more d a m ps less known.0, rest_more d a m r less known.1)

  object_more : (d a m : ℕ) (o : ObjectTree) → a ≤ m → ObjectKnowsAtMost d a o → ObjectKnowsAtMost d m o
  object_more d a m no_object less known = tt
  object_more zero a m (object_part fs r) less known = tt
  object_more (suc d) a m (object_part fs r) less known = (fields_more d a m fs less known.0, rest_more d a m r less known.1)

  places_more : (d a m : ℕ) (ps : Places) → a ≤ m → PlacesKnowAtMost d a ps → PlacesKnowAtMost d m ps
  places_more d a m no_places less known = tt
  places_more d a m (known_place k ps) less known = (at_most_more d a m k less known.0, places_more d a m ps less known.1)

  fields_more : (d a m : ℕ) (fs : KnownFields) → a ≤ m → FieldsKnowAtMost d a fs → FieldsKnowAtMost d m fs
  fields_more d a m no_fields less known = tt
  fields_more d a m (known_field n k fs) less known = (at_most_more d a m k less known.0, fields_more d a m fs less known.1)

  rest_more : (d a m : ℕ) (r : RestTree) → a ≤ m → RestKnowsAtMost d a r → RestKnowsAtMost d m r
  rest_more d a m nothing less known = tt
  rest_more d a m json_rest less known = tt
  rest_more d a m any_rest less known = tt
  rest_more d a m (exact k) less known = at_most_more d a m k less known

known_length : (ks : List KindTree) → known_places (places_view ks) ≡ length ks
known_length [] = refl
known_length (k ∷ ks) = ap suc (known_length ks)

-- ---- a kind from its parts
pub root_known : (d a b m : ℕ) (s : Scalars) (l : ListTree) (o : ObjectTree) → a ≤ m → b ≤ m → ListKnowsAtMost d a l → ObjectKnowsAtMost d b o → KnowsAtMost d m (kind s l o)
root_known d a b m s l o less fewer first second = (list_more d a m l less first, object_more d b m o fewer second)

-- the array itself
pub list_first : (d m : ℕ) (ks : List KindTree) (r : RestTree) → d ≡ 0 → length ks ≤ m → ListKnowsAtMost d m (list_part (places_view ks) r)
list_first zero m ks r none few = omega (arith, known_length ks, few)
list_first (suc d) m ks r none few = absurd (omega (arith, none))

-- those below it
pub list_behind : (d a b m : ℕ) (ps : Places) (r : RestTree) → 0 < d → a ≤ m → b ≤ m → PlacesKnowAtMost (d - 1) a ps → RestKnowsAtMost (d - 1) b r → ListKnowsAtMost d m (list_part ps r)
list_behind zero a b m ps r some less fewer first second = absurd (omega (arith, some))
list_behind (suc d) a b m ps r some less fewer first second =
    let same : suc d - 1 ≡ d = omega arith in
    (places_more d a m ps less (subst (λ n. PlacesKnowAtMost n a ps) same first), rest_more d b m r fewer (subst (λ n. RestKnowsAtMost n b r) same second))

pub object_behind : (d a b m : ℕ) (fs : KnownFields) (r : RestTree) → 0 < d → a ≤ m → b ≤ m → FieldsKnowAtMost (d - 1) a fs → RestKnowsAtMost (d - 1) b r → ObjectKnowsAtMost d m (object_part fs r)
object_behind zero a b m fs r some less fewer first second = absurd (omega (arith, some))
object_behind (suc d) a b m fs r some less fewer first second =
    let same : suc d - 1 ≡ d = omega arith in
    (fields_more d a m fs less (subst (λ n. FieldsKnowAtMost n a fs) same first), rest_more d b m r fewer (subst (λ n. RestKnowsAtMost n b r) same second))

pub object_first : (d m : ℕ) (fs : KnownFields) (r : RestTree) → d ≡ 0 → ObjectKnowsAtMost d m (object_part fs r)
object_first zero m fs r none = tt
object_first (suc d) m fs r none = absurd (omega (arith, none))

-- ---- one more place, and one more field
pub places_on : (d a n m : ℕ) (ks : List KindTree) (i next : ℕ) (k : KindTree) → next ≡ suc i → i < length ks → k ≡ get_or ks i k → a ≤ m → n ≤ m
    → PlacesKnowAtMost d a (places_view (take i ks)) → KnowsAtMost d n k → PlacesKnowAtMost d m (places_view (take next ks))
places_on d a n m [] i next k e below is less fewer before here = absurd (omega (arith, below))
places_on d a n m (x ∷ ks) zero next k e below is less fewer before here = rw e (at_most_more d n m x fewer (subst (KnowsAtMost d n) is here), tt)
places_on d a n m (x ∷ ks) (suc i) next k e below is less fewer before here =
    rw e (at_most_more d a m x less before.0, places_on d a n m ks i (suc i) k refl (omega (arith, below)) is less fewer before.1 here)

pub fields_on : (d a n m : ℕ) (fs : List KindField) (i next : ℕ) (f : KindField) → next ≡ suc i → i < length fs → f ≡ get_or fs i f → a ≤ m → n ≤ m
    → FieldsKnowAtMost d a (fields_view (take i fs)) → KnowsAtMost d n f.kind → FieldsKnowAtMost d m (fields_view (take next fs))
fields_on d a n m [] i next f e below is less fewer before here = absurd (omega (arith, below))
fields_on d a n m (x ∷ fs) zero next f e below is less fewer before here = rw e (at_most_more d n m x.kind fewer (subst (λ g. KnowsAtMost d n g.kind) is here), tt)
fields_on d a n m (x ∷ fs) (suc i) next f e below is less fewer before here =
    rw e (at_most_more d a m x.kind less before.0, fields_on d a n m fs i (suc i) f refl (omega (arith, below)) is less fewer before.1 here)
