-- What kinds with longer arrays allow, and how large they are.
use Rattle.std.proofs.Common.{◌≡◌, ◌≢◌, ◌⊎◌, inl, inr, ℕ, zero, suc, ◌+◌, ◌-◌, ◌<◌, ◌≤◌, max, min, ◌||◌, List, [], ◌∷◌, Ordering, Less, Equal, Greater, refl, sym, ap, ◌∙◌, subst, arith}
use Rattle.std.proofs.lemmas.Cmp.{ranked}
use Rattle.std.specs.Cmp.Lexicographic.{slice_cmp}
use Rattle.std.specs.Ordering.{nat_cmp, match_ordering}
use Rattle.vrl_value.specs.Look.{Step, field, place}
use Rattle.vrl_value.specs.declared.value.Tag.{Tag}
use Rattle.vrl_value.specs.declared.value.Tag.TheVariants as tag
use Rattle.vrl_kind.specs.Canonical.{allows_absent, any_kind, json_kind, never_kind, rest_kind, FieldsAreCanonical, IsBeforeFields, IsCanonical, IsExact, LastIsNot, ListIsCanonical, NoFieldIs, ObjectIsCanonical, PlacesAreCanonical, RestIsCanonical}
use Rattle.vrl_kind.specs.Count.{fields_levels, levels, list_levels, nodes, object_levels, places_levels, rest_levels}
use Rattle.vrl_kind.specs.Cut.{flat, level_limit, node_limit, IsCut}
use Rattle.vrl_kind.specs.KindTree.{KindTree, kind, ListTree, no_list, list_part, ObjectTree, no_object, object_part, RestTree, nothing, json_rest, any_rest, exact, Places, no_places, known_place, KnownFields, no_fields, known_field}
use Rattle.vrl_kind.specs.Kinds.{any_at, fields_at, has_list, has_object, json_at, list_at, never_at, object_at, or_absent, places_at, rest_at, tags_at}
use Rattle.vrl_kind.specs.Stretch.{path_back, place_back, repeated, stretched, stretched_each, stretched_fields, stretched_from, stretched_list, stretched_object, stretched_rest}
use Rattle.vrl_kind.specs.Tags.{only, Tags}
use Rattle.vrl_kind.specs.declared.scalars.Scalars.{Scalars}
use Rattle.vrl_kind.specs.declared.stretch.Stretch.{Stretch}
use Rattle.vrl_kind.proofs.OneKind.{equal_tags_are_one_kind, rest_canonical}
use Rattle.vrl_kind.proofs.Shapes.{same_root}

-- ---- what stands at a path
same_lists : (z : Stretch) (zs : List Stretch) (l : ListTree) → has_list (stretched_list z zs l) ≡ has_list l
same_lists z zs no_list = refl
same_lists z zs (list_part ps r) = refl

same_objects : (zs : List Stretch) (o : ObjectTree) → has_object (stretched_object zs o) ≡ has_object o
same_objects zs no_object = refl
same_objects zs (object_part fs r) = refl

repeated_at : (m : ℕ) (k : KindTree) (ps : Places) (i : ℕ) (p : List Step) (T : Tags) (t : Tag) → places_at (repeated m k (known_place k ps)) i p T t ≡ places_at (known_place k ps) (i - m) p T t
repeated_at zero k ps i p T t = let same : i ≡ i - 0 = omega arith in ap (λ j. places_at (known_place k ps) j p T t) same
repeated_at (suc m) k ps zero p T t = let same : 0 ≡ 0 - suc m = omega arith in ap (λ j. places_at (known_place k ps) j p T t) same
repeated_at (suc m) k ps (suc i) p T t = let same : i - m ≡ suc i - suc m = omega arith in repeated_at m k ps i p T t ∙ ap (λ j. places_at (known_place k ps) j p T t) same

absent_back : (zs : List Stretch) (p : List Step) (T U : Tags) (t : Tag) → T t ≡ U t → or_absent p T t ≡ or_absent (path_back zs p) U t
absent_back zs [] T U t same = ap (λ b. b || only tag.Absent t) same
absent_back [] (s ∷ p) T U t same = same
absent_back (z ∷ zs) (s ∷ p) T U t same = same

json_back : (zs : List Stretch) (p : List Step) (t : Tag) → json_at p t ≡ json_at (path_back zs p) t
json_back zs [] t = refl
json_back [] (s ∷ p) t = refl
json_back (z ∷ zs) (s ∷ p) t = absent_back zs p (json_at p) (json_at (path_back zs p)) t (json_back zs p t)

any_back : (zs : List Stretch) (p : List Step) (t : Tag) → any_at p t ≡ any_at (path_back zs p) t
any_back zs [] t = refl
any_back [] (s ∷ p) t = refl
any_back (z ∷ zs) (s ∷ p) t = absent_back zs p (any_at p) (any_at (path_back zs p)) t (any_back zs p t)

over_first : (n m i : ℕ) → min (suc i) (max (suc n) (suc i - m)) ≡ suc (min i (max n (i - m)))
over_first n m i = omega arith

first_back : (zs : List Stretch) (k : KindTree) (ps : Places) (i : ℕ) (p : List Step) (T U : Tags) (t : Tag) → tags_at (stretched zs k) p t ≡ tags_at k (path_back zs p) t
    → ((j : ℕ) → places_at (stretched_each zs ps) j p T t ≡ places_at ps j (path_back zs p) U t)
    → places_at (known_place (stretched zs k) (stretched_each zs ps)) i p T t ≡ places_at (known_place k ps) i (path_back zs p) U t
first_back zs k ps zero p T U t here behind = here
first_back zs k ps (suc i) p T U t here behind = behind i

mutual
  -- what the longer arrays have at a path stands at its path back
  pub tags_back : (zs : List Stretch) (K : KindTree) (p : List Step) (t : Tag) → tags_at (stretched zs K) p t ≡ tags_at K (path_back zs p) t
  tags_back [] K [] t = refl
  tags_back [] K (s ∷ p) t = refl
  tags_back (z ∷ zs) (kind s l o) [] t = same_root s (stretched_list z zs l) l (stretched_object zs o) o (same_lists z zs l) (same_objects zs o) t
  tags_back (z ∷ zs) (kind s l o) (place i ∷ p) t = list_back z zs l i p t
  tags_back (z ∷ zs) (kind s l o) (field n ∷ p) t = object_back zs o n p t

  list_back : (z : Stretch) (zs : List Stretch) (l : ListTree) (i : ℕ) (p : List Step) (t : Tag) → list_at (stretched_list z zs l) i p t ≡ list_at l (place_back z i) (path_back zs p) t
  list_back z zs no_list i p t = refl
  list_back z zs (list_part ps r) i p t = places_back z.place z.more zs ps i p _ _ t (rest_back zs r p t)

  object_back : (zs : List Stretch) (o : ObjectTree) (n : List ℕ) (p : List Step) (t : Tag) → object_at (stretched_object zs o) n p t ≡ object_at o n (path_back zs p) t
  object_back zs no_object n p t = refl
  object_back zs (object_part fs r) n p t = fields_back zs fs n p _ _ t (rest_back zs r p t)

  places_back : (n m : ℕ) (zs : List Stretch) (ps : Places) (i : ℕ) (p : List Step) (T U : Tags) (t : Tag) → T t ≡ U t → places_at (stretched_from n m zs ps) i p T t ≡ places_at ps (min i (max n (i - m))) (path_back zs p) U t
  places_back n m zs no_places i p T U t rest = rest
  places_back zero m zs (known_place k ps) i p T U t rest =
      let same : i - m ≡ min i (max 0 (i - m)) = omega arith in
      repeated_at m (stretched zs k) (stretched_each zs ps) i p T t
      ∙ first_back zs k ps (i - m) p T U t (tags_back zs k p t) (λ j. each_back zs ps j p T U t rest)
      ∙ ap (λ j. places_at (known_place k ps) j (path_back zs p) U t) same
  places_back (suc n) m zs (known_place k ps) zero p T U t rest =
      let same : 0 ≡ min 0 (max (suc n) (0 - m)) = omega arith in
      tags_back zs k p t ∙ ap (λ j. places_at (known_place k ps) j (path_back zs p) U t) same
  places_back (suc n) m zs (known_place k ps) (suc i) p T U t rest =
      places_back n m zs ps i p T U t rest ∙ sym (ap (λ j. places_at (known_place k ps) j (path_back zs p) U t) (over_first n m i))

  each_back : (zs : List Stretch) (ps : Places) (i : ℕ) (p : List Step) (T U : Tags) (t : Tag) → T t ≡ U t → places_at (stretched_each zs ps) i p T t ≡ places_at ps i (path_back zs p) U t
  each_back zs no_places i p T U t rest = rest
  each_back zs (known_place k ps) zero p T U t rest = tags_back zs k p t
  each_back zs (known_place k ps) (suc i) p T U t rest = each_back zs ps i p T U t rest

  fields_back : (zs : List Stretch) (fs : KnownFields) (n : List ℕ) (p : List Step) (T U : Tags) (t : Tag) → T t ≡ U t → fields_at (stretched_fields zs fs) n p T t ≡ fields_at fs n (path_back zs p) U t
  fields_back zs no_fields n p T U t rest = rest
  fields_back zs (known_field m k fs) n p T U t rest = by_name (slice_cmp nat_cmp n m) (fields_back zs fs n p T U t rest) (tags_back zs k p t)
    where
      by_name : (o : Ordering) → fields_at (stretched_fields zs fs) n p T t ≡ fields_at fs n (path_back zs p) U t → tags_at (stretched zs k) p t ≡ tags_at k (path_back zs p) t
          → match_ordering o (fields_at (stretched_fields zs fs) n p T) (tags_at (stretched zs k) p) (fields_at (stretched_fields zs fs) n p T) t
          ≡ match_ordering o (fields_at fs n (path_back zs p) U) (tags_at k (path_back zs p)) (fields_at fs n (path_back zs p) U) t
      by_name Less other here = other
      by_name Equal other here = here
      by_name Greater other here = other

  rest_back : (zs : List Stretch) (r : RestTree) (p : List Step) (t : Tag) → rest_at (stretched_rest zs r) p t ≡ rest_at r (path_back zs p) t
  rest_back zs nothing p t = absent_back zs p (never_at p) (never_at (path_back zs p)) t refl
  rest_back zs json_rest p t = absent_back zs p (json_at p) (json_at (path_back zs p)) t (json_back zs p t)
  rest_back zs any_rest p t = absent_back zs p (any_at p) (any_at (path_back zs p)) t (any_back zs p t)
  rest_back zs (exact k) p t = absent_back zs p (tags_at (stretched zs k) p) (tags_at k (path_back zs p)) t (tags_back zs k p t)

-- ---- the outer tags
pub one_flat : (zs : List Stretch) (K : KindTree) → flat (stretched zs K) ≡ flat K
one_flat [] K = refl
one_flat (z ∷ zs) (kind s no_list no_object) = refl
one_flat (z ∷ zs) (kind s no_list (object_part fs r)) = refl
one_flat (z ∷ zs) (kind s (list_part ps q) no_object) = refl
one_flat (z ∷ zs) (kind s (list_part ps q) (object_part fs r)) = refl

-- ---- levels
repeated_levels : (m : ℕ) (k : KindTree) (ps : Places) → places_levels (repeated m k (known_place k ps)) ≡ places_levels (known_place k ps)
repeated_levels zero k ps = refl
repeated_levels (suc m) k ps = ap (max (levels k + 1)) (repeated_levels m k ps) ∙ omega arith

mutual
  -- longer arrays have as many levels
  pub one_levels : (zs : List Stretch) (K : KindTree) → levels (stretched zs K) ≡ levels K
  one_levels [] K = refl
  one_levels (z ∷ zs) (kind s l o) = ap (λ n. max n (object_levels (stretched_object zs o))) (list_same z zs l) ∙ ap (max (list_levels l)) (object_same zs o)

  list_same : (z : Stretch) (zs : List Stretch) (l : ListTree) → list_levels (stretched_list z zs l) ≡ list_levels l
  list_same z zs no_list = refl
  list_same z zs (list_part ps r) = ap (λ n. max n (rest_levels (stretched_rest zs r))) (places_same z.place z.more zs ps) ∙ ap (max (places_levels ps)) (rest_same zs r)

  object_same : (zs : List Stretch) (o : ObjectTree) → object_levels (stretched_object zs o) ≡ object_levels o
  object_same zs no_object = refl
  object_same zs (object_part fs r) = ap (λ n. max n (rest_levels (stretched_rest zs r))) (fields_same zs fs) ∙ ap (max (fields_levels fs)) (rest_same zs r)

  places_same : (n m : ℕ) (zs : List Stretch) (ps : Places) → places_levels (stretched_from n m zs ps) ≡ places_levels ps
  places_same n m zs no_places = refl
  places_same zero m zs (known_place k ps) =
      repeated_levels m (stretched zs k) (stretched_each zs ps)
      ∙ ap (λ i. max (i + 1) (places_levels (stretched_each zs ps))) (one_levels zs k)
      ∙ ap (max (levels k + 1)) (each_same zs ps)
  places_same (suc n) m zs (known_place k ps) = ap (λ i. max (i + 1) (places_levels (stretched_from n m zs ps))) (one_levels zs k) ∙ ap (max (levels k + 1)) (places_same n m zs ps)

  each_same : (zs : List Stretch) (ps : Places) → places_levels (stretched_each zs ps) ≡ places_levels ps
  each_same zs no_places = refl
  each_same zs (known_place k ps) = ap (λ i. max (i + 1) (places_levels (stretched_each zs ps))) (one_levels zs k) ∙ ap (max (levels k + 1)) (each_same zs ps)

  fields_same : (zs : List Stretch) (fs : KnownFields) → fields_levels (stretched_fields zs fs) ≡ fields_levels fs
  fields_same zs no_fields = refl
  fields_same zs (known_field n k fs) = ap (λ i. max (i + 1) (fields_levels (stretched_fields zs fs))) (one_levels zs k) ∙ ap (max (levels k + 1)) (fields_same zs fs)

  rest_same : (zs : List Stretch) (r : RestTree) → rest_levels (stretched_rest zs r) ≡ rest_levels r
  rest_same zs nothing = refl
  rest_same zs json_rest = refl
  rest_same zs any_rest = refl
  rest_same zs (exact k) = ap (λ i. i + 1) (one_levels zs k)

-- ---- the one form

-- each place, and each path, is the one back of some other
ahead : (z : Stretch) (j : ℕ) → (i : ℕ) × (place_back z i ≡ j)
ahead z j = by_order (nat_cmp j z.place) refl
  where
    by_order : (o : Ordering) → nat_cmp j z.place ≡ o → (i : ℕ) × (place_back z i ≡ j)
    by_order Less o = let less : j < z.place = ranked j z.place Less (sym o) in (j, omega (arith, less))
    by_order Equal o = let same : j ≡ z.place = ranked j z.place Equal (sym o) in (j, omega (arith, same))
    by_order Greater o = let more : z.place < j = ranked j z.place Greater (sym o) in (j + z.more, omega (arith, more))

path_ahead : (zs : List Stretch) (p : List Step) → (q : List Step) × (path_back zs q ≡ p)
path_ahead zs [] = ([], refl)
path_ahead [] (s ∷ p) = (s ∷ p, refl)
path_ahead (z ∷ zs) (place j ∷ p) =
    let first = ahead z j in
    let behind = path_ahead zs p in
    (place first.0 ∷ behind.0, ap (λ i. place i ∷ path_back zs behind.0) first.1 ∙ ap (λ q. place j ∷ q) behind.1)
path_ahead (z ∷ zs) (field n ∷ p) = let behind = path_ahead zs p in (field n ∷ behind.0, ap (λ q. field n ∷ q) behind.1)

-- two kinds that are the same with longer arrays are one
one_stretched : (zs : List Stretch) (K L : KindTree) → IsCanonical K → IsCanonical L → stretched zs K ≡ stretched zs L → K ≡ L
one_stretched zs K L first second same = equal_tags_are_one_kind K L first second (λ p t. at p t)
  where
    at : (p : List Step) (t : Tag) → tags_at K p t ≡ tags_at L p t
    at p t =
        let q = path_ahead zs p in
        ap (λ r. tags_at K r t) (sym q.1) ∙ sym (tags_back zs K q.0 t) ∙ ap (λ M. tags_at M q.0 t) same ∙ tags_back zs L q.0 t ∙ ap (λ r. tags_at L r t) q.1

rest_one : (zs : List Stretch) (r : RestTree) → rest_kind (stretched_rest zs r) ≡ stretched zs (rest_kind r)
rest_one [] nothing = refl
rest_one [] json_rest = refl
rest_one [] any_rest = refl
rest_one [] (exact k) = refl
rest_one (z ∷ zs) nothing = refl
rest_one (z ∷ zs) json_rest = refl
rest_one (z ∷ zs) any_rest = refl
rest_one (z ∷ zs) (exact (kind s l o)) = refl

-- a kind other than R is other than Q with longer arrays
abbrev Differ : List Stretch → KindTree → KindTree → Type 0
Differ zs R Q = (k : KindTree) → IsCanonical k → k ≢ R → stretched zs k ≢ Q

differ : (zs : List Stretch) (r : RestTree) → RestIsCanonical r → Differ zs (rest_kind r) (rest_kind (stretched_rest zs r))
differ zs r canonical k is other same = other (one_stretched zs k (rest_kind r) is (rest_canonical r canonical) (same ∙ rest_one zs r))

never_one : (zs : List Stretch) → never_kind ≡ stretched zs never_kind
never_one [] = refl
never_one (z ∷ zs) = refl

json_one : (zs : List Stretch) → json_kind ≡ stretched zs json_kind
json_one [] = refl
json_one (z ∷ zs) = refl

any_one : (zs : List Stretch) → any_kind ≡ stretched zs any_kind
any_one [] = refl
any_one (z ∷ zs) = refl

absent_one : (zs : List Stretch) (k : KindTree) → allows_absent (stretched zs k) ≡ allows_absent k
absent_one [] k = refl
absent_one (z ∷ zs) (kind s l o) = refl

exact_one : (zs : List Stretch) (k : KindTree) → IsCanonical k → IsExact k → IsExact (stretched zs k)
exact_one zs k canonical is = record {
  not_absent = absent_one zs k ∙ is.not_absent;
  not_never = λ same. is.not_never (one_stretched zs k never_kind canonical (tt, tt) (same ∙ never_one zs));
  not_json = λ same. is.not_json (one_stretched zs k json_kind canonical ((tt, tt, tt), (tt, tt, tt)) (same ∙ json_one zs));
  not_any = λ same. is.not_any (one_stretched zs k any_kind canonical ((tt, tt, tt), (tt, tt, tt)) (same ∙ any_one zs));
}

repeated_canonical : (m : ℕ) (k : KindTree) (ps : Places) → IsCanonical k → PlacesAreCanonical ps → PlacesAreCanonical (repeated m k ps)
repeated_canonical zero k ps first others = others
repeated_canonical (suc m) k ps first others = (first, repeated_canonical m k ps first others)

last_repeated : (m : ℕ) (K k : KindTree) (ps : Places) → LastIsNot K (known_place k ps) → LastIsNot K (repeated m k (known_place k ps))
last_repeated zero K k ps last = last
last_repeated (suc zero) K k ps last = last
last_repeated (suc (suc m)) K k ps last = last_repeated (suc m) K k ps last

last_each : (zs : List Stretch) (R Q : KindTree) (ps : Places) → Differ zs R Q → PlacesAreCanonical ps → LastIsNot R ps → LastIsNot Q (stretched_each zs ps)
last_each zs R Q no_places other canonical last = tt
last_each zs R Q (known_place k no_places) other canonical last = other k canonical.0 last
last_each zs R Q (known_place k (known_place l ps)) other canonical last = last_each zs R Q (known_place l ps) other canonical.1 last

last_from : (n m : ℕ) (zs : List Stretch) (R Q : KindTree) (ps : Places) → Differ zs R Q → PlacesAreCanonical ps → LastIsNot R ps → LastIsNot Q (stretched_from n m zs ps)
last_from n m zs R Q no_places other canonical last = tt
last_from zero m zs R Q (known_place k ps) other canonical last = last_repeated m Q (stretched zs k) (stretched_each zs ps) (last_each zs R Q (known_place k ps) other canonical last)
last_from (suc n) m zs R Q (known_place k no_places) other canonical last = other k canonical.0 last
last_from (suc zero) zero zs R Q (known_place k (known_place l ps)) other canonical last = last_from zero zero zs R Q (known_place l ps) other canonical.1 last
last_from (suc zero) (suc m) zs R Q (known_place k (known_place l ps)) other canonical last = last_from zero (suc m) zs R Q (known_place l ps) other canonical.1 last
last_from (suc (suc n)) m zs R Q (known_place k (known_place l ps)) other canonical last = last_from (suc n) m zs R Q (known_place l ps) other canonical.1 last

before_one : (zs : List Stretch) (n : List ℕ) (fs : KnownFields) → IsBeforeFields n fs → IsBeforeFields n (stretched_fields zs fs)
before_one zs n no_fields before = tt
before_one zs n (known_field m k fs) before = (before.0, before_one zs n fs before.1)

no_field_one : (zs : List Stretch) (R Q : KindTree) (fs : KnownFields) → Differ zs R Q → FieldsAreCanonical fs → NoFieldIs R fs → NoFieldIs Q (stretched_fields zs fs)
no_field_one zs R Q no_fields other canonical known = tt
no_field_one zs R Q (known_field n k fs) other canonical known = (other k canonical.1 known.0, no_field_one zs R Q fs other canonical.2 known.1)

mutual
  -- longer arrays are in the one form
  pub canonical_stretched : (zs : List Stretch) (K : KindTree) → IsCanonical K → IsCanonical (stretched zs K)
  canonical_stretched [] K canonical = canonical
  canonical_stretched (z ∷ zs) (kind s l o) canonical = (list_canonical z zs l canonical.0, object_canonical zs o canonical.1)

  list_canonical : (z : Stretch) (zs : List Stretch) (l : ListTree) → ListIsCanonical l → ListIsCanonical (stretched_list z zs l)
  list_canonical z zs no_list canonical = tt
  list_canonical z zs (list_part ps r) canonical =
      (places_canonical z.place z.more zs ps canonical.0, rest_stays zs r canonical.1, last_from z.place z.more zs (rest_kind r) (rest_kind (stretched_rest zs r)) ps (differ zs r canonical.1) canonical.0 canonical.2)

  object_canonical : (zs : List Stretch) (o : ObjectTree) → ObjectIsCanonical o → ObjectIsCanonical (stretched_object zs o)
  object_canonical zs no_object canonical = tt
  object_canonical zs (object_part fs r) canonical =
      (fields_canonical zs fs canonical.0, rest_stays zs r canonical.1, no_field_one zs (rest_kind r) (rest_kind (stretched_rest zs r)) fs (differ zs r canonical.1) canonical.0 canonical.2)

  places_canonical : (n m : ℕ) (zs : List Stretch) (ps : Places) → PlacesAreCanonical ps → PlacesAreCanonical (stretched_from n m zs ps)
  places_canonical n m zs no_places canonical = tt
  places_canonical zero m zs (known_place k ps) canonical =
      let first = canonical_stretched zs k canonical.0 in
      repeated_canonical m (stretched zs k) (known_place (stretched zs k) (stretched_each zs ps)) first (first, each_canonical zs ps canonical.1)
  places_canonical (suc n) m zs (known_place k ps) canonical = (canonical_stretched zs k canonical.0, places_canonical n m zs ps canonical.1)

  each_canonical : (zs : List Stretch) (ps : Places) → PlacesAreCanonical ps → PlacesAreCanonical (stretched_each zs ps)
  each_canonical zs no_places canonical = tt
  each_canonical zs (known_place k ps) canonical = (canonical_stretched zs k canonical.0, each_canonical zs ps canonical.1)

  fields_canonical : (zs : List Stretch) (fs : KnownFields) → FieldsAreCanonical fs → FieldsAreCanonical (stretched_fields zs fs)
  fields_canonical zs no_fields canonical = tt
  fields_canonical zs (known_field n k fs) canonical = (before_one zs n fs canonical.0, canonical_stretched zs k canonical.1, fields_canonical zs fs canonical.2)

  rest_stays : (zs : List Stretch) (r : RestTree) → RestIsCanonical r → RestIsCanonical (stretched_rest zs r)
  rest_stays zs nothing canonical = tt
  rest_stays zs json_rest canonical = tt
  rest_stays zs any_rest canonical = tt
  rest_stays zs (exact k) canonical = (canonical_stretched zs k canonical.0, exact_one zs k canonical.0 canonical.1)

-- a kind whose parts are those with longer arrays
pub parts_canonical : (z : Stretch) (zs : List Stretch) (s : Scalars) (l k : ListTree) (o n : ObjectTree) → k ≡ stretched_list z zs l → n ≡ stretched_object zs o → IsCanonical (kind s l o) → IsCanonical (kind s k n)
parts_canonical z zs s l k o n lists objects canonical =
    subst (λ j. IsCanonical (kind s j n)) (sym lists) (subst (λ j. IsCanonical (kind s (stretched_list z zs l) j)) (sym objects) (canonical_stretched (z ∷ zs) (kind s l o) canonical))

-- ---- the cut

-- where there is too much of one or the other
pub too_large : (zs : List Stretch) (K M : KindTree) → M ≡ flat K → (node_limit < nodes (stretched zs K)) ⊎ (level_limit < levels K) → IsCut (stretched zs K) M
too_large zs K M is large = record {
  kept = λ few low. absurd (none large few low);
  too_many = λ many. is ∙ sym (one_flat zs K);
  too_deep = λ deep. is ∙ sym (one_flat zs K);
}
  where
    none : (node_limit < nodes (stretched zs K)) ⊎ (level_limit < levels K) → nodes (stretched zs K) ≤ node_limit → levels (stretched zs K) ≤ level_limit → ⊥
    none (inl many) few low = absurd (omega (arith, many, few))
    none (inr deep) few low = absurd (omega (arith, deep, low, one_levels zs K))

pub within_limits : (zs : List Stretch) (K M : KindTree) → M ≡ stretched zs K → nodes (stretched zs K) ≤ node_limit → levels K ≤ level_limit → IsCut (stretched zs K) M
within_limits zs K M is few low = record {
  kept = λ fewer lower. is;
  too_many = λ many. absurd (omega (arith, few, many));
  too_deep = λ deep. absurd (omega (arith, low, deep, one_levels zs K));
}
