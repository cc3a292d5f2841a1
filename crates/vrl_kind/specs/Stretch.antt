-- Kinds with longer arrays: what stands at one place is repeated, and what stood behind it moves up.
use Rattle.std.specs.Prelude.{◌-◌, ◌≤◌, ℕ, zero, suc, max, min, List, [], ◌∷◌, ⊤}
use Rattle.vrl_value.specs.Look.{Step, field, place}
use Rattle.vrl_kind.specs.KindTree.{KindTree, kind, ListTree, no_list, list_part, ObjectTree, no_object, object_part, RestTree, nothing, json_rest, any_rest, exact, Places, no_places, known_place, KnownFields, no_fields, known_field}
use Rattle.vrl_kind.specs.declared.stretch.Stretch.{Stretch}

-- the place whose part stands at a place of the longer arrays
abbrev pub place_back : Stretch → ℕ → ℕ
place_back z i = min i (max z.place (i - z.more))

abbrev pub step_back : Stretch → Step → Step
step_back z (place i) = place (place_back z i)
step_back z (field n) = field n

-- the path whose part stands at a path of the longer arrays: each step is that of its level, and those
-- below the last level stay
abbrev pub path_back : List Stretch → List Step → List Step
path_back zs [] = []
path_back [] (s ∷ p) = s ∷ p
path_back (z ∷ zs) (s ∷ p) = step_back z s ∷ path_back zs p

-- at how many more places of the longer arrays the part of a place stands: at so many if it is this one
abbrev pub more_from : ℕ → ℕ → ℕ → ℕ
more_from zero more zero = more
more_from zero more (suc i) = 0
more_from (suc n) more zero = 0
more_from (suc n) more (suc i) = more_from n more i

abbrev pub more_at : Stretch → ℕ → ℕ
more_at z i = more_from z.place z.more i

-- the places with this kind so often before them
abbrev pub repeated : ℕ → KindTree → Places → Places
repeated zero k ps = ps
repeated (suc n) k ps = known_place k (repeated n k ps)

abbrev mutual
  -- the kind with longer arrays: those of the kind itself are stretched by the first, those one step
  -- down by the second, and so on
  pub stretched : List Stretch → KindTree → KindTree
  stretched [] k = k
  stretched (z ∷ zs) (kind s l o) = kind s (stretched_list z zs l) (stretched_object zs o)

  pub stretched_list : Stretch → List Stretch → ListTree → ListTree
  stretched_list z zs no_list = no_list
  stretched_list z zs (list_part ps r) = list_part (stretched_from z.place z.more zs ps) (stretched_rest zs r)

  pub stretched_object : List Stretch → ObjectTree → ObjectTree
  stretched_object zs no_object = no_object
  stretched_object zs (object_part fs r) = object_part (stretched_fields zs fs) (stretched_rest zs r)

  -- the places, of which the one so far on is repeated so often
  pub stretched_from : ℕ → ℕ → List Stretch → Places → Places
  stretched_from n more zs no_places = no_places
  stretched_from zero more zs (known_place k ps) =
      repeated more (stretched zs k) (known_place (stretched zs k) (stretched_each zs ps))
  stretched_from (suc n) more zs (known_place k ps) = known_place (stretched zs k) (stretched_from n more zs ps)

  pub stretched_each : List Stretch → Places → Places
  stretched_each zs no_places = no_places
  stretched_each zs (known_place k ps) = known_place (stretched zs k) (stretched_each zs ps)

  pub stretched_fields : List Stretch → KnownFields → KnownFields
  stretched_fields zs no_fields = no_fields
  stretched_fields zs (known_field n k fs) = known_field n (stretched zs k) (stretched_fields zs fs)

  pub stretched_rest : List Stretch → RestTree → RestTree
  stretched_rest zs nothing = nothing
  stretched_rest zs json_rest = json_rest
  stretched_rest zs any_rest = any_rest
  stretched_rest zs (exact k) = exact (stretched zs k)

abbrev pub stretched_places : Stretch → List Stretch → Places → Places
stretched_places z zs ps = stretched_from z.place z.more zs ps

-- how many places are known by themselves
abbrev pub known_places : Places → ℕ
known_places no_places = 0
known_places (known_place k ps) = suc (known_places ps)

abbrev mutual
  -- each array so many steps down knows at most this many places by themselves
  pub KnowsAtMost : ℕ → ℕ → KindTree → Type 0
  KnowsAtMost d m (kind s l o) = ListKnowsAtMost d m l × ObjectKnowsAtMost d m o

  pub ListKnowsAtMost : ℕ → ℕ → ListTree → Type 0
  ListKnowsAtMost d m no_list = ⊤
  ListKnowsAtMost zero m (list_part ps r) = known_places ps ≤ m
  ListKnowsAtMost (suc d) m (list_part ps r) = PlacesKnowAtMost d m ps × RestKnowsAtMost d m r

  pub ObjectKnowsAtMost : ℕ → ℕ → ObjectTree → Type 0
  ObjectKnowsAtMost d m no_object = ⊤
  ObjectKnowsAtMost zero m (object_part fs r) = ⊤
  ObjectKnowsAtMost (suc d) m (object_part fs r) = FieldsKnowAtMost d m fs × RestKnowsAtMost d m r

  pub PlacesKnowAtMost : ℕ → ℕ → Places → Type 0
  PlacesKnowAtMost d m no_places = ⊤
  PlacesKnowAtMost d m (known_place k ps) = KnowsAtMost d m k × PlacesKnowAtMost d m ps

  pub FieldsKnowAtMost : ℕ → ℕ → KnownFields → Type 0
  FieldsKnowAtMost d m no_fields = ⊤
  FieldsKnowAtMost d m (known_field n k fs) = KnowsAtMost d m k × FieldsKnowAtMost d m fs

  pub RestKnowsAtMost : ℕ → ℕ → RestTree → Type 0
  RestKnowsAtMost d m nothing = ⊤
  RestKnowsAtMost d m json_rest = ⊤
  RestKnowsAtMost d m any_rest = ⊤
  RestKnowsAtMost d m (exact k) = KnowsAtMost d m k
