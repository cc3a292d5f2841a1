-- The tags that a kind allows at each path.
use Rattle.std.specs.Prelude.{Bool, true, false, ◌||◌, ◌&&◌, not, ◌≡◌, ◌↔◌, ℕ, zero, suc, List, [], ◌∷◌, Option, Some, None, IsTrue}
use Rattle.std.specs.Ordering.{nat_cmp, match_ordering}
use Rattle.std.specs.Cmp.Lexicographic.{slice_cmp}
use Rattle.vrl_value.specs.Look.{Step, field, place, raw_at, tag_found}
use Rattle.vrl_value.specs.Tree.{Tree}
use Rattle.vrl_value.specs.declared.value.Tag.{Tag}
use Rattle.vrl_value.specs.declared.value.Tag.TheVariants as tag
use Rattle.vrl_kind.specs.KindTree.{KindTree, kind, ListTree, no_list, list_part, ObjectTree, no_object, object_part, RestTree, nothing, json_rest, any_rest, exact, Places, no_places, known_place, KnownFields, no_fields, known_field}
use Rattle.vrl_kind.specs.Sets.{SameSets, IsAllowed}
use Rattle.vrl_kind.specs.Tags.{Tags, never, any, json, only, union, without, same_tag}
use Rattle.vrl_kind.specs.Tags as tags

abbrev pub has_list : ListTree → Bool
has_list no_list = false
has_list (list_part ps r) = true

abbrev pub has_object : ObjectTree → Bool
has_object no_object = false
has_object (object_part fs r) = true

-- the tags at the root
abbrev pub root_tags : KindTree → Tags
root_tags (kind s l o) tag.Text = s.string
root_tags (kind s l o) tag.Int = s.integer
root_tags (kind s l o) tag.Bool = s.boolean
root_tags (kind s l o) tag.Null = s.null
root_tags (kind s l o) tag.Time = s.timestamp
root_tags (kind s l o) tag.Pattern = s.regex
root_tags (kind s l o) tag.List = has_list l
root_tags (kind s l o) tag.Object = has_object o
root_tags (kind s l o) tag.Absent = s.absent

-- the sets of a part that may be absent: absent stands beside the first
abbrev pub or_absent : List Step → Tags → Tags
or_absent [] T = union T (only tag.Absent)
or_absent (s ∷ p) T = T

-- what JSON can hold: each part of its arrays and objects is JSON again, and may be absent
abbrev pub json_at : List Step → Tags
json_at [] = json
json_at (s ∷ p) = or_absent p (json_at p)

-- every value
abbrev pub any_at : List Step → Tags
any_at [] = any
any_at (s ∷ p) = or_absent p (any_at p)

-- no value
abbrev pub never_at : List Step → Tags
never_at p = never

-- the tags at each path. Under a step that no part fits there are none; a known part gives its own,
-- and each other step the rest's
abbrev mutual
  pub tags_at : KindTree → List Step → Tags
  tags_at k [] = root_tags k
  tags_at (kind s l o) (place i ∷ p) = list_at l i p
  tags_at (kind s l o) (field n ∷ p) = object_at o n p

  pub list_at : ListTree → ℕ → List Step → Tags
  list_at no_list i p = never
  list_at (list_part ps r) i p = places_at ps i p (rest_at r p)

  pub object_at : ObjectTree → List ℕ → List Step → Tags
  object_at no_object n p = never
  object_at (object_part fs r) n p = fields_at fs n p (rest_at r p)

  -- what is known of a place, or else T
  pub places_at : Places → ℕ → List Step → Tags → Tags
  places_at no_places i p T = T
  places_at (known_place k ps) zero p T = tags_at k p
  places_at (known_place k ps) (suc i) p T = places_at ps i p T

  -- what is known of a field, or else T
  pub fields_at : KnownFields → List ℕ → List Step → Tags → Tags
  fields_at no_fields n p T = T
  fields_at (known_field m k fs) n p T =
      match_ordering (slice_cmp nat_cmp n m) (fields_at fs n p T) (tags_at k p) (fields_at fs n p T)

  pub rest_at : RestTree → List Step → Tags
  rest_at nothing p = or_absent p (never_at p)
  rest_at json_rest p = or_absent p (json_at p)
  rest_at any_rest p = or_absent p (any_at p)
  rest_at (exact k) p = or_absent p (tags_at k p)

-- the value is of the kind: the kind's sets allow it
abbrev pub Inhabits : Tree → KindTree → Type 0
Inhabits v K = IsAllowed v (tags_at K)

-- what the first kind allows at a path, the second allows there
abbrev pub IsWithin : KindTree → KindTree → Type 0
IsWithin K L = (p : List Step) → tags.IsWithin (tags_at K p) (tags_at L p)

-- no tag, absent too, is allowed by both at the root
abbrev pub IsDisjoint : KindTree → KindTree → Type 0
IsDisjoint K L = tags.IsDisjoint (tags_at K []) (tags_at L [])

-- both allow the same at every path
abbrev pub SameTags : KindTree → KindTree → Type 0
SameTags K L = SameSets (tags_at K) (tags_at L)

-- at each path the third kind allows what either of the first two does, and nothing else
abbrev pub IsJoin : KindTree → KindTree → KindTree → Type 0
IsJoin K L M = (p : List Step) (t : Tag) → tags_at M p t ≡ (tags_at K p t || tags_at L p t)

-- the container that a step fits
abbrev pub step_tag : Step → Tag
step_tag (field n) = tag.Object
step_tag (place i) = tag.List

-- one tag alone; below an array or an object every value, or nothing
abbrev pub only_at : Tag → List Step → Tags
only_at t [] = only t
only_at t (s ∷ p) = λ u. same_tag (step_tag s) t && or_absent p (any_at p) u

abbrev pub option_tags : Option Tag → Tags
option_tags None = never
option_tags (Some t) = only t

-- the tag that stands at a path of a value, alone; none where there is no place
abbrev pub found_at : Tree → List Step → Tags
found_at v p = option_tags (tag_found (raw_at v p))

-- the outer tags of K, and every value inside
abbrev pub flat_at : KindTree → List Step → Tags
flat_at K [] = tags_at K []
flat_at K (s ∷ p) = λ t. tags_at K [] (step_tag s) && or_absent p (any_at p) t

-- K without a tag at its root, and without what stands below that tag
abbrev pub without_at : KindTree → Tag → List Step → Tags
without_at K t [] = without (tags_at K []) t
without_at K t (s ∷ p) = λ u. tags_at K (s ∷ p) u && not (same_tag (step_tag s) t)

-- that nothing is there, at the root
abbrev pub is_absence : List Step → Tag → Bool
is_absence [] t = same_tag t tag.Absent
is_absence (s ∷ p) t = false

-- M allows at each path what some part of K allows there, but it isn't absent itself
abbrev pub IsParts : KindTree → KindTree → Type 0
IsParts K M = (p : List Step) (t : Tag)
    → IsTrue (tags_at M p t) ↔ (((s : Step) × IsTrue (tags_at K (s ∷ p) t)) × IsTrue (not (is_absence p t)))
