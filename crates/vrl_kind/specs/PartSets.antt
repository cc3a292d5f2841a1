-- The tags that the parts of a kind have, computed by cases on its tree.
use Rattle.std.specs.Prelude.{◌≡◌, ◌||◌, ◌&&◌, ◌↔◌, not, ℕ, List, [], ◌∷◌, IsTrue}
use Rattle.std.specs.List.{list_any}
use Rattle.vrl_value.specs.Look.{Step, part_at, there}
use Rattle.vrl_value.specs.Tree.{Tree}
use Rattle.vrl_value.specs.declared.value.Tag.{Tag}
use Rattle.vrl_kind.specs.KindTree.{KindTree, kind, ListTree, no_list, list_part, ObjectTree, no_object, object_part, Places, no_places, known_place, KnownFields, no_fields, known_field}
use Rattle.vrl_kind.specs.Kinds.{tags_at, rest_at, fields_at, never_at, is_absence, Inhabits, IsParts}
use Rattle.vrl_kind.specs.Sets.{Sets, SameSets, IsAllowed}

-- what some known place allows
abbrev pub known_places_at : Places → Sets
known_places_at no_places p t = never_at p t
known_places_at (known_place k ps) p t = tags_at k p t || known_places_at ps p t

-- what some place of an array allows; each place may be one that isn't known
abbrev pub all_places_at : ListTree → Sets
all_places_at no_list p t = never_at p t
all_places_at (list_part ps r) p t = known_places_at ps p t || rest_at r p t

-- the names of the known fields
abbrev pub names_of : KnownFields → List (List ℕ)
names_of no_fields = []
names_of (known_field n k fs) = n ∷ names_of fs

-- what some field of an object allows; there is always a name that isn't known
abbrev pub all_fields_at : ObjectTree → Sets
all_fields_at no_object p t = never_at p t
all_fields_at (object_part fs r) p t = list_any (λ n. fields_at fs n p (rest_at r p) t) (names_of fs) || rest_at r p t

-- what some part of the kind allows, but that it isn't absent itself
abbrev pub parts_at : KindTree → Sets
parts_at (kind s l o) p t = (all_places_at l p t || all_fields_at o p t) && not (is_absence p t)

-- ---- laws

-- these are the tags that stand behind some step of the kind
abbrev pub PartsAreTold : Type 0
PartsAreTold = (K : KindTree) (p : List Step) (t : Tag)
    → IsTrue (parts_at K p t) ↔ (((s : Step) × IsTrue (tags_at K (s ∷ p) t)) × IsTrue (not (is_absence p t)))

-- a kind is that of the parts where it has these tags, and only there
abbrev pub PartsAreComputed : Type 0
PartsAreComputed = (K M : KindTree) → IsParts K M ↔ SameSets (tags_at M) (parts_at K)

-- a part of a value of the kind is allowed by them
abbrev pub PartsAreAllowed : Type 0
PartsAreAllowed = (value part : Tree) (s : Step) (K : KindTree) → Inhabits value K → part_at value s ≡ there part
    → IsAllowed part (parts_at K)
