-- What a kind knows of the places of arrays, and the kinds of arrays with more places.
use Rattle.std.specs.Prelude.{ℕ, zero, suc, Bool, true, false, ◌&&◌, ◌||◌, not, [], ◌∷◌, if◌then◌else◌}
use Rattle.vrl_value.specs.Look.{field, place}
use Rattle.vrl_value.specs.declared.value.Tag.TheVariants as tag
use Rattle.vrl_kind.specs.KindTree.{KindTree, RestTree, nothing, json_rest, any_rest, exact, Places, no_places, known_place}
use Rattle.vrl_kind.specs.Kinds.{or_absent, places_at, rest_at, tags_at}
use Rattle.vrl_kind.specs.Sets.{Sets}
use Rattle.vrl_kind.specs.Tags.{same_tag}

-- what is of the kind is there
abbrev pub is_there : KindTree → Bool
is_there K = not (tags_at K [] tag.Absent)

-- the place is sure: neither it nor a lower one may be absent. One that isn't known may always be
abbrev pub is_sure : Places → ℕ → Bool
is_sure no_places i = false
is_sure (known_place k ps) zero = is_there k
is_sure (known_place k ps) (suc i) = is_there k && is_sure ps i

-- each known place is
abbrev pub all_sure : Places → Bool
all_sure no_places = true
all_sure (known_place k ps) = is_there k && all_sure ps

abbrev pub is_nothing : RestTree → Bool
is_nothing nothing = true
is_nothing json_rest = false
is_nothing any_rest = false
is_nothing (exact k) = false

-- the length of the arrays with these places and this rest is known
abbrev pub is_known : Places → RestTree → Bool
is_known ps r = is_nothing r && all_sure ps

-- some places, and then others
abbrev pub then_places : Places → Places → Places
then_places no_places qs = qs
then_places (known_place k ps) qs = known_place k (then_places ps qs)

-- arrays with these sets at each place
abbrev pub placed : (ℕ → Sets) → Sets
placed A [] t = same_tag tag.List t
placed A (place i ∷ p) t = A i p t
placed A (field n ∷ p) t = false

-- what a place allows, and these sets, and that it is absent
abbrev pub joined : Sets → Sets → Sets
joined B A p t = or_absent p (λ u. B p u || A p u) t

-- sure places keep what they allow, and each other is joined with these sets and absent
abbrev pub widened : Places → RestTree → Sets → ℕ → Sets
widened ps r A i p t =
    if is_sure ps i then places_at ps i p (rest_at r p) t else joined (λ q. places_at ps i q (rest_at r q)) A p t

-- one or the other
abbrev pub chosen : Bool → Sets → Sets → Sets
chosen true A B p t = A p t
chosen false A B p t = B p t
