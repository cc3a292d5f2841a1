-- Kinds that know no place from a repeated one on say the same of all places from it on.
use Rattle.std.proofs.Common.{◌≡◌, inl, inr, ℕ, zero, suc, ◌≤◌, false, List, [], ◌∷◌, Ordering, Less, Equal, Greater, refl, sym, ap, subst, arith}
use Rattle.std.specs.Cmp.Lexicographic.{slice_cmp}
use Rattle.std.specs.Ordering.{nat_cmp, match_ordering}
use Rattle.vrl_value.specs.Look.{Step, field, place}
use Rattle.vrl_value.specs.declared.value.Tag.{Tag}
use Rattle.vrl_value.specs.declared.value.Tag.TheVariants as tag
use Rattle.vrl_kind.specs.Canonical.{field_or, never_kind, place_or, rest_kind}
use Rattle.vrl_kind.specs.KindTree.{KindTree, kind, no_list, list_part, no_object, object_part, RestTree, nothing, json_rest, any_rest, exact, Places, no_places, known_place, KnownFields, no_fields, known_field}
use Rattle.vrl_kind.specs.Kinds.{places_at, rest_at, tags_at}
use Rattle.vrl_kind.specs.Sets.{SameSets}
use Rattle.vrl_kind.specs.Stretch.{known_places, place_back, FieldsKnowAtMost, KnowsAtMost, PlacesKnowAtMost, RestKnowsAtMost}
use Rattle.vrl_kind.specs.Tags.{Tags}
use Rattle.vrl_kind.specs.declared.stretch.Stretch.{Stretch}
use Rattle.vrl_kind.proofs.Known.{list_place, object_field}
use Rattle.vrl_place.specs.Far.{AreLevels, IsBlunt, IsLevel}
use Rattle.vrl_place.specs.Sets.{part}
use Rattle.vrl_place.proofs.FarWrites.{stays}
use Rattle.vrl_place.proofs.Orders.{equal, over, under}
use Rattle.vrl_place.proofs.Same.{one_sets}

-- the kind of a part
abbrev part_kind : KindTree → Step → KindTree
part_kind (kind s no_list o) (place i) = never_kind
part_kind (kind s (list_part ps r) o) (place i) = place_or ps (rest_kind r) i
part_kind (kind s l no_object) (field n) = never_kind
part_kind (kind s l (object_part fs r)) (field n) = field_or fs (rest_kind r) n

nothing_there : (p : List Step) (t : Tag) → tags_at never_kind p t ≡ false
nothing_there [] tag.Text = refl
nothing_there [] tag.Int = refl
nothing_there [] tag.Bool = refl
nothing_there [] tag.Null = refl
nothing_there [] tag.Time = refl
nothing_there [] tag.Pattern = refl
nothing_there [] tag.List = refl
nothing_there [] tag.Object = refl
nothing_there [] tag.Absent = refl
nothing_there (place i ∷ p) t = refl
nothing_there (field n ∷ p) t = refl

-- ---- what is known one step down

rest_at_most : (d m : ℕ) (r : RestTree) → RestKnowsAtMost d m r → KnowsAtMost d m (rest_kind r)
rest_at_most d m nothing at_most = (tt, tt)
rest_at_most zero m json_rest at_most = (omega arith, tt)
rest_at_most (suc d) m json_rest at_most = ((tt, tt), (tt, tt))
rest_at_most zero m any_rest at_most = (omega arith, tt)
rest_at_most (suc d) m any_rest at_most = ((tt, tt), (tt, tt))
rest_at_most d m (exact (kind s l o)) at_most = at_most

place_at_most : (d m : ℕ) (ps : Places) (K : KindTree) (i : ℕ) → PlacesKnowAtMost d m ps → KnowsAtMost d m K
    → KnowsAtMost d m (place_or ps K i)
place_at_most d m no_places K i known other = other
place_at_most d m (known_place k ps) K zero known other = known.0
place_at_most d m (known_place k ps) K (suc i) known other = place_at_most d m ps K i known.1 other

field_at_most : (d m : ℕ) (fs : KnownFields) (K : KindTree) (n : List ℕ) → FieldsKnowAtMost d m fs → KnowsAtMost d m K
    → KnowsAtMost d m (field_or fs K n)
field_at_most d m no_fields K n known other = other
field_at_most d m (known_field l k fs) K n known other =
    by_name (slice_cmp nat_cmp n l) (field_at_most d m fs K n known.1 other)
  where
    by_name : (o : Ordering) → KnowsAtMost d m (field_or fs K n)
        → KnowsAtMost d m (match_ordering o (field_or fs K n) k (field_or fs K n))
    by_name Less others = others
    by_name Equal others = known.0
    by_name Greater others = others

part_at_most : (d m : ℕ) (K : KindTree) (s : Step) → KnowsAtMost (suc d) m K → KnowsAtMost d m (part_kind K s)
part_at_most d m (kind s no_list o) (place i) known = (tt, tt)
part_at_most d m (kind s (list_part ps r) o) (place i) known =
    place_at_most d m ps (rest_kind r) i known.0.0 (rest_at_most d m r known.0.1)
part_at_most d m (kind s l no_object) (field n) known = (tt, tt)
part_at_most d m (kind s l (object_part fs r)) (field n) known =
    field_at_most d m fs (rest_kind r) n known.1.0 (rest_at_most d m r known.1.1)

levels_behind : (d : ℕ) (zs : List Stretch) (K : KindTree) (s : Step) → AreLevels (suc d) zs K
    → AreLevels d zs (part_kind K s)
levels_behind d [] K s levels = tt
levels_behind d (z ∷ zs) K s levels = (one levels.0, levels_behind (suc d) zs K s levels.1)
  where
    one : IsLevel (suc d) z K → IsLevel d z (part_kind K s)
    one (inl none) = inl none
    one (inr known) = inr (part_at_most d z.place K s known)

-- ---- places behind those that are known

behind_known : (ps : Places) (i j : ℕ) (p : List Step) (T : Tags) (t : Tag) → known_places ps ≤ i → known_places ps ≤ j
    → places_at ps i p T t ≡ places_at ps j p T t
behind_known no_places i j p T t first second = refl
behind_known (known_place k ps) zero j p T t first second = absurd (omega (arith, first))
behind_known (known_place k ps) (suc i) zero p T t first second = absurd (omega (arith, second))
behind_known (known_place k ps) (suc i) (suc j) p T t first second =
    behind_known ps i j p T t (omega (arith, first)) (omega (arith, second))

far_same : (z : Stretch) (ps : Places) (i : ℕ) (p : List Step) (T : Tags) (t : Tag) → known_places ps ≤ z.place
    → places_at ps (place_back z i) p T t ≡ places_at ps i p T t
far_same z ps i p T t known = by_order (nat_cmp i z.place) refl
  where
    near : i ≤ z.place → places_at ps (place_back z i) p T t ≡ places_at ps i p T t
    near less = ap (λ j. places_at ps j p T t) (omega (arith, less))

    by_order : (o : Ordering) → nat_cmp i z.place ≡ o → places_at ps (place_back z i) p T t ≡ places_at ps i p T t
    by_order Less o = near (omega (arith, under i z.place o))
    by_order Equal o = near (omega (arith, equal i z.place o))
    by_order Greater o =
        let more = over i z.place o in
        behind_known ps (place_back z i) i p T t (omega (arith, known, more)) (omega (arith, known, more))

places_same : (z : Stretch) (K : KindTree) → IsLevel 0 z K → (i : ℕ)
    → SameSets (part (tags_at K) (place (place_back z i))) (part (tags_at K) (place i))
places_same z K (inl none) i p t = ap (λ j. tags_at K (place j ∷ p) t) (stays z none i)
places_same z (kind s no_list o) (inr known) i p t = refl
places_same z (kind s (list_part ps r) o) (inr known) i p t = far_same z ps i p (rest_at r p) t known.0

part_tags : (K : KindTree) (s : Step) → SameSets (tags_at (part_kind K s)) (part (tags_at K) s)
part_tags (kind s (list_part ps r) o) (place i) p t = sym (ap (λ T. T t) (list_place ps r i p))
part_tags (kind s l (object_part fs r)) (field n) p t = sym (ap (λ T. T t) (object_field fs r n p))
part_tags (kind s no_list o) (place i) p t = nothing_there p t
part_tags (kind s l no_object) (field n) p t = nothing_there p t

-- the stretches of the levels of a kind leave what it says of places as it is
pub levels_blunt : (zs : List Stretch) (K : KindTree) → AreLevels 0 zs K → IsBlunt zs (tags_at K)
levels_blunt [] K levels = tt
levels_blunt (z ∷ zs) K levels = (
  places_same z K levels.0,
  λ s. subst (IsBlunt zs)
      (one_sets (tags_at (part_kind K s)) (part (tags_at K) s) (part_tags K s))
      (levels_blunt zs (part_kind K s) (levels_behind 0 zs K s levels.1)),
)
