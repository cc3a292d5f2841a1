-- What the parts of a kind allow, as its tree says it, is what stands behind some step.
use Rattle.std.proofs.Common.{◌≡◌, inl, inr, ◌+◌, ℕ, zero, suc, Bool, true, false, ◌||◌, not, List, [], ◌∷◌, Option, Some, None, IsTrue, IfSome, refl, sym, ap, ◌∙◌, subst, length, arith}
use Rattle.std.specs.List.{list_any}
use Rattle.vrl_value.specs.Look.{Step, field, place, Found, raw_at, tag_found, found_behind}
use Rattle.vrl_value.specs.Tag.{tag_of}
use Rattle.vrl_value.specs.Tree.{Tree}
use Rattle.vrl_value.specs.declared.value.Tag.{Tag}
use Rattle.vrl_kind.specs.KindTree.{KindTree, kind, ListTree, no_list, list_part, ObjectTree, no_object, object_part, RestTree, Places, no_places, known_place, KnownFields, no_fields, known_field}
use Rattle.vrl_kind.specs.declared.scalars.Scalars.{Scalars}
use Rattle.vrl_kind.specs.Canonical.{rest_kind, field_or}
use Rattle.vrl_kind.specs.Kinds.{tags_at, list_at, object_at, places_at, fields_at, rest_at, is_absence}
use Rattle.vrl_kind.specs.PartSets.{known_places_at, all_places_at, names_of, all_fields_at, parts_at, PartsAreTold, PartsAreComputed, PartsAreAllowed}
use Rattle.vrl_kind.specs.Tags.{Tags}
use Rattle.vrl_kind.proofs.Found.{there_at}
use Rattle.vrl_kind.proofs.Gathering.{HasName, known_name, and_from, and_both}
use Rattle.vrl_kind.proofs.Inclusion.{none}
use Rattle.vrl_kind.proofs.Joins.{or_both}
use Rattle.vrl_kind.proofs.Known.{object_field, rest_tags}
use Rattle.vrl_kind.proofs.OneKind.{field_past, zeros, length-zeros, names_size}

or_left : (a b : Bool) → IsTrue a → IsTrue (a || b)
or_left true b is = refl
or_left false b is = none _ is

or_right : (a b : Bool) → IsTrue b → IsTrue (a || b)
or_right true b is = refl
or_right false b is = is

one_test : (a b : Bool) → (IsTrue a → IsTrue b) → (IsTrue b → IsTrue a) → a ≡ b
one_test true b to from = sym (to refl)
one_test false true to from = from refl
one_test false false to from = refl

-- ---- places
known_to : (ps : Places) (p : List Step) (t : Tag) → IsTrue (known_places_at ps p t) → (i : ℕ) × ((T : Tags) → IsTrue (places_at ps i p T t))
known_to no_places p t is = none _ is
known_to (known_place k ps) p t is = or_both (tags_at k p t) (known_places_at ps p t) _ (λ x. (0, λ T. x)) (λ y. let found = known_to ps p t y in (suc found.0, found.1)) is

known_from : (ps : Places) (i : ℕ) (p : List Step) (T : Tags) (t : Tag) → IsTrue (places_at ps i p T t) → IsTrue (known_places_at ps p t || T t)
known_from no_places i p T t is = is
known_from (known_place k ps) zero p T t is = or_left _ (T t) (or_left (tags_at k p t) (known_places_at ps p t) is)
known_from (known_place k ps) (suc i) p T t is =
    or_both (known_places_at ps p t) (T t) _ (λ x. or_left _ (T t) (or_right (tags_at k p t) _ x)) (λ y. or_right _ (T t) y) (known_from ps i p T t is)

-- a place that isn't known
beyond : (ps : Places) → (i : ℕ) × ((p : List Step) (T : Tags) → places_at ps i p T ≡ T)
beyond no_places = (0, λ p T. refl)
beyond (known_place k ps) = (suc (beyond ps).0, (beyond ps).1)

places_to : (l : ListTree) (p : List Step) (t : Tag) → IsTrue (all_places_at l p t) → (i : ℕ) × IsTrue (list_at l i p t)
places_to no_list p t is = none _ is
places_to (list_part ps r) p t is =
    or_both (known_places_at ps p t) (rest_at r p t) _
    (λ x. let found = known_to ps p t x in (found.0, found.1 (rest_at r p)))
    (λ y. let other = beyond ps in (other.0, ap (λ T. T t) (other.1 p (rest_at r p)) ∙ y)) is

places_from : (l : ListTree) (i : ℕ) (p : List Step) (t : Tag) → IsTrue (list_at l i p t) → IsTrue (all_places_at l p t)
places_from no_list i p t is = none _ is
places_from (list_part ps r) i p t is = known_from ps i p (rest_at r p) t is

-- ---- fields
some_name : (test : List ℕ → Bool) (ns : List (List ℕ)) → IsTrue (list_any test ns) → (n : List ℕ) × IsTrue (test n)
some_name test [] is = none _ is
some_name test (n ∷ ns) is = or_both (test n) (list_any test ns) _ (λ x. (n, x)) (λ y. some_name test ns y) is

name_counts : (test : List ℕ → Bool) (fs : KnownFields) (n : List ℕ) → HasName fs n → IsTrue (test n) → IsTrue (list_any test (names_of fs))
name_counts test no_fields n has is = absurd has
name_counts test (known_field m k fs) n (inl same) is = or_left (test m) _ (ap test same ∙ is)
name_counts test (known_field m k fs) n (inr has) is = or_right (test m) _ (name_counts test fs n has is)

-- a name that isn't known
unknown_name : (fs : KnownFields) (r : RestTree) → (n : List ℕ) × (field_or fs (rest_kind r) n ≡ rest_kind r)
unknown_name fs r =
    let size = names_size fs + 1 in
    let long : length (zeros size) ≡ size = length-zeros size in
    (zeros size, field_past fs (rest_kind r) (zeros size) (omega arith))

unknown_field : (fs : KnownFields) (r : RestTree) (n : List ℕ) (p : List Step) (t : Tag) → field_or fs (rest_kind r) n ≡ rest_kind r → object_at (object_part fs r) n p t ≡ rest_at r p t
unknown_field fs r n p t is = ap (λ T. T t) (object_field fs r n p ∙ ap (λ k. tags_at k p) is ∙ rest_tags r p)

fields_to : (o : ObjectTree) (p : List Step) (t : Tag) → IsTrue (all_fields_at o p t) → (n : List ℕ) × IsTrue (object_at o n p t)
fields_to no_object p t is = none _ is
fields_to (object_part fs r) p t is =
    or_both (list_any (λ n. fields_at fs n p (rest_at r p) t) (names_of fs)) (rest_at r p t) _
    (λ x. some_name (λ n. fields_at fs n p (rest_at r p) t) (names_of fs) x)
    (λ y. let other = unknown_name fs r in (other.0, unknown_field fs r other.0 p t other.1 ∙ y)) is

fields_from : (o : ObjectTree) (n : List ℕ) (p : List Step) (t : Tag) → IsTrue (object_at o n p t) → IsTrue (all_fields_at o p t)
fields_from no_object n p t is = none _ is
fields_from (object_part fs r) n p t is =
    elim (known_name fs (rest_kind r) n) [
      | inl has ↦ or_left _ (rest_at r p t) (name_counts (λ m. fields_at fs m p (rest_at r p) t) fs n has is)
      | inr other ↦ or_right _ (rest_at r p t) (sym (unknown_field fs r n p t other) ∙ is)
    ]

-- ---- both
some_step : (s : Scalars) (l : ListTree) (o : ObjectTree) (p : List Step) (t : Tag) → IsTrue (all_places_at l p t || all_fields_at o p t) → (v : Step) × IsTrue (tags_at (kind s l o) (v ∷ p) t)
some_step s l o p t is =
    or_both (all_places_at l p t) (all_fields_at o p t) _
    (λ x. let found = places_to l p t x in (place found.0, found.1))
    (λ y. let found = fields_to o p t y in (field found.0, found.1)) is

each_step : (s : Scalars) (l : ListTree) (o : ObjectTree) (p : List Step) (t : Tag) (v : Step) → IsTrue (tags_at (kind s l o) (v ∷ p) t) → IsTrue (all_places_at l p t || all_fields_at o p t)
each_step s l o p t (place i) is = or_left _ (all_fields_at o p t) (places_from l i p t is)
each_step s l o p t (field n) is = or_right (all_places_at l p t) _ (fields_from o n p t is)

pub parts_are_told : PartsAreTold
parts_are_told (kind s l o) p t = (
  λ is. let both = and_from (all_places_at l p t || all_fields_at o p t) (not (is_absence p t)) is in (some_step s l o p t both.0, both.1),
  λ is. and_both (all_places_at l p t || all_fields_at o p t) (not (is_absence p t)) (each_step s l o p t is.0.0 is.0.1) is.1,
)

pub parts_are_computed : PartsAreComputed
parts_are_computed K M = (
  λ is p t. one_test (tags_at M p t) (parts_at K p t) (λ x. (parts_are_told K p t).1 ((is p t).0 x)) (λ y. (is p t).1 ((parts_are_told K p t).0 y)),
  λ same p t. (λ x. (parts_are_told K p t).0 (sym (same p t) ∙ x), λ y. same p t ∙ (parts_are_told K p t).1 y),
)

-- what is there isn't absent
is_there : (v : Tree) → IsTrue (not (is_absence [] (tag_of v)))
is_there v = ap not (there_at v)

below_steps : (o : Option Tag) (K : KindTree) (v q : Step) (p : List Step) → IfSome o (λ t. IsTrue (tags_at K (v ∷ q ∷ p) t)) → IfSome o (λ t. IsTrue (parts_at K (q ∷ p) t))
below_steps None K v q p is = tt
below_steps (Some t) K v q p is = (parts_are_told K (q ∷ p) t).1 ((v, is), refl)

allowed_at : (part : Tree) (K : KindTree) (v : Step) (p : List Step) → IfSome (tag_found (raw_at part p)) (λ t. IsTrue (tags_at K (v ∷ p) t)) → IfSome (tag_found (raw_at part p)) (λ t. IsTrue (parts_at K p t))
allowed_at part K v [] is = (parts_are_told K [] (tag_of part)).1 ((v, is), is_there part)
allowed_at part K v (q ∷ p) is = below_steps (tag_found (raw_at part (q ∷ p))) K v q p is

pub parts_are_allowed : PartsAreAllowed
parts_are_allowed value part v K inhabits found p =
    allowed_at part K v p (subst (λ (f : Found). IfSome (tag_found (found_behind f p (λ u. raw_at u p))) (λ t. IsTrue (tags_at K (v ∷ p) t))) found (inhabits (v ∷ p)))
