-- The tags of the arrays and objects that hold parts of these kinds.
use Rattle.std.proofs.Common.{◌≡◌, ℕ, zero, suc, Bool, true, false, List, [], ◌∷◌, map, Option, Some, None, Ordering, Less, Equal, Greater, is_eq, nat_cmp, bytes_eq, if◌then◌else◌, refl, sym, ap, ◌∙◌, subst}
use Rattle.std.proofs.lemmas.Map.Text.{is_eq-slice_cmp}
use Rattle.std.specs.Cmp.Lexicographic.{slice_cmp, nat_list_eq_equiv}
use Rattle.std.specs.Ordering.{match_ordering}
use Rattle.vrl_value.specs.Look.{Step, field, place}
use Rattle.vrl_value.specs.declared.value.Tag.{Tag}
use Rattle.vrl_kind.specs.Canonical.{IsCanonical}
use Rattle.vrl_kind.specs.Cut.{IsCut}
use Rattle.vrl_kind.specs.KindTree.{KindTree, KnownFields, no_fields, known_field, nothing}
use Rattle.vrl_kind.specs.Kinds.{fields_at, is_absence, places_at, rest_at, root_tags, tags_at, SameTags}
use Rattle.vrl_kind.specs.Make.{array_kind, last_first, named_view, object_kind}
use Rattle.vrl_kind.specs.Tags.{Tags, only, same_tag}
use Rattle.vrl_kind.specs.View.{places_view}
use Rattle.vrl_place.proofs.Tags.{one_tag, same_itself}
use Rattle.vrl_state.specs.States.{IsCutOf}
use Rattle.vrl_judge.specs.Rules.{array_at, field_of, items_at, last_or, named_at, object_at}
use Rattle.vrl_value.specs.declared.value.Tag.TheVariants as tag

same_test : (a b : Bool) → (a ≡ true → b ≡ true) → (b ≡ true → a ≡ true) → a ≡ b
same_test true b to from = sym (to refl)
same_test false true to from = from refl
same_test false false to from = refl

turn : (t u : Tag) → same_tag t u ≡ true → same_tag u t ≡ true
turn t u same = subst (λ x. same_tag x t ≡ true) (one_tag t u same) (same_itself t)

pub same_turned : (t u : Tag) → same_tag t u ≡ same_tag u t
same_turned t u = same_test (same_tag t u) (same_tag u t) (turn t u) (turn u t)

-- where nothing else can stand, a part is absent
pub none_there : (p : List Step) (t : Tag) → rest_at nothing p t ≡ is_absence p t
none_there [] t = same_turned tag.Absent t
none_there (s ∷ p) t = refl

-- ---- arrays

pub list_root : (Ks : List KindTree) (t : Tag) → root_tags (array_kind (places_view Ks) nothing) t ≡ only tag.List t
list_root Ks tag.Text = refl
list_root Ks tag.Int = refl
list_root Ks tag.Bool = refl
list_root Ks tag.Null = refl
list_root Ks tag.Time = refl
list_root Ks tag.Pattern = refl
list_root Ks tag.List = refl
list_root Ks tag.Object = refl
list_root Ks tag.Absent = refl

pub place_tags : (Ks : List KindTree) (i : ℕ) (p : List Step) (t : Tag) → places_at (places_view Ks) i p (rest_at nothing p) t ≡ items_at Ks i p t
place_tags [] i p t = none_there p t
place_tags (K ∷ Ks) zero p t = refl
place_tags (K ∷ Ks) (suc i) p t = place_tags Ks i p t

pub list_tags : (Ks : List KindTree) (p : List Step) (t : Tag) → tags_at (array_kind (places_view Ks) nothing) p t ≡ array_at Ks p t
list_tags Ks [] t = list_root Ks t
list_tags Ks (place i ∷ p) t = place_tags Ks i p t
list_tags Ks (field n ∷ p) t = refl

pub array_is_cut : (Ks : List KindTree) (whole K : KindTree) → SameTags whole (array_kind (places_view Ks) nothing) → IsCanonical whole → IsCut whole K → IsCutOf (array_at Ks) K
array_is_cut Ks whole K same canonical cut = record { whole = whole; canonical = canonical; tags = λ p t. same p t ∙ list_tags Ks p t; cut = cut }

-- ---- objects

-- the names and the kinds of fields
abbrev pub names_in : List (List ℕ × KindTree) → List (List ℕ)
names_in es = map (λ e. e.0) es

abbrev pub kinds_in : List (List ℕ × KindTree) → List KindTree
kinds_in es = map (λ e. e.1) es

-- the tags of the kind that was found, or T
abbrev pub found_or : Option KindTree → List Step → Tags → Tags
found_or None p T = T
found_or (Some K) p T = tags_at K p

pub by_order : (o : Ordering) (b : Bool) (K : KindTree) (p : List Step) (T : Tags) → is_eq o ≡ b → match_ordering o T (tags_at K p) T ≡ found_or (if b then Some K else None) p T
by_order Less b K p T is = ap (λ c. found_or (if c then Some K else None) p T) is
by_order Equal b K p T is = ap (λ c. found_or (if c then Some K else None) p T) is
by_order Greater b K p T is = ap (λ c. found_or (if c then Some K else None) p T) is

-- a field in front of others counts where none of them has its name
pub in_front : (found : Option KindTree) (m : List ℕ) (K : KindTree) (fs : KnownFields) (n : List ℕ) (p : List Step) (T : Tags)
    → found_or found p (fields_at (known_field m K fs) n p T) ≡ found_or (last_or found (if bytes_eq m n then Some K else None)) p (fields_at fs n p T)
in_front (Some L) m K fs n p T = refl
in_front None m K fs n p T = by_order (slice_cmp nat_cmp n m) (bytes_eq m n) K p (fields_at fs n p T) (is_eq-slice_cmp n m ∙ nat_list_eq_equiv.symm n m)

pub field_tags : (es : List (List ℕ × KindTree)) (fs : KnownFields) (n : List ℕ) (p : List Step) (T : Tags)
    → fields_at (last_first es fs) n p T ≡ found_or (named_at (names_in es) (kinds_in es) n) p (fields_at fs n p T)
field_tags [] fs n p T = refl
field_tags (e ∷ es) fs n p T = field_tags es (known_field e.0 e.1 fs) n p T ∙ in_front (named_at (names_in es) (kinds_in es) n) e.0 e.1 fs n p T

pub found_tags : (found : Option KindTree) (p : List Step) (t : Tag) → found_or found p (rest_at nothing p) t ≡ field_of found p t
found_tags None p t = none_there p t
found_tags (Some K) p t = refl

pub object_root_tags : (fs : KnownFields) (t : Tag) → root_tags (object_kind fs nothing) t ≡ only tag.Object t
object_root_tags fs tag.Text = refl
object_root_tags fs tag.Int = refl
object_root_tags fs tag.Bool = refl
object_root_tags fs tag.Null = refl
object_root_tags fs tag.Time = refl
object_root_tags fs tag.Pattern = refl
object_root_tags fs tag.List = refl
object_root_tags fs tag.Object = refl
object_root_tags fs tag.Absent = refl

pub object_tags : (es : List (List ℕ × KindTree)) (p : List Step) (t : Tag) → tags_at (object_kind (named_view es) nothing) p t ≡ object_at (names_in es) (kinds_in es) p t
object_tags es [] t = object_root_tags (named_view es) t
object_tags es (place i ∷ p) t = refl
object_tags es (field n ∷ p) t =
    ap (λ (T : Tags). T t) (field_tags es no_fields n p (rest_at nothing p)) ∙ found_tags (named_at (names_in es) (kinds_in es) n) p t

pub object_is_cut : (es : List (List ℕ × KindTree)) (whole K : KindTree) → SameTags whole (object_kind (named_view es) nothing) → IsCanonical whole → IsCut whole K → IsCutOf (object_at (names_in es) (kinds_in es)) K
object_is_cut es whole K same canonical cut = record { whole = whole; canonical = canonical; tags = λ p t. same p t ∙ object_tags es p t; cut = cut }
