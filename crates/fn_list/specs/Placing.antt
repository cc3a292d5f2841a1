-- Arrays with more items are of the kinds with more places.
use Rattle.std.specs.Prelude.{◌≡◌, ℕ, zero, suc, Bool, true, false, ◌||◌, not, List, [], ◌∷◌, ◌++◌, Option, Some, None, IsTrue, IfSome, refl, if◌then◌else◌}
use Rattle.std.proofs.Common.{sym, ◌∙◌, subst}
use Rattle.std.proofs.lemmas.Bool.{and_parts, false_from_ne_true, or_left, or_right}
use Rattle.vrl_value.specs.Look.{Step, field, place, found_behind, found_if, item_at, raw_at, tag_found}
use Rattle.vrl_value.specs.Tag.{tag_of}
use Rattle.vrl_value.specs.Tree.{Tree, string, integer, boolean, null, timestamp, regex, array, object, Items, no_items, item}
use Rattle.vrl_value.specs.View.{items_of_trees}
use Rattle.vrl_value.specs.declared.value.Tag.{Tag}
use Rattle.vrl_value.specs.declared.value.Tag.TheVariants as tag
use Rattle.vrl_kind.specs.KindTree.{KindTree, RestTree, nothing, json_rest, any_rest, exact, Places, no_places, known_place}
use Rattle.vrl_kind.specs.Kinds.{never_at, or_absent, places_at, rest_at, tags_at}
use Rattle.vrl_kind.specs.Make.{array_kind}
use Rattle.vrl_kind.specs.Sets.{Sets, IsAllowed}
use Rattle.vrl_kind.specs.Tags.{same_tag}
use Rattle.vrl_builtin.proofs.Containers.{each_at, EachItem}
use Rattle.vrl_builtin.proofs.GivenTags.{no}
use Rattle.vrl_builtin.specs.Listed.{trees_in}
use Rattle.fn_list.specs.Sure.{all_sure, chosen, is_known, is_nothing, is_sure, is_there, joined, placed, then_places, widened}

-- what may be absent isn't there
absent_not_there : {C : Type 0} (b : Bool) → b ≡ true → not b ≡ true → C
absent_not_there true absent there = no there
absent_not_there false absent there = no absent

not_absent : (v : Tree) → same_tag tag.Absent (tag_of v) ≡ false
not_absent (string s) = refl
not_absent (integer n) = refl
not_absent (boolean b) = refl
not_absent null = refl
not_absent (timestamp nanos) = refl
not_absent (regex n) = refl
not_absent (array ts) = refl
not_absent (object ms) = refl

-- what stands at a path that begins with a place
abbrev pub at_place : Option Tree → List Step → Option Tag
at_place o p = tag_found (found_behind (found_if o) p (λ u. raw_at u p))

-- the items are of the kinds at these places, and of the rest behind
abbrev pub FitPlaces : Items → Places → RestTree → Type 0
FitPlaces ts ps r =
    (i : ℕ) (p : List Step) → IfSome (at_place (item_at i ts) p) (λ t. IsTrue (places_at ps i p (rest_at r p) t))

-- ---- lengths that are known

pub join_fit : (ts : Items) (us : List Tree) (ps qs : Places) (r : RestTree) → all_sure ps ≡ true
    → FitPlaces ts ps nothing → FitPlaces (items_of_trees us) qs r →
    FitPlaces (items_of_trees (trees_in ts ++ us)) (then_places ps qs) r
join_fit no_items us no_places qs r sure first second i p = second i p
join_fit no_items us (known_place k ps) qs r sure first second i p =
    absent_not_there (tags_at k [] tag.Absent) (first zero []) (and_parts (is_there k) (all_sure ps) sure).0
join_fit (item t ts) us no_places qs r sure first second i p = no (sym (not_absent t) ∙ first zero [])
join_fit (item t ts) us (known_place k ps) qs r sure first second zero p = first zero p
join_fit (item t ts) us (known_place k ps) qs r sure first second (suc i) p =
    join_fit ts us ps qs r (and_parts (is_there k) (all_sure ps) sure).1 (λ j q. first (suc j) q) second i p

pub nothing_behind : (p : List Step) → IfSome (at_place None p) (λ t. IsTrue (or_absent p (never_at p) t))
nothing_behind [] = refl
nothing_behind (s ∷ p) = tt

pub one_fit : (v : Tree) (K : KindTree) → IsAllowed v (tags_at K)
    → FitPlaces (item v no_items) (known_place K no_places) nothing
one_fit v K allowed zero p = allowed p
one_fit v K allowed (suc i) p = nothing_behind p

pub exactly_allowed : (ts : Items) (ps : Places) → FitPlaces ts ps nothing
    → IsAllowed (array ts) (tags_at (array_kind ps nothing))
exactly_allowed ts ps fit [] = refl
exactly_allowed ts ps fit (place i ∷ p) = fit i p
exactly_allowed ts ps fit (field n ∷ p) = tt

-- ---- lengths that aren't

sure_there : {C : Type 0} (ps : Places) (i : ℕ) (T : Tag → Bool) → is_sure ps i ≡ true
    → places_at ps i [] T tag.Absent ≡ true → C
sure_there no_places i T sure absent = no sure
sure_there (known_place k ps) zero T sure absent = absent_not_there (tags_at k [] tag.Absent) absent sure
sure_there (known_place k ps) (suc i) T sure absent =
    sure_there ps i T (and_parts (is_there k) (is_sure ps i) sure).1 absent

in_first : (B A : Sets) (p : List Step) (t : Tag) → IsTrue (B p t) → IsTrue (joined B A p t)
in_first B A [] t is = or_left (B [] t || A [] t) (same_tag tag.Absent t) (or_left (B [] t) (A [] t) is)
in_first B A (s ∷ p) t is = or_left (B (s ∷ p) t) (A (s ∷ p) t) is

in_second : (B A : Sets) (p : List Step) (t : Tag) → IsTrue (A p t) → IsTrue (joined B A p t)
in_second B A [] t is = or_left (B [] t || A [] t) (same_tag tag.Absent t) (or_right (B [] t) (A [] t) is)
in_second B A (s ∷ p) t is = or_right (B (s ∷ p) t) (A (s ∷ p) t) is

stays_in : (b : Bool) (B A : Sets) (p : List Step) (t : Tag) → IsTrue (B p t)
    → IsTrue (if b then B p t else joined B A p t)
stays_in true B A p t is = is
stays_in false B A p t is = in_first B A p t is

absent_in : (b : Bool) (B A : Sets) → IsTrue (B [] tag.Absent)
    → IsTrue (if b then B [] tag.Absent else joined B A [] tag.Absent)
absent_in b B A is = stays_in b B A [] tag.Absent is

comes_in : (b : Bool) (B A : Sets) (p : List Step) (t : Tag) → b ≡ false → IsTrue (A p t)
    → IsTrue (if b then B p t else joined B A p t)
comes_in true B A p t unsure is = no (sym unsure)
comes_in false B A p t unsure is = in_second B A p t is

some_so : (o : Option Tag) (P Q : Tag → Type 0) → ((t : Tag) → P t → Q t) → IfSome o P → IfSome o Q
some_so None P Q so is = tt
some_so (Some t) P Q so is = so t is

-- an item of the two lists is one of the first, or there is none there
at_joined : (ts : Items) (us : List Tree) (i : ℕ) (P : Tree → Type 0) (C : Option Tree → Type 0)
    → EachItem P (items_of_trees us) → ((v : Tree) → item_at i ts ≡ Some v → C (Some v)) →
    (item_at i ts ≡ None → (o : Option Tree) → IfSome o P → C o) → C (item_at i (items_of_trees (trees_in ts ++ us)))
at_joined no_items us i P C each first second =
    second refl (item_at i (items_of_trees us)) (each_at P (items_of_trees us) i each)
at_joined (item t ts) us zero P C each first second = first t refl
at_joined (item t ts) us (suc i) P C each first second = at_joined ts us i P C each first second

new_item : (ps : Places) (r : RestTree) (A : Sets) (i : ℕ) (o : Option Tree) (p : List Step)
    → IsTrue (places_at ps i [] (rest_at r []) tag.Absent) → IfSome o (λ v. IsAllowed v A) →
    IfSome (at_place o p) (λ t. IsTrue (widened ps r A i p t))
new_item ps r A i None [] absent allowed = absent_in (is_sure ps i) (λ q. places_at ps i q (rest_at r q)) A absent
new_item ps r A i None (s ∷ p) absent allowed = tt
new_item ps r A i (Some v) p absent allowed =
    some_so (tag_found (raw_at v p)) (λ t. IsTrue (A p t)) (λ t. IsTrue (widened ps r A i p t))
    (λ t is. comes_in (is_sure ps i) (λ q. places_at ps i q (rest_at r q)) A p t
    (false_from_ne_true (is_sure ps i) (λ sure. sure_there ps i (rest_at r []) sure absent)) is) (allowed p)

pub wide_fit : (ts : Items) (us : List Tree) (ps : Places) (r : RestTree) (A : Sets) → FitPlaces ts ps r
    → EachItem (λ v. IsAllowed v A) (items_of_trees us) → (i : ℕ) (p : List Step) →
    IfSome (at_place (item_at i (items_of_trees (trees_in ts ++ us))) p) (λ t. IsTrue (widened ps r A i p t))
wide_fit ts us ps r A fit each i p =
    at_joined ts us i (λ v. IsAllowed v A) (λ o. IfSome (at_place o p) (λ t. IsTrue (widened ps r A i p t))) each
    (λ v found. some_so (tag_found (raw_at v p)) (λ t. IsTrue (places_at ps i p (rest_at r p) t))
    (λ t. IsTrue (widened ps r A i p t))
    (λ t is. stays_in (is_sure ps i) (λ q. places_at ps i q (rest_at r q)) A p t is)
    (subst (λ (o : Option Tree). IfSome (at_place o p) (λ t. IsTrue (places_at ps i p (rest_at r p) t))) found
    (fit i p)))
    (λ none o allowed. new_item ps r A i o p
    (subst (λ (a : Option Tree). IfSome (at_place a []) (λ t. IsTrue (places_at ps i [] (rest_at r []) t))) none
    (fit i [])) allowed)

pub widely_allowed : (ts : Items) (us : List Tree) (ps : Places) (r : RestTree) (A : Sets) → FitPlaces ts ps r
    → EachItem (λ v. IsAllowed v A) (items_of_trees us) →
    IsAllowed (array (items_of_trees (trees_in ts ++ us))) (placed (widened ps r A))
widely_allowed ts us ps r A fit each [] = refl
widely_allowed ts us ps r A fit each (place i ∷ p) = wide_fit ts us ps r A fit each i p
widely_allowed ts us ps r A fit each (field n ∷ p) = tt

-- ---- one or the other

pub choice_allowed : (v : Tree) (b : Bool) (A B : Sets) → (b ≡ true → IsAllowed v A) → (b ≡ false → IsAllowed v B)
    → IsAllowed v (chosen b A B)
choice_allowed v true A B first second p = first refl p
choice_allowed v false A B first second p = second refl p

pub choice_absent : (b : Bool) (A B : Sets) → A [] tag.Absent ≡ false → B [] tag.Absent ≡ false
    → chosen b A B [] tag.Absent ≡ false
choice_absent true A B first second = first
choice_absent false A B first second = second

pub nothing_known : (ts : Items) (ps : Places) (r : RestTree) → is_known ps r ≡ true → FitPlaces ts ps r
    → FitPlaces ts ps nothing
nothing_known ts ps nothing known fit = fit
nothing_known ts ps json_rest known fit = no known
nothing_known ts ps any_rest known fit = no known
nothing_known ts ps (exact k) known fit = no known

pub known_sure : (ps : Places) (r : RestTree) → is_known ps r ≡ true → all_sure ps ≡ true
known_sure ps r known = (and_parts (is_nothing r) (all_sure ps) known).1
