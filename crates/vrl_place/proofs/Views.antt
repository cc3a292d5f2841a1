-- What is known of the parts of a kind, and what is allowed there.
use Rattle.std.proofs.Common.{◌≡◌, ℕ, zero, suc, ◌<◌, ◌≤◌, Bool, true, ◌||◌, ◌&&◌, List, [], ◌∷◌, ◌++◌, length, get_or, refl, sym, ap, ◌∙◌, subst, arith, length-append, below_more}
use Rattle.std.specs.Cmp.Lexicographic.{slice_cmp}
use Rattle.std.specs.Ordering.{nat_cmp}
use Rattle.vrl_value.specs.Look.{Step, field, place}
use Rattle.vrl_value.specs.declared.value.Tag.{Tag}
use Rattle.vrl_value.specs.declared.value.Tag.TheVariants as tag
use Rattle.vrl_kind.specs.KindTree.{KindTree, kind, ListTree, list_part, ObjectTree, object_part, RestTree, Places as KnownPlaces, KnownFields, no_fields, known_field}
use Rattle.vrl_kind.specs.Canonical.{IsCanonical, ObjectIsCanonical, object_tree}
use Rattle.vrl_kind.specs.Change.{with_list, with_object}
use Rattle.vrl_kind.specs.Kinds.{SameTags, object_at, rest_at, tags_at, places_at, fields_at}
use Rattle.vrl_kind.specs.Merge.{FieldsAreSorted}
use Rattle.vrl_kind.specs.Sets.{Sets, SameSets}
use Rattle.vrl_kind.specs.Tags.{Tags, same_tag}
use Rattle.vrl_kind.specs.View.{places_view, fields_view}
use Rattle.vrl_kind.specs.declared.scalars.Scalars.{Scalars}
use Rattle.vrl_place.specs.Inner.{ArePlaces, FieldsAreOf, sets_with_list, sets_with_object, spot_sets}
use Rattle.vrl_place.specs.Sets.{or_absent_if}
use Rattle.vrl_kind.proofs.Ahead.{fields_sorted}
use Rattle.vrl_place.specs.declared.fields.Fields.{Fields}
use Rattle.vrl_place.proofs.Orders.{tags_cases}
use Rattle.vrl_place.proofs.Same.{or_false, or_true, turned}

pub fields_cong : (fs : KnownFields) (n : List ℕ) (p : List Step) (T U : Tags) (t : Tag) → T t ≡ U t → fields_at fs n p T t ≡ fields_at fs n p U t
fields_cong no_fields n p T U t e = e
fields_cong (known_field m k fs) n p T U t e = tags_cases (slice_cmp nat_cmp n m) _ _ _ _ _ _ t (fields_cong fs n p T U t e) refl (fields_cong fs n p T U t e)

pub tags_field : (K : KindTree) (n : List ℕ) (p : List Step) (t : Tag) → tags_at K (field n ∷ p) t ≡ object_at (object_tree K) n p t
tags_field (kind s l o) n p t = refl

object_canonical : (K : KindTree) → IsCanonical K → ObjectIsCanonical (object_tree K)
object_canonical (kind s l o) canonical = canonical.1

-- the known fields of a kind are in order
known_sorted : (K : KindTree) (gs fs : KnownFields) (r : RestTree) → IsCanonical K → object_tree K ≡ object_part gs r → fs ≡ gs → FieldsAreSorted fs
known_sorted K gs fs r canonical is known = subst FieldsAreSorted (sym known) (fields_sorted gs (subst ObjectIsCanonical is (object_canonical K canonical)).0)

pub some_fields_of : (K : KindTree) (fs : Fields) (gs : KnownFields) (r : RestTree) → IsCanonical K → object_tree K ≡ object_part gs r → fields_view fs.known.now ≡ gs → SameSets (spot_sets fs.behind) (rest_at r) → fs.behind.absent ≡ true → FieldsAreOf (tags_at K) fs
some_fields_of K fs gs r canonical is known behind absent = record {
  at = λ n p t. tags_field K n p t ∙ ap (λ o. object_at o n p t) is ∙ fields_cong gs n p (rest_at r p) (spot_sets fs.behind p) t (sym (behind p t)) ∙ ap (λ q. fields_at q n p (spot_sets fs.behind p) t) (sym known);
  absent = λ yes. absent;
  sorted = known_sorted K gs (fields_view fs.known.now) r canonical is known;
}

-- a place that is known, and one that isn't
pub place_known : (ks : List KindTree) (i : ℕ) (k : KindTree) (p : List Step) (T : Tags) → i < length ks → k ≡ get_or ks i k → places_at (places_view ks) i p T ≡ tags_at k p
place_known [] i k p T below is = absurd (omega arith)
place_known (x ∷ ks) zero k p T below is = ap (λ y. tags_at y p) (sym is)
place_known (x ∷ ks) (suc i) k p T below is = place_known ks i k p T (omega arith) is

pub place_beyond : (ks : List KindTree) (i : ℕ) (p : List Step) (T : Tags) → length ks ≤ i → places_at (places_view ks) i p T ≡ T
place_beyond [] i p T above = refl
place_beyond (x ∷ ks) zero p T above = absurd (omega arith)
place_beyond (x ∷ ks) (suc i) p T above = place_beyond ks i p T (omega arith)

in_front : (ks : List KindTree) (k : KindTree) (i : ℕ) (p : List Step) (T : Tags) → i < length ks → places_at (places_view (ks ++ k ∷ [])) i p T ≡ places_at (places_view ks) i p T
in_front [] k i p T below = absurd (omega arith)
in_front (x ∷ ks) k zero p T below = refl
in_front (x ∷ ks) k (suc i) p T below = in_front ks k i p T (omega arith)

at_end : (ks : List KindTree) (k : KindTree) (n : ℕ) (p : List Step) (T : Tags) → n ≡ length ks → places_at (places_view (ks ++ k ∷ [])) n p T ≡ tags_at k p
at_end [] k zero p T e = refl
at_end [] k (suc n) p T e = absurd (omega arith)
at_end (x ∷ ks) k zero p T e = absurd (omega arith)
at_end (x ∷ ks) k (suc n) p T e = at_end ks k n p T (omega arith)

-- one more place
places_pushed : (ks ls : List KindTree) (k : KindTree) (n : ℕ) (S : ℕ → Sets) → ls ≡ ks ++ k ∷ [] → n ≡ length ks → ArePlaces ks S → SameSets (tags_at k) (S n) → ArePlaces ls S
places_pushed ks ls k n S e count are same = rw e record {
  at = λ i below p T t. below_more (λ j. places_at (places_view (ks ++ k ∷ [])) j p T t ≡ S j p t) n
      (λ j under. ap (λ U. U t) (in_front ks k j p T (omega (arith, under, count))) ∙ are.at j (omega (arith, under, count)) p T t)
      (ap (λ U. U t) (at_end ks k n p T count) ∙ same p t)
      i (omega (arith, below, count, length-append ks (k ∷ [])));
}

-- the same places of sets that agree below an end
pub places_again : (ks : List KindTree) (R S : ℕ → Sets) → ((i : ℕ) → i < length ks → SameSets (R i) (S i)) → ArePlaces ks R → ArePlaces ks S
places_again ks R S same are = record { at = λ i below p T t. are.at i below p T t ∙ same i below p t }

-- the places that are made so far
pub record AreSoFar (ks : List KindTree) (n : ℕ) (S : ℕ → Sets) : Type 0 where
  pub count : length ks ≡ n
  pub are : ArePlaces ks S

pub more_so_far : (ks ls : List KindTree) (k : KindTree) (n next : ℕ) (S : ℕ → Sets) → ls ≡ ks ++ k ∷ [] → next ≡ suc n → AreSoFar ks n S → SameSets (tags_at k) (S n) → AreSoFar ls next S
more_so_far ks ls k n next S e is far same = record {
  count = ap length e ∙ length-append ks (k ∷ []) ∙ omega (arith, far.count);
  are = places_pushed ks ls k n S e (sym far.count) far.are same;
}

-- the kind with other arrays, or with other objects
with_list_root : (s : Scalars) (l : ListTree) (o : ObjectTree) (ps : KnownPlaces) (r : RestTree) (t : Tag) → tags_at (kind s (list_part ps r) o) [] t ≡ (tags_at (kind s l o) [] t || same_tag t tag.List)
with_list_root s l o ps r tag.Text = sym (or_false _)
with_list_root s l o ps r tag.Int = sym (or_false _)
with_list_root s l o ps r tag.Bool = sym (or_false _)
with_list_root s l o ps r tag.Null = sym (or_false _)
with_list_root s l o ps r tag.Time = sym (or_false _)
with_list_root s l o ps r tag.Pattern = sym (or_false _)
with_list_root s l o ps r tag.List = sym (or_true _)
with_list_root s l o ps r tag.Object = sym (or_false _)
with_list_root s l o ps r tag.Absent = sym (or_false _)

with_object_root : (s : Scalars) (l : ListTree) (o : ObjectTree) (fs : KnownFields) (r : RestTree) (t : Tag) → tags_at (kind s l (object_part fs r)) [] t ≡ (tags_at (kind s l o) [] t || same_tag t tag.Object)
with_object_root s l o fs r tag.Text = sym (or_false _)
with_object_root s l o fs r tag.Int = sym (or_false _)
with_object_root s l o fs r tag.Bool = sym (or_false _)
with_object_root s l o fs r tag.Null = sym (or_false _)
with_object_root s l o fs r tag.Time = sym (or_false _)
with_object_root s l o fs r tag.Pattern = sym (or_false _)
with_object_root s l o fs r tag.List = sym (or_false _)
with_object_root s l o fs r tag.Object = sym (or_true _)
with_object_root s l o fs r tag.Absent = sym (or_false _)

pub list_over : (K M : KindTree) (A : Sets) (ps : KnownPlaces) (r : RestTree) → SameSets (tags_at K) A → SameTags M (with_list K ps r) → SameSets (tags_at M) (sets_with_list A ps r)
list_over (kind s l o) M A ps r same made [] t = made [] t ∙ with_list_root s l o ps r t ∙ ap (λ b. b || same_tag t tag.List) (same [] t)
list_over (kind s l o) M A ps r same made (place i ∷ p) t = made (place i ∷ p) t
list_over (kind s l o) M A ps r same made (field n ∷ p) t = made (field n ∷ p) t ∙ same (field n ∷ p) t

pub object_over : (K M : KindTree) (A : Sets) (fs : KnownFields) (r : RestTree) → SameSets (tags_at K) A → SameTags M (with_object K fs r) → SameSets (tags_at M) (sets_with_object A fs r)
object_over (kind s l o) M A fs r same made [] t = made [] t ∙ with_object_root s l o fs r t ∙ ap (λ b. b || same_tag t tag.Object) (same [] t)
object_over (kind s l o) M A fs r same made (place i ∷ p) t = made (place i ∷ p) t ∙ same (place i ∷ p) t
object_over (kind s l o) M A fs r same made (field n ∷ p) t = made (field n ∷ p) t

-- and absent beside it
pub list_beside : (b : Bool) (A B C : Sets) (ps : KnownPlaces) (r : RestTree) → SameSets B (sets_with_list A ps r) → SameSets C (or_absent_if b B) → SameSets C (sets_with_list (or_absent_if b A) ps r)
list_beside b A B C ps r first second [] t = second [] t ∙ ap (λ x. x || (b && same_tag t tag.Absent)) (first [] t) ∙ turned (A [] t) (same_tag t tag.List) (b && same_tag t tag.Absent)
list_beside b A B C ps r first second (place i ∷ p) t = second (place i ∷ p) t ∙ first (place i ∷ p) t
list_beside b A B C ps r first second (field n ∷ p) t = second (field n ∷ p) t ∙ first (field n ∷ p) t

pub object_beside : (b : Bool) (A B C : Sets) (fs : KnownFields) (r : RestTree) → SameSets B (sets_with_object A fs r) → SameSets C (or_absent_if b B) → SameSets C (sets_with_object (or_absent_if b A) fs r)
object_beside b A B C fs r first second [] t = second [] t ∙ ap (λ x. x || (b && same_tag t tag.Absent)) (first [] t) ∙ turned (A [] t) (same_tag t tag.Object) (b && same_tag t tag.Absent)
object_beside b A B C fs r first second (place i ∷ p) t = second (place i ∷ p) t ∙ first (place i ∷ p) t
object_beside b A B C fs r first second (field n ∷ p) t = second (field n ∷ p) t ∙ first (field n ∷ p) t
